use Rattle.std.proofs.Common.{◌≡◌, ◌∙◌, ◌<◌, ◌∷◌, ◌++◌, [], ap, arith, length, subst, sym}
use Rattle.std.specs.Prelude.{nat_lt}
use Rattle.naga_flow.specs.ConstantChains.{with_if}
use Rattle.naga_wgsl.specs.Choices.{AreChosen, AreDepths, depth_at}
use Rattle.naga_wgsl.proofs.ChoosingLemmas.{AreChosen-none, AreChosen-push, AreDepths-none, AreDepths-push, length-last}
use Rattle.naga_wgsl.proofs.choices.choose.Goals as goal

pub expressions-init : goal.expressions-init
expressions-init c =
    let choices = c.args.choices.now in
    record {
      count = ap length c.in_ok-depths.ensures.items;
      depths = subst (AreDepths choices) (sym c.in_ok-depths.ensures.items) (AreDepths-none choices);
      chosen = AreChosen-none choices c.in_ok-written.written c.in_ok-written.ensures;
    }

pub expressions-preserved : goal.expressions-preserved
expressions-preserved c =
    let choices = c.args.choices.now in
    let depth = c.depth-depth.result in
    let is : c.at-handle.result ≡ c.expressions.index = c.at-handle.ensures in
    let depth_is : depth ≡ depth_at choices c.expressions.index = c.depth-depth.ensures ∙ ap (depth_at choices) is in
    let items : c.push.new.self.items ≡ c.expressions.depths.items ++ depth ∷ [] = c.in_ok-push.ensures.items in
    let inside : c.expressions.index < length choices.expressions.now = omega (arith, c.expressions-test.true, c.len-len.ensures.value) in
    record {
      count = omega (arith, ap length items, length-last choices c.expressions.depths.items depth, c.expressions.invariant.count);
      depths = subst (AreDepths choices) (sym items) (AreDepths-push choices c.expressions.depths.items depth c.expressions.invariant.depths (depth_is ∙ ap (depth_at choices) (sym c.expressions.invariant.count)));
      chosen =
          AreChosen-push choices c.expressions.index c.expressions.written c.insert_if.new.members (nat_lt 0 depth) c.expressions.invariant.chosen inside (ap (nat_lt 0) depth_is)
          (c.in_ok-insert_if.ensures ∙ ap (with_if (nat_lt 0 depth) c.expressions.written) is);
    }

pub returns : goal.returns
returns c =
    let choices = c.args.choices.now in
    let all : c.expressions.index ≡ length choices.expressions.now = omega (arith, c.expressions-test.false, c.expressions.auto.index-end, c.len-len.ensures.value) in
    subst (λ count. AreChosen choices count c.expressions.written) all c.expressions.invariant.chosen
