use Rattle.std.proofs.Common.{◌≡◌, ◌∙◌, ◌≤◌, length, arith, sym}
use Rattle.naga_flow.proofs.ChainsLemmas.{AreChains-all, AreLinks-push}
use Rattle.naga_flow.proofs.chains.Chains.of.Goals as goal

pub expressions-preserved : goal.expressions-preserved
expressions-preserved c =
    let arena = c.args.expressions.now in
    let links = c.expressions.links.items in
    let here : c.at-handle.result ≡ length links = c.at-handle.ensures ∙ sym c.expressions.invariant.len in
    let len = c.in_ok-push.ensures.len in
    let same = c.expressions.invariant.len in
    record {
      links = AreLinks-push arena links c.push.new.self.items c.link_of-link.result c.at-handle.result
          c.expressions.invariant.links here c.link_of-link.ensures c.in_ok-push.ensures.items;
      len = omega (arith, len, same);
    }

pub invariant_of-result : goal.invariant_of-result
invariant_of-result c =
    let same = c.expressions.invariant.len in
    let all : length c.args.expressions.now ≤ length c.expressions.links.items =
    omega (arith, same, c.len-len.ensures.value, c.expressions-test.false) in
    AreChains-all c.args.expressions.now c.expressions.links.items c.expressions.invariant.links all
