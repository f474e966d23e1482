use Rattle.std.proofs.Common.{◌≡◌, [], ◌∷◌, ◌++◌, Some, length, length-append, ap, arith}
use Rattle.std.specs.List.{slice_get}
use Rattle.naga_arena.specs.Arena.{values}
use Rattle.naga_wgsl.specs.ExpressionTexts.{expression_text, expression_texts}
use Rattle.naga_wgsl.proofs.TextsAfterLemmas.{texts-more}
use Rattle.naga_wgsl.proofs.expression_texts.ExpressionTexts.new.Goals as goal

pub each-preserved : goal.each-preserved
each-preserved c =
    let known = c.each.texts.items in
    let expressions = values c.args.expressions.now in
    let expression = c.index-expression.result.now in
    let here : slice_get expressions c.each.index ≡ Some expression = rw c.at.ensures at c.index-expression.ensures in
    let pushed : c.push.new.self.items ≡ known ++ c.in_ok-made.made ∷ [] = c.in_ok-push.ensures.items in
    record {
      reached = omega (arith, ap length pushed, length-append known (c.in_ok-made.made ∷ []), c.each.invariant.reached);
      found = texts-more (expression_text c.args.scope.now c.args.shapes.now c.args.names.now) expressions known c.as_slice.result.now c.push.new.self.items
          (expression_texts c.args.scope.now c.args.shapes.now c.args.names.now expressions) c.each.index expression c.in_ok-made.made here c.each.invariant.reached
          c.as_slice.ensures.value c.in_ok-made.ensures pushed c.each.invariant.found;
    }
