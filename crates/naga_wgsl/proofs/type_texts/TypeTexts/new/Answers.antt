use Rattle.std.proofs.Common.{◌≡◌, [], ◌∷◌, ◌++◌, Some, length, length-append, ap, arith}
use Rattle.std.specs.List.{slice_get}
use Rattle.naga_arena.specs.Arena.{values}
use Rattle.naga_wgsl.specs.TypeTexts.{texts_of, type_text}
use Rattle.naga_wgsl.proofs.TextsAfterLemmas.{texts-more}
use Rattle.naga_wgsl.proofs.type_texts.TypeTexts.new.Goals as goal

pub each-preserved : goal.each-preserved
each-preserved c =
    let known = c.each.texts.items in
    let types = values c.args.types.now in
    let type = c.index.result.now in
    let here : slice_get types c.each.index ≡ Some type = rw c.at.ensures at c.index.ensures in
    let pushed : c.push.new.self.items ≡ known ++ c.in_ok-made.made ∷ [] = c.in_ok-push.ensures.items in
    record {
      reached = omega (arith, ap length pushed, length-append known (c.in_ok-made.made ∷ []), c.each.invariant.reached);
      found = texts-more (type_text c.args.layouts.now c.args.names.now) types known c.as_slice.result.now c.push.new.self.items
          (texts_of c.args.layouts.now c.args.names.now types) c.each.index type c.in_ok-made.made here c.each.invariant.reached
          c.as_slice.ensures.value c.in_ok-made.ensures pushed c.each.invariant.found;
    }
