use Rattle.std.proofs.Common.{◌≡◌, ◌+◌, List, [], ◌∷◌, ◌++◌, Some, Ok, Err, drop, length, length-append, ap, sym, ◌∙◌, arith}
use Rattle.std.specs.List.{slice_get}
use Rattle.std.proofs.lemmas.List.{append_assoc}
use Rattle.naga_arena.specs.Arena.{values}
use Rattle.naga_layouter.specs.Layout.{laying, layout_of}
use Rattle.naga_layouter.specs.declared.layouter.TypeLayout.{TypeLayout as Laid}
use Rattle.naga_layouter.proofs.LayingLemmas.{laying-more, laying-stop, stopped-by}
use Rattle.naga_layouter.proofs.layouter.lay.Goals as goal

pub returns-in-Err-clause-stopped : goal.returns-in-Err-clause-stopped
returns-in-Err-clause-stopped c =
    let ctx = c.args.gctx in
    let known = c.each.known.items in
    let vs = values c.args.gctx.types.now in
    let vs-old = drop (length c.args.known.now.items) vs in
    let type = c.index.result.now in
    let here : slice_get vs c.each.index ≡ Some type = rw c.at-ty.ensures at c.index.ensures in
    let found : layout_of ctx known type.inner ≡ Err c.in-Err.inner =
    ap (λ (so-far : List Laid). layout_of ctx so-far type.inner) (sym c.as_slice.ensures.value) ∙ sym c.in-Err.ensures in (
      c.at-ty.ensures ∙ sym c.each.invariant.reached,
      stopped-by ctx c.args.known.now.items known known vs-old type.inner c.in-Err.inner found
          (sym c.each.invariant.laid ∙ laying-stop ctx known vs c.each.index type c.in-Err.inner here found),
    )

pub each-preserved : goal.each-preserved
each-preserved c =
    let ctx = c.args.gctx in
    let known = c.each.known.items in
    let vs = values c.args.gctx.types.now in
    let type = c.index.result.now in
    let layout = c.in-Ok.layout in
    let here : slice_get vs c.each.index ≡ Some type = rw c.at-ty.ensures at c.index.ensures in
    let found : layout_of ctx known type.inner ≡ Ok layout =
    ap (λ (so-far : List Laid). layout_of ctx so-far type.inner) (sym c.as_slice.ensures.value) ∙ sym c.in-Ok.ensures in
    let pushed : c.push_reserved.new.self.items ≡ known ++ layout ∷ [] = c.push_reserved.ensures.items in
    record {
      kept = (
        c.each.invariant.kept.0 ++ layout ∷ [],
        pushed ∙ ap (λ (so-far : List Laid). so-far ++ layout ∷ []) c.each.invariant.kept.1
            ∙ append_assoc c.args.known.now.items c.each.invariant.kept.0 (layout ∷ []),
      );
      reached = omega (arith, ap length pushed, length-append known (layout ∷ []), c.each.invariant.reached);
      room = omega (arith, c.push_reserved.ensures.capacity, c.each.invariant.room);
      laid = ap (λ (so-far : List Laid). laying ctx so-far (drop (c.each.index + 1) vs)) pushed
          ∙ sym (laying-more ctx known vs c.each.index type layout here found)
          ∙ c.each.invariant.laid;
    }
