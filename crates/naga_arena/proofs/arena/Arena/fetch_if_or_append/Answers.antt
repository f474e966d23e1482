use Rattle.std.proofs.Common.{◌≡◌, refl, ap, sym, ◌∙◌, inl, inr}
use Rattle.naga_arena.specs.Arena.{values}
use Rattle.naga_arena.proofs.ZipLemmas.{values-zip}
use Rattle.naga_arena.proofs.arena.Arena.fetch_if_or_append.Goals as goal

pub returns-in-Some : goal.returns-in-Some
returns-in-Some g c =
    let same : values c.args.self.now ≡ c.as_slice.result.now = ap values (sym c.self.view_is) ∙ values-zip _ _ c.self.invariant.0 ∙ sym c.as_slice.ensures.value in
    inl (c.at.result, refl, rw (same, c.at.ensures) c.in-Some.ensures.first, refl)

pub returns-in-None : goal.returns-in-None
returns-in-None g c =
    let same : values c.args.self.now ≡ c.as_slice.result.now = ap values (sym c.self.view_is) ∙ values-zip _ _ c.self.invariant.0 ∙ sym c.as_slice.ensures.value in
    inr (rw same c.in-None.ensures.none, c.append.ensures)
