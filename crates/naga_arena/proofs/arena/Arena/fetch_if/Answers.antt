use Rattle.std.proofs.Common.{◌≡◌, ap, sym, ◌∙◌}
use Rattle.naga_arena.specs.Arena.{values}
use Rattle.naga_arena.proofs.ZipLemmas.{values-zip}
use Rattle.naga_arena.proofs.arena.Arena.fetch_if.Goals as goal

pub returns-clause-none : goal.returns-clause-none
returns-clause-none g c =
    let same : values c.args.self.now ≡ c.as_slice.result.now = ap values (sym c.self.view_is) ∙ values-zip _ _ c.self.invariant.0 ∙ sym c.as_slice.ensures.value in
    rw same c.in-None.ensures.none
