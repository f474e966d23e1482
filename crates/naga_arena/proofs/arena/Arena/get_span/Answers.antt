use Rattle.std.proofs.Common.{◌≡◌, ◌≤◌, length, ap, sym, ◌∙◌, arith}
use Rattle.std.proofs.lemmas.Option.{slice_get_past}
use Rattle.std.proofs.lemmas.Bool.Decides.{nat_tests}
use Rattle.naga_arena.specs.Arena.{spans}
use Rattle.naga_arena.proofs.ZipLemmas.{spans-zip}
use Rattle.naga_arena.proofs.arena.Arena.get_span.Goals as goal

pub returns-in-None : goal.returns-in-None
returns-in-None g c =
    let same : spans c.args.self.now ≡ c.self.inside.span_info.items = ap spans (sym c.self.view_is) ∙ spans-zip _ _ c.self.invariant.0 in
    let past : length c.self.inside.span_info.items ≤ c.args.handle = grind (arith, nat_tests) in
    rw (same, slice_get_past _ _ past)
