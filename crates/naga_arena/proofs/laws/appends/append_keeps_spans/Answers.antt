use Rattle.std.proofs.Common.{ap}
use Rattle.std.specs.Prelude.{unwrap_or}
use Rattle.naga_arena.specs.Span.{undefined}
use Rattle.naga_arena.proofs.ValueAtLemmas.{slice_get-map-push}
use Rattle.naga_arena.proofs.laws.appends.append_keeps_spans.Goals as goal

pub returns : goal.returns
returns g c = λ arena pair older within.
    ap (λ span. unwrap_or span undefined) (slice_get-map-push _ arena pair older within)
