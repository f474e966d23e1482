use Rattle.naga_arena.proofs.ValueAtLemmas.{slice_get-map-push}
use Rattle.naga_arena.proofs.laws.appends.append_keeps_values.Goals as goal

pub returns : goal.returns
returns g c = λ arena pair older within. slice_get-map-push _ arena pair older within
