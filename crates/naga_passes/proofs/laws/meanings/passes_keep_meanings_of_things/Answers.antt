use Rattle.naga_passes.proofs.FunctionsComputeAfterOfLemmas.{FunctionsComputeAfterOf-passes, KeepsPlacesAfter-some}
use Rattle.naga_passes.proofs.laws.meanings.passes_keep_meanings_of_things.Goals as goal

pub returns-clause-meanings : goal.returns-clause-meanings
returns-clause-meanings g c = FunctionsComputeAfterOf-passes g.row.Place.Denot g.row.Value.Denot g.row.State.Denot

pub returns-clause-places : goal.returns-clause-places
returns-clause-places g c = KeepsPlacesAfter-some
