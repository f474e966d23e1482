use Rattle.naga_passes.proofs.FunctionsComputeAfterLemmas.{FunctionsComputeAfter-passes}
use Rattle.naga_passes.proofs.laws.meanings.passes_keep_meanings.Goals as goal

pub returns : goal.returns
returns g c = FunctionsComputeAfter-passes g.row.Thing.Denot g.row.Value.Denot g.row.State.Denot
