use Rattle.naga_passes.proofs.FoundAfterLemmas.{calls-after}
use Rattle.naga_passes.proofs.laws.meanings.passes_keep_calls.Goals as goal

pub returns : goal.returns
returns g c = λ passes renumberings old new look look' become function_of finds.
    calls-after g.row.Value.Denot g.row.State.Denot look look' passes renumberings old new become function_of finds
