use Rattle.naga_meaning.proofs.IsABeginningLemmas.{machine-never_stops}
use Rattle.naga_meaning.proofs.laws.runs.runs_end_only_by_actions.Goals as goal

pub returns : goal.returns
returns g c = machine-never_stops
