use Rattle.naga_proc.proofs.Building.IsCoveredLemmas.{IsCovered-iff}
use Rattle.naga_proc.proofs.laws.building.what_is_appended_between_start_and_finish_is_emitted.Goals as goal

pub returns : goal.returns
returns c = IsCovered-iff
