use Rattle.naga_passes.proofs.IsEmptyModuleLemmas.{HandlesAreValid-empty}
use Rattle.naga_passes.proofs.laws.empty_modules_are_valid.Goals as goal

pub returns : goal.returns
returns c = HandlesAreValid-empty
