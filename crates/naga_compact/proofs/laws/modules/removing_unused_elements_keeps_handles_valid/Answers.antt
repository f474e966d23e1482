use Rattle.naga_compact.proofs.SizePrecedesLemmas.{HandlesAreValid-removed}
use Rattle.naga_compact.proofs.laws.modules.removing_unused_elements_keeps_handles_valid.Goals as goal

pub returns : goal.returns
returns c = HandlesAreValid-removed
