use Rattle.naga_compact.proofs.CompactsFunctionsLemmas.{HandlesAreValid-compacted_functions}
use Rattle.naga_compact.proofs.laws.modules.compacting_functions_keeps_handles_valid.Goals as goal

pub returns : goal.returns
returns c = HandlesAreValid-compacted_functions
