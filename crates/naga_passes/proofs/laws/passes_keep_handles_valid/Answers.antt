use Rattle.naga_passes.proofs.AfterLemmas.{After-HandlesAreValid}
use Rattle.naga_passes.proofs.laws.passes_keep_handles_valid.Goals as goal

pub returns : goal.returns
returns c = After-HandlesAreValid
