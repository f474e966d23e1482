use Rattle.naga_passes.proofs.KeepsRunsLemmas.{After-KeepsRuns}
use Rattle.naga_passes.proofs.laws.culling_and_compacting_keep_runs.Goals as goal

pub returns : goal.returns
returns c = After-KeepsRuns
