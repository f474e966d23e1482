use Rattle.naga_runs.proofs.BlockRunsLemmas.{BlockRuns-one_run}
use Rattle.naga_runs.proofs.laws.block_has_one_run.Goals as goal

pub returns : goal.returns
returns c = BlockRuns-one_run
