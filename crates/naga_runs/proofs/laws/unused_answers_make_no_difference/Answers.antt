use Rattle.naga_runs.proofs.UsedLemmas.{BlockRuns-unused_answers}
use Rattle.naga_runs.proofs.laws.unused_answers_make_no_difference.Goals as goal

pub returns : goal.returns
returns c = BlockRuns-unused_answers
