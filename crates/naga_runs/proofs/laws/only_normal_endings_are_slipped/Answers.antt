use Rattle.naga_runs.proofs.SlippedLemmas.{BlockRuns-slipped}
use Rattle.naga_runs.proofs.laws.only_normal_endings_are_slipped.Goals as goal

pub returns : goal.returns
returns c = λ turns block answers run d slipped. BlockRuns-slipped d slipped
