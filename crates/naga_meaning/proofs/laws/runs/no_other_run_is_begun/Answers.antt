use Rattle.naga_meaning.proofs.IsABeginningLemmas.{does-left_after}
use Rattle.naga_meaning.proofs.laws.runs.no_other_run_is_begun.Goals as goal

pub returns : goal.returns
returns g c = does-left_after
