use Rattle.naga_meaning.proofs.AnswersAtLemmas.{only-run}
use Rattle.naga_meaning.proofs.laws.runs.no_other_run_is_a_meaning.Goals as goal

pub returns : goal.returns
returns g c = only-run
