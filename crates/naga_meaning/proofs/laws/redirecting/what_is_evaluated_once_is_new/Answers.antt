use Rattle.naga_meaning.proofs.EvaluatedOnceLemmas.{EvaluatedOnce-new}
use Rattle.naga_meaning.proofs.laws.redirecting.what_is_evaluated_once_is_new.Goals as goal

pub returns : goal.returns
returns g = EvaluatedOnce-new
