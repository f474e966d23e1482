use Rattle.naga_proc.proofs.Texts.ReshapesLemmas.{Reshapes-refused}
use Rattle.naga_proc.proofs.laws.notation.answered_text_is_not_refused.Goals as goal

pub returns : goal.returns
returns c = Reshapes-refused
