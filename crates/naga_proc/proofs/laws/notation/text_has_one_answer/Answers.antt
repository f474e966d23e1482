use Rattle.naga_proc.proofs.Texts.ReshapesLemmas.{Reshapes-one_answer}
use Rattle.naga_proc.proofs.laws.notation.text_has_one_answer.Goals as goal

pub returns : goal.returns
returns c = Reshapes-one_answer
