use Rattle.naga_notation.proofs.RefusedLemmas.{Refused-one_error}
use Rattle.naga_notation.proofs.laws.text_has_one_refusal.Goals as goal

pub returns : goal.returns
returns c = Refused-one_error
