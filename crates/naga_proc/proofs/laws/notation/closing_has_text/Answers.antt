use Rattle.naga_proc.proofs.Texts.ClosedOutlineLemmas.{ClosedBy-text}
use Rattle.naga_proc.proofs.laws.notation.closing_has_text.Goals as goal

pub returns : goal.returns
returns c = ClosedBy-text
