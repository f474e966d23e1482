use Rattle.naga_text.proofs.ReadableEscapesLemmas.{visible-plain}
use Rattle.naga_text.proofs.laws.visible_message_is_plain.Goals as goal

pub returns : goal.returns
returns c = visible-plain
