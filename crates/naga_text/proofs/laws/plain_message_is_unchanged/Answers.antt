use Rattle.naga_text.proofs.ReadableEscapesLemmas.{visible-unchanged}
use Rattle.naga_text.proofs.laws.plain_message_is_unchanged.Goals as goal

pub returns : goal.returns
returns c = visible-unchanged
