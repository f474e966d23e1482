use Rattle.naga_text.proofs.ReadableEscapesLemmas.{escaped-plain}
use Rattle.naga_text.proofs.laws.escaped_name_is_plain.Goals as goal

pub returns : goal.returns
returns c = escaped-plain
