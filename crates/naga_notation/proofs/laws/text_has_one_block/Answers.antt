use Rattle.naga_notation.proofs.ReadFromLemmas.{Notation-one_block}
use Rattle.naga_notation.proofs.laws.text_has_one_block.Goals as goal

pub returns : goal.returns
returns c = Notation-one_block
