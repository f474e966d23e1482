use Rattle.std.proofs.Common.{refl}
use Rattle.naga_notation.proofs.OutlineOfLemmas.{Notation-one_text}
use Rattle.naga_notation.proofs.laws.block_has_one_text.Goals as goal

pub returns : goal.returns
returns c = record { at_most_one = Notation-one_text; drawn_has_one = λ outline. (outline, refl, refl) }
