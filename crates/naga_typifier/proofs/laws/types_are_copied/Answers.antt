use Rattle.naga_typifier.proofs.PlainLemmas.{types-stay}
use Rattle.naga_typifier.proofs.laws.types_are_copied.Goals as goal

pub returns : goal.returns
returns c = types-stay
