use Rattle.naga_compact.proofs.IsUsedLemmas.{AreUsed-fewest}
use Rattle.naga_compact.proofs.laws.modules.used_elements_are_the_fewest.Goals as goal

pub returns : goal.returns
returns c = AreUsed-fewest
