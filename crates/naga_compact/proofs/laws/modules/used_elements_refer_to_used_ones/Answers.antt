use Rattle.naga_compact.proofs.IsUsedLemmas.{AreUsed-refers, AreUsed-root}
use Rattle.naga_compact.proofs.laws.modules.used_elements_refer_to_used_ones.Goals as goal

pub returns-clause-root : goal.returns-clause-root
returns-clause-root c = AreUsed-root

pub returns-clause-reference : goal.returns-clause-reference
returns-clause-reference c = AreUsed-refers
