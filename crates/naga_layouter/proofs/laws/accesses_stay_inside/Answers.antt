use Rattle.naga_layouter.proofs.AccessesLemmas.{accesses-stay-inside}
use Rattle.naga_layouter.proofs.laws.accesses_stay_inside.Goals as goal

pub returns : goal.returns
returns c = accesses-stay-inside
