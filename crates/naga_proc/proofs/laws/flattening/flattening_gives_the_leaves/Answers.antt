use Rattle.naga_proc.proofs.Flattening.HasLeavesLemmas.{flattened_leaves}
use Rattle.naga_proc.proofs.laws.flattening.flattening_gives_the_leaves.Goals as goal

pub returns : goal.returns
returns c = λ types arena ty size components is nests. flattened_leaves types arena ty components nests size is
