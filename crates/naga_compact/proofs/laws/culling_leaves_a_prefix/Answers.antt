use Rattle.naga_compact.proofs.CulledLemmas.{culled-IsPrefix}
use Rattle.naga_compact.proofs.laws.culling_leaves_a_prefix.Goals as goal

pub returns : goal.returns
returns c = culled-IsPrefix
