use Rattle.naga_compact.proofs.CulledLemmas.{IsCulled-is}
use Rattle.naga_compact.proofs.laws.culled_blocks_are_their_own_culling.Goals as goal

pub returns : goal.returns
returns c = IsCulled-is
