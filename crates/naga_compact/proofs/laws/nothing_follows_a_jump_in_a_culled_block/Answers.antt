use Rattle.naga_compact.proofs.CulledLemmas.{IsCulled-after_jump}
use Rattle.naga_compact.proofs.laws.nothing_follows_a_jump_in_a_culled_block.Goals as goal

pub returns : goal.returns
returns c = IsCulled-after_jump
