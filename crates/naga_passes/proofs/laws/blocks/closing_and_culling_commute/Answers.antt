use Rattle.naga_meaning.proofs.CulledLemmas.{culled-closed}
use Rattle.naga_passes.proofs.laws.blocks.closing_and_culling_commute.Goals as goal

pub returns : goal.returns
returns call = culled-closed
