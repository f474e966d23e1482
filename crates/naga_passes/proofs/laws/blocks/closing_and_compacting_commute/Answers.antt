use Rattle.naga_passes.proofs.CompactsLemmas.{Compacts-closed}
use Rattle.naga_passes.proofs.laws.blocks.closing_and_compacting_commute.Goals as goal

pub returns : goal.returns
returns call = Compacts-closed
