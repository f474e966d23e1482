use Rattle.naga_layouter.proofs.SoundLemmas.{leaves-lie-inside}
use Rattle.naga_layouter.proofs.laws.leaves_lie_inside.Goals as goal

pub returns : goal.returns
returns c = leaves-lie-inside
