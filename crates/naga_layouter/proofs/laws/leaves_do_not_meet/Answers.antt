use Rattle.naga_layouter.proofs.SoundLemmas.{leaves-do-not-meet}
use Rattle.naga_layouter.proofs.laws.leaves_do_not_meet.Goals as goal

pub returns : goal.returns
returns c = leaves-do-not-meet
