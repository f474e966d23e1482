use Rattle.naga_meaning.proofs.ClosedOutcomeLemmas.{meaning-culled}
use Rattle.naga_meaning.proofs.laws.closing.culled_functions_keep_their_meanings.Goals as goal

pub returns : goal.returns
returns g c = meaning-culled
