use Rattle.naga_meaning.proofs.ClosedOutcomeLemmas.{meaning-closed}
use Rattle.naga_meaning.proofs.laws.closing.closed_functions_keep_their_meanings.Goals as goal

pub returns : goal.returns
returns g c = meaning-closed
