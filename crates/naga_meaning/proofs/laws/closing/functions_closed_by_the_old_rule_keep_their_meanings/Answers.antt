use Rattle.naga_meaning.proofs.ClosedOutcomeLemmas.{meaning-closed_old}
use Rattle.naga_meaning.proofs.laws.closing.functions_closed_by_the_old_rule_keep_their_meanings.Goals as goal

pub returns : goal.returns
returns g c = meaning-closed_old
