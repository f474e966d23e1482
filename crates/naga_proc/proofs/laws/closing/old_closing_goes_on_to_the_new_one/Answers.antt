use Rattle.naga_proc.proofs.Closing.BetweenLemmas.{Between-FullyClosed, Closed-FullyClosed}
use Rattle.naga_proc.proofs.laws.closing.old_closing_goes_on_to_the_new_one.Goals as goal

pub returns-clause-closed : goal.returns-clause-closed
returns-clause-closed c = Closed-FullyClosed

pub returns-clause-between : goal.returns-clause-between
returns-clause-between c = Between-FullyClosed
