use Rattle.naga_meaning.proofs.ClosedOutcomeLemmas.{closed-again, closed-turned}
use Rattle.naga_meaning.proofs.laws.closing.closed_outcomes_agree.Goals as goal

pub returns-clause-closed : goal.returns-clause-closed
returns-clause-closed g c = closed-again

pub returns-clause-turned : goal.returns-clause-turned
returns-clause-turned g c = closed-turned
