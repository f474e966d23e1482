use Rattle.naga_bounds.proofs.OutcomesLemmas.{outcomes-of-clamped}
use Rattle.naga_bounds.proofs.laws.restricting_keeps_outcomes.Goals as goal

pub returns : goal.returns
returns g c = outcomes-of-clamped
