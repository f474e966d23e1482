use Rattle.naga_bounds.proofs.ExampleModuleLemmas.{initial-fit, main-same, old-valid, restricted}
use Rattle.naga_bounds.proofs.laws.examples.outcomes_of_a_module.Goals as goal

pub returns-clause-valid : goal.returns-clause-valid
returns-clause-valid c of = old-valid of

pub returns-clause-restricted : goal.returns-clause-restricted
returns-clause-restricted c of = restricted of

pub returns-clause-initial_values : goal.returns-clause-initial_values
returns-clause-initial_values c of = initial-fit of

pub returns-clause-same : goal.returns-clause-same
returns-clause-same c of depth start stays = main-same of depth start stays
