use Rattle.std.proofs.Common.{refl}
use Rattle.naga_runs.specs.Runs.{entered}
use Rattle.naga_meaning.proofs.laws.switches.numbers_of_cases_matter.Goals as goal

pub returns-clause-one : goal.returns-clause-one
unfolding entered
returns-clause-one c = refl

pub returns-clause-two : goal.returns-clause-two
unfolding entered
returns-clause-two c = refl

pub returns-clause-signed : goal.returns-clause-signed
unfolding entered
returns-clause-signed c = refl

pub returns-clause-no_case : goal.returns-clause-no_case
unfolding entered
returns-clause-no_case c = refl

pub returns-clause-later : goal.returns-clause-later
unfolding entered
returns-clause-later c = refl
