use Rattle.naga_meaning.proofs.SwitchesLemmas.{case_of-found, case_of-other}
use Rattle.naga_meaning.proofs.laws.switches.cases_are_found_by_number.Goals as goal

pub returns-clause-found : goal.returns-clause-found
returns-clause-found c = case_of-found

pub returns-clause-other : goal.returns-clause-other
returns-clause-other c = case_of-other
