use Rattle.std.proofs.Common.{refl}
use Rattle.naga_meaning.proofs.SwitchesLemmas.{switch-by_number}
use Rattle.naga_meaning.proofs.laws.switches.switches_enter_by_number.Goals as goal

pub returns-clause-done : goal.returns-clause-done
returns-clause-done g c = switch-by_number

pub returns-clause-somewhere : goal.returns-clause-somewhere
returns-clause-somewhere g c = λ selector values. refl
