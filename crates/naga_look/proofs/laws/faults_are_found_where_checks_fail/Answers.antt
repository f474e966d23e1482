use Rattle.std.proofs.Common.{refl}
use Rattle.naga_look.specs.Findings.{fault_count}
use Rattle.naga_look.proofs.FaultCountLemmas.{fault_count-passes}
use Rattle.naga_look.proofs.laws.faults_are_found_where_checks_fail.Goals as goal

pub returns : goal.returns
returns c = λ whole extent found are. fault_count-passes whole extent found are (fault_count found) refl
