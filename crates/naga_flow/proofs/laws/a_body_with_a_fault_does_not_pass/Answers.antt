use Rattle.naga_flow.proofs.BodiesLemmas.{HasFault-refused}
use Rattle.naga_flow.proofs.laws.a_body_with_a_fault_does_not_pass.Goals as goal

pub returns : goal.returns
returns c = HasFault-refused
