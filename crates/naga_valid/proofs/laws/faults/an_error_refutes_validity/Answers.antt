use Rattle.naga_valid.proofs.IsAtFaultLemmas.{IsAtFault-invalid}
use Rattle.naga_valid.proofs.laws.faults.an_error_refutes_validity.Goals as goal

pub returns : goal.returns
returns c = IsAtFault-invalid
