use Rattle.naga_typing.proofs.IsFaultLemmas.{IsFault-refused}
use Rattle.naga_typing.proofs.laws.faults.functions_at_fault_are_not_typed.Goals as goal

pub returns : goal.returns
returns c = IsFault-refused
