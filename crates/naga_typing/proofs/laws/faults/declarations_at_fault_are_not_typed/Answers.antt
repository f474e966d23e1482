use Rattle.naga_typing.proofs.IsFaultLemmas.{IsGlobalFault-refused}
use Rattle.naga_typing.proofs.laws.faults.declarations_at_fault_are_not_typed.Goals as goal

pub returns : goal.returns
returns c = IsGlobalFault-refused
