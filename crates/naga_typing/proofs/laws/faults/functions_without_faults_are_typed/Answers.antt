use Rattle.naga_typing.proofs.FunctionFaultsLemmas.{AreFaultsOfFunction-none}
use Rattle.naga_typing.proofs.laws.faults.functions_without_faults_are_typed.Goals as goal

pub returns : goal.returns
returns c = AreFaultsOfFunction-none
