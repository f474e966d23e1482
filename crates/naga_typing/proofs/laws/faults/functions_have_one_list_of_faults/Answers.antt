use Rattle.naga_typing.proofs.FunctionFaultsLemmas.{AreFaultsOfFunction-one}
use Rattle.naga_typing.proofs.laws.faults.functions_have_one_list_of_faults.Goals as goal

pub returns : goal.returns
returns c = AreFaultsOfFunction-one
