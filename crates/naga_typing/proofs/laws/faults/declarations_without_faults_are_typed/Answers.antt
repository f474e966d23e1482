use Rattle.naga_typing.proofs.DeclarationFaultsLemmas.{AreFaultsOfDeclarations-none}
use Rattle.naga_typing.proofs.laws.faults.declarations_without_faults_are_typed.Goals as goal

pub returns : goal.returns
returns c = AreFaultsOfDeclarations-none
