use Rattle.naga_typing.proofs.DependsLemmas.{type_of-depends}
use Rattle.naga_typing.proofs.laws.arenas.types_depend_on_operands.Goals as goal

pub returns : goal.returns
returns c = type_of-depends
