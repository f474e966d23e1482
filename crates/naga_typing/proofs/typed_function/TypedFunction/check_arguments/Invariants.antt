use Rattle.std.proofs.Common.{drop}
use Rattle.naga_flow.proofs.IsFirstNotLemmas.{IsLeft}
use Rattle.naga_typing.specs.Statements.{of_arguments}
use Rattle.naga_typing.specs.TypedFunctions.{FitsIn}
use Rattle.naga_typing.proofs.typed_function.TypedFunction.check_arguments.Given as goal

-- the arguments before the position are of their types
abbrev pub invariant-arguments : goal.invariant-arguments
invariant-arguments l =
    IsLeft (FitsIn l.self) (of_arguments l.function l.position (drop l.position l.arguments)) (of_arguments l.function 0 l.arguments)
