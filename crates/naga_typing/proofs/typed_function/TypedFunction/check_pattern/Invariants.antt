use Rattle.std.proofs.Common.{drop}
use Rattle.naga_flow.proofs.IsFirstNotLemmas.{IsLeft}
use Rattle.naga_typing.specs.Expressions.{of_pattern}
use Rattle.naga_typing.specs.TypedFunctions.{FitsIn}
use Rattle.naga_typing.proofs.typed_function.TypedFunction.check_pattern.Given as goal

-- the vector has the components before the position
abbrev pub invariant-pattern : goal.invariant-pattern
invariant-pattern l =
    IsLeft (FitsIn l.self) (of_pattern l.vector (drop l.position l.pattern)) (of_pattern l.vector l.pattern)
