use Rattle.std.proofs.Common.{drop}
use Rattle.naga_flow.proofs.IsFirstNotLemmas.{IsLeft}
use Rattle.naga_typing.specs.Expressions.{of_components}
use Rattle.naga_typing.specs.TypedFunctions.{FitsIn}
use Rattle.naga_typing.proofs.typed_function.TypedFunction.check_components.Given as goal

-- the components before the position are as the type requires
abbrev pub invariant-components : goal.invariant-components
invariant-components l =
    IsLeft (FitsIn l.self) (of_components l.ty l.position (drop l.position l.components)) (of_components l.ty 0 l.components)
