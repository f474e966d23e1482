use Rattle.std.proofs.Common.{take}
use Rattle.std.specs.Prelude.{All}
use Rattle.naga_arena.specs.Arena.{values}
use Rattle.naga_typing.specs.Expressions.{ExpressionFits}
use Rattle.naga_typing.specs.TypedFunctions.{FitsIn}
use Rattle.naga_typing.proofs.typed_function.TypedFunction.check_operands.Given as goal

-- the expressions before the index fit
abbrev pub invariant-expressions : goal.invariant-expressions
invariant-expressions l = All (ExpressionFits (FitsIn l.self)) (take l.index (values l.expressions))
