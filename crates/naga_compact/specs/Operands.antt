-- The expressions that bodies use, and those that are reached from some of them.
--
-- An expression is reached from roots if it is a root, or an operand of an expression that is reached. A body uses the
-- expressions to which its statements refer; the range of an `Emit` is not among them.
use Rattle.std.specs.Prelude.{◌≡◌, ◌<◌, ℕ, List, All, Some}
use Rattle.std.specs.List.{Contains, enumerate_from}
use Rattle.naga_arena.specs.Arena.{value_at, values}
use Rattle.naga_arena.specs.declared.span.Span.{Span}
use Rattle.naga_ir.specs.Tree.{Tree}
use Rattle.naga_ir.specs.declared.expression.Expression.{Expression}
use Rattle.naga_valid.specs.Operands.{expressions_of, operands_of}
use Rattle.naga_valid.specs.Statements.{references_of_tree}
use Rattle.naga_compact.specs.Reachability.{IsReachable}

-- the expressions whose values a body uses
abbrev pub used_by : Tree → List ℕ
used_by body = expressions_of (references_of_tree body)

-- the operands of an expression are before it
abbrev pub FollowsItsOperands : ℕ × Expression → Type 0
FollowsItsOperands entry = All (λ operand. operand < entry.0) (operands_of entry.1)

-- each expression of the arena refers only to earlier ones
abbrev pub OperandsPrecede : List (Expression × Span) → Type 0
OperandsPrecede arena = All FollowsItsOperands (enumerate_from 0 (values arena))

-- the expression with the first handle has the second as an operand
pub record HasOperand (arena : List (Expression × Span)) (handle operand : ℕ) : Type 0 where
  pub expression : Expression
  pub found : value_at arena handle ≡ Some expression
  pub contained : Contains (operands_of expression) operand

-- an expression is reached if it is a root, or an operand of one that is reached
abbrev pub IsReached : List (Expression × Span) → (IsRoot : ℕ → Type 0) → ℕ → Type 0
IsReached arena = IsReachable (HasOperand arena)
