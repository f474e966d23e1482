-- The values of expressions.
use Rattle.std.specs.Prelude.{ℕ, List}
use Rattle.naga_ir.specs.declared.expression.Expression.{Expression}
use Rattle.naga_ir.specs.declared.expression.Expression.TheVariants as expression

-- an expression without the spare capacity of its list: a `Compose`, or any other expression
pub data ExpressionValue : Type 0 where
  compose : (ty : ℕ) (components : List ℕ) → ExpressionValue
  plain : Expression → ExpressionValue

-- the value of an expression
abbrev pub value_of : Expression → ExpressionValue
value_of (expression.Compose ty components) = compose ty components.items
value_of other = plain other
