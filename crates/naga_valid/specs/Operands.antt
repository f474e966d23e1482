-- The expressions to which parts of a module refer.
use Rattle.std.specs.Prelude.{ℕ, List, Option, Some, None}
use Rattle.std.specs.List.{filter_map}
use Rattle.naga_ir.specs.declared.expression.Expression.{Expression}
use Rattle.naga_valid.specs.Expressions.{references_of_expression}
use Rattle.naga_valid.specs.declared.reference.Reference.{Reference}
use Rattle.naga_valid.specs.declared.reference.Reference.TheVariants as reference

-- the expression with this handle, if it is the handle of an expression; a range that is only evaluated is not
abbrev pub expression_of : Reference → Option ℕ
expression_of (reference.Expression handle) = Some handle
expression_of _ = None

-- the expressions among these handles
abbrev pub expressions_of : List Reference → List ℕ
expressions_of = filter_map expression_of

-- the operands of an expression
abbrev pub operands_of : Expression → List ℕ
operands_of expression = expressions_of (references_of_expression expression)
