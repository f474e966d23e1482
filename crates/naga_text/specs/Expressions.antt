-- The texts of expressions.
use Rattle.std.specs.Prelude.{ℕ, List, ◌++◌}
use Rattle.naga_ir.specs.declared.expression.Expression.{Expression}
use Rattle.naga_text.specs.Operands.{references_text}
use Rattle.naga_text.specs.derived.Expression.{kind_text}
use Rattle.naga_valid.specs.Expressions.{references_of_expression}

-- an expression: its kind, and what it refers to
abbrev pub expression_text : Expression → List ℕ
expression_text expression = kind_text expression ++ references_text (references_of_expression expression)
