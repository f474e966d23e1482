-- The operands on whose types the type of an expression depends.
use Rattle.std.specs.Prelude.{⊤, ℕ, IfSome}
use Rattle.naga_ir.specs.declared.expression.Expression.{Expression}
use Rattle.naga_typifier.specs.Rules.{rule_of_expression}
use Rattle.naga_typifier.specs.declared.rules.Rule.{Rule}
use Rattle.naga_typifier.specs.declared.rules.Rule.TheVariants as rule

-- the operands on whose types the type by a rule depends are in `P`
abbrev pub DependsBy : (P : ℕ → Type 0) → Rule → Type 0
DependsBy P (rule.Like operand) = P operand
DependsBy P (rule.Read reading operand) = P operand
DependsBy P (rule.Product left right) = P left × P right
DependsBy P (rule.Math fun first second) = P first × IfSome second P
DependsBy P _ = ⊤

-- the operands on whose types the type of an expression depends are in `P`
abbrev pub Depends : (P : ℕ → Type 0) → Expression → Type 0
Depends P expression = DependsBy P (rule_of_expression expression)
