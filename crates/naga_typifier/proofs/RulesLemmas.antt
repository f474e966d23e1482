-- What holds of each rule that an operator can have holds of the rule of the operator.
use Rattle.std.specs.Prelude.{ℕ, None}
use Rattle.naga_kinds.specs.declared.operator.BinaryOperator.{BinaryOperator}
use Rattle.naga_kinds.specs.declared.operator.BinaryOperator.TheVariants as op
use Rattle.naga_kinds.specs.declared.operator.RelationalFunction.{RelationalFunction}
use Rattle.naga_kinds.specs.declared.operator.RelationalFunction.TheVariants.{IsNan, IsInf}
use Rattle.naga_kinds.specs.declared.scalar.TheConstants.Scalar.{BOOL, U32}
use Rattle.naga_ir.specs.declared.expression.ImageQuery as query
use Rattle.naga_ir.specs.declared.expression.ImageQuery.TheVariants.{Size}
use Rattle.naga_typifier.specs.Rules.{rule_of_binary, rule_of_query, rule_of_relational}
use Rattle.naga_typifier.specs.declared.rules.Reading.TheVariants as reading
use Rattle.naga_typifier.specs.declared.rules.Rule.{Rule}
use Rattle.naga_typifier.specs.declared.rules.Rule.TheVariants.{Fixed, Like, Read, Product}

-- the rules of one operator for two pairs of operands
pub rule_of_binary-by : (P : Rule → Rule → Type 0) (left right left' right' : ℕ)
    → P (Product left right) (Product left' right') → P (Read reading.Truths left) (Read reading.Truths left')
    → P (Like left) (Like left') → (of : BinaryOperator)
    → P (rule_of_binary of left right) (rule_of_binary of left' right')
rule_of_binary-by P left right left' right' product truths like op.Multiply = product
rule_of_binary-by P left right left' right' product truths like op.Equal = truths
rule_of_binary-by P left right left' right' product truths like op.NotEqual = truths
rule_of_binary-by P left right left' right' product truths like op.Less = truths
rule_of_binary-by P left right left' right' product truths like op.LessEqual = truths
rule_of_binary-by P left right left' right' product truths like op.Greater = truths
rule_of_binary-by P left right left' right' product truths like op.GreaterEqual = truths
rule_of_binary-by P left right left' right' product truths like op.LogicalAnd = truths
rule_of_binary-by P left right left' right' product truths like op.LogicalOr = truths
rule_of_binary-by P left right left' right' product truths like of = like

-- the rules of one function for two arguments
pub rule_of_relational-by : (P : Rule → Rule → Type 0) (argument argument' : ℕ)
    → P (Read reading.Truths argument) (Read reading.Truths argument') → P (Fixed None BOOL) (Fixed None BOOL)
    → (fun : RelationalFunction) → P (rule_of_relational fun argument) (rule_of_relational fun argument')
rule_of_relational-by P argument argument' truths fixed IsNan = truths
rule_of_relational-by P argument argument' truths fixed IsInf = truths
rule_of_relational-by P argument argument' truths fixed fun = fixed

-- the rule of one query
pub rule_of_query-by : (P : Rule → Type 0) (image : ℕ) → P (Read reading.Size image) → P (Fixed None U32)
    → (asked : query.ImageQuery) → P (rule_of_query asked image)
rule_of_query-by P image size fixed (Size level) = size
rule_of_query-by P image size fixed asked = fixed
