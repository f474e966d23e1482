-- Expressions and statements without their handles.
use Rattle.std.specs.Prelude.{Bool, true, false, is_some}
use Rattle.naga_ir.specs.declared.expression.Expression.{Expression}
use Rattle.naga_ir.specs.declared.expression.Expression.TheVariants.{Compose}
use Rattle.naga_ir.specs.declared.statement.Statement.{Statement, Emit, Call}
use Rattle.naga_compact.specs.Renaming.{Renaming}
use Rattle.naga_compact.specs.derived.Renaming.{rename_expression, rename_statement}

-- each handle becomes 0, except those of local variables
abbrev pub erasing : Renaming
erasing = record {
  types = λ handle. 0;
  constants = λ handle. 0;
  overrides = λ handle. 0;
  global_variables = λ handle. 0;
  global_expressions = λ handle. 0;
  functions = λ handle. 0;
  expressions = λ handle. 0;
  ranges = λ range. (0, 0);
}

-- an expression without handles, and without the spare capacity of a vector of them
pub data ExpressionForm : Type 0 where
  of_compose : ExpressionForm
  of_expression : (erased : Expression) → ExpressionForm

-- the form of an expression
abbrev pub expression_form : Expression → ExpressionForm
expression_form (Compose ty components) = of_compose
expression_form expression = of_expression (rename_expression erasing expression)

-- a statement without handles, and without the spare capacity of a vector of them
pub data StatementForm : Type 0 where
  of_call : (has_result : Bool) → StatementForm
  of_statement : (erased : Statement) → StatementForm

-- the form of a statement
abbrev pub statement_form : Statement → StatementForm
statement_form (Call function arguments result) = of_call (is_some result)
statement_form statement = of_statement (rename_statement erasing statement)

-- the statement is an `Emit`
abbrev pub only_evaluates : Statement → Bool
only_evaluates (Emit range) = true
only_evaluates statement = false
