-- The meanings of functions.
use Rattle.std.specs.Prelude.{◌≡◌, ◌<◌, ℕ, Bool, List, length, map, All, Option, None, Some, if◌then◌else◌, option_map}
use Rattle.naga_arena.specs.Arena.{value_at}
use Rattle.naga_arena.specs.declared.span.Span.{Span}
use Rattle.naga_ir.specs.View.{tree_of}
use Rattle.naga_ir.specs.declared.expression.Expression.{Expression}
use Rattle.naga_ir.specs.declared.module.Function.{Function}
use Rattle.naga_ir.specs.declared.module.LocalVariable.{LocalVariable}
use Rattle.naga_ir.specs.declared.statement.Statement.{Statement}
use Rattle.naga_valid.specs.Expressions.{references_of_expression}
use Rattle.naga_valid.specs.Statements.{references_of_statement, references_of_tree}
use Rattle.naga_valid.specs.declared.reference.Reference.{Reference}
use Rattle.naga_valid.specs.declared.reference.Reference.TheVariants as reference
use Rattle.naga_flow.specs.Results.{emitted_by, result_of, used_by}
use Rattle.naga_flow.specs.Uses.{operands_found}
use Rattle.naga_compact.specs.Functions.{initial_values}
use Rattle.naga_compact.specs.Operands.{OperandsPrecede}
use Rattle.naga_compact.specs.Operands as reached
use Rattle.naga_compact.specs.Renaming.{Renaming, rename_reference}
use Rattle.naga_meaning.specs.Forms.{ExpressionForm, expression_form, StatementForm, only_evaluates, statement_form}
use Rattle.naga_meaning.specs.Readings.{Reading}
use Rattle.naga_meaning.specs.Values.{Code, Interpretation, Outcome, Parts, World, entered, outcome}

-- What a handle of a type, a constant, a function and so on represents is looked up, so that its number cannot
-- matter.
module _ {Thing : Type 0} (look : Reference → Thing) where
  -- what a handle represents, unless it is one of an expression
  abbrev pub looked_up : Reference → Option Thing
  looked_up (reference.Expression handle) = None
  looked_up (reference.Expressions start end') = None
  looked_up other = Some (look other)

  -- the shape of an expression: its form, and what its handles represent
  abbrev pub shape_of : Expression → ExpressionForm × List (Option Thing)
  shape_of expression = (expression_form expression, map looked_up (references_of_expression expression))

  -- the action of a statement: its form, and what its handles represent; an `Emit` has none
  abbrev pub action_of : Statement → Option (StatementForm × List (Option Thing))
  action_of statement =
      if only_evaluates statement then None else Some (statement_form statement, map looked_up (references_of_statement statement))

  -- the parts of statements
  abbrev pub parts : Parts (StatementForm × List (Option Thing))
  parts = record { emits = emitted_by; uses = used_by; result = result_of; action = action_of }

  -- the expressions of an arena, of which these are evaluated where they are used
  abbrev pub code_of : (at_use : ℕ → Bool) → List (Expression × Span) → Code (Option (ExpressionForm × List (Option Thing)))
  code_of at_use arena = record {
    shape = λ handle. option_map shape_of (value_at arena handle);
    operands = λ handle. operands_found (value_at arena handle);
    at_use = at_use;
  }

-- interpretations of the expressions and statements of functions
abbrev pub Meanings : (Thing Value State : Type 0) → Type 0
Meanings Thing Value State =
    Interpretation (Option (ExpressionForm × List (Option Thing))) (StatementForm × List (Option Thing)) Value State

-- the initial value of each local variable, if it has one
abbrev pub initials : List (LocalVariable × Span) → List (Option ℕ)
initials = map (λ variable. variable.0.init)

-- The meaning of a function, read in this way: the outcome of its body, where each loop makes at most `turns` turns
-- each time it is entered.
abbrev pub meaning : {Thing Value State : Type 0} → (look : Reference → Thing) → Meanings Thing Value State →
    (turns : ℕ) → Reading → World Value State → Outcome Value State
meaning look by turns read start =
    let code = code_of look read.at_use read.expressions in
    outcome (parts look) by code turns read.body (entered by code (initials read.local_variables) start)

-- what these handles represent is the same after the renaming
abbrev pub LooksAlike : {Thing : Type 0} → (Names : Reference → Type 0) → Renaming → (look look' : Reference → Thing) → Type 0
LooksAlike Names r look look' = (name : Reference) → Names name → looked_up look' (rename_reference r name) ≡ looked_up look name

-- all handles in the expressions and the body of a function are among these
pub record HasNames (Names : Reference → Type 0) (function : Function) : Type 0 where
  pub expressions : (handle : ℕ) (expression : Expression) → value_at function.expressions handle ≡ Some expression →
      All Names (references_of_expression expression)
  pub body : All Names (references_of_tree (tree_of function.body))

-- operands come before the expressions that have them, and the handles of expressions in the body and in the initial
-- values of variables are those of expressions of the function
pub record HandlesAreInside (function : Function) : Type 0 where
  pub precede : OperandsPrecede function.expressions
  pub body : All (λ handle. handle < length function.expressions) (reached.used_by (tree_of function.body))
  pub variables : All (λ handle. handle < length function.expressions) (initial_values function.local_variables)
