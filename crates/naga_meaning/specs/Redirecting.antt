-- Uses of expressions that are redirected to duplicates of these.
use Rattle.std.specs.Prelude.{◌≡◌, ◌⊎◌, ℕ, true, false, List, map, Option, Some, option_map}
use Rattle.naga_arena.specs.Arena.{value_at}
use Rattle.naga_arena.specs.declared.span.Span.{Span}
use Rattle.naga_ir.specs.View.{tree_of}
use Rattle.naga_ir.specs.declared.expression.Expression.{Expression}
use Rattle.naga_ir.specs.declared.module.Function.{Function}
use Rattle.naga_ir.specs.declared.statement.Statement.{Statement}
use Rattle.naga_valid.specs.Expressions.{references_of_expression}
use Rattle.naga_valid.specs.declared.reference.Reference.{Reference}
use Rattle.naga_flow.specs.Uses.{expressions_in}
use Rattle.naga_flow.specs.declared.evaluation.Evaluation.{Evaluation}
use Rattle.naga_flow.specs.declared.evaluation.Evaluation.TheVariants as by_way
use Rattle.naga_compact.specs.Renaming.{Renaming, unchanged}
use Rattle.naga_compact.specs.derived.Renaming.{rename_expression}
use Rattle.naga_compact.specs.Renaming.Functions.{map_values}
use Rattle.naga_compact.specs.Renaming.Blocks.{rename_tree}
use Rattle.naga_meaning.specs.Forms.{ExpressionForm, expression_form}
use Rattle.naga_meaning.specs.Values.{Code, Interpretation, Parts}

-- No statement changes the value that an expression of this shape has for given values of its operands. The sum of two
-- operands is so, and a load is not.
abbrev pub IsSteady : {Shape Action Value State : Type 0} → Interpretation Shape Action Value State → Shape → Type 0
IsSteady {Action = Action} {Value = Value} {State = State} by shape =
    (values : List Value) (action : Action) (used : List Value) (state : State) →
    by.compute shape values (by.perform action used state).0 ≡ by.compute shape values state

-- `r` redirects uses, and `evaluation` is how each expression gets its value
module _ {Shape Action Value State : Type 0} (by : Interpretation Shape Action Value State)
    (evaluation : ℕ → Option Evaluation) (r : ℕ → ℕ) where
  -- Uses of the expression are redirected to one of the same shape, whose operands are the same after redirection. Both
  -- are evaluated where they are used, or both are steady and evaluated by an `Emit`.
  pub record IsDuplicated (code : Code Shape) (x : ℕ) : Type 0 where
    pub shape : code.shape (r x) ≡ code.shape x
    pub operands : map r (code.operands (r x)) ≡ map r (code.operands x)
    pub at_use : code.at_use (r x) ≡ code.at_use x
    pub emitted : code.at_use x ≡ false →
        (evaluation x ≡ Some by_way.Emit) × (evaluation (r x) ≡ Some by_way.Emit) × IsSteady by (code.shape x)

  -- The new expressions are the old ones with their operands redirected. A use stays as it is, or is redirected to a
  -- duplicate. What is evaluated where it is used is steady.
  pub record Redirects (old new : Code Shape) : Type 0 where
    pub shape : (x : ℕ) → new.shape x ≡ old.shape x
    pub operands : (x : ℕ) → new.operands x ≡ map r (old.operands x)
    pub at_use : (x : ℕ) → new.at_use x ≡ old.at_use x
    pub steady : (x : ℕ) → old.at_use x ≡ true → IsSteady by (old.shape x)
    pub duplicates : (x : ℕ) → (r x ≡ x) ⊎ IsDuplicated old x

-- the new statement is the old one with its uses redirected; it evaluates the same expressions
pub record RedirectsStatement {Action : Type 0} (parts : Parts Action) (r : ℕ → ℕ) (old new : Statement) : Type 0 where
  pub action : parts.action new ≡ parts.action old
  pub emits : parts.emits new ≡ parts.emits old
  pub uses : parts.uses new ≡ map r (parts.uses old)
  pub result : parts.result new ≡ parts.result old

-- ---- functions

-- an expression without the spare capacity of a vector: its form and its handles
abbrev pub content_of : Expression → ExpressionForm × List Reference
content_of expression = (expression_form expression, references_of_expression expression)

-- only handles of expressions are renamed, and no range of them
abbrev pub redirecting : (ℕ → ℕ) → Renaming
redirecting r = record unchanged { expressions = r }

-- the expression is ready when the function is entered, or an `Emit` evaluates it; it is not the result of a statement
abbrev pub IsNoResult : List (Expression × Span) → ℕ → Type 0
IsNoResult arena x =
    ((expressions_in arena).evaluation x ≡ Some by_way.Ready) ⊎ ((expressions_in arena).evaluation x ≡ Some by_way.Emit)

-- The new function is the old one, in which each operand and each use of an expression is redirected to an expression
-- that is the same after this. Uses of results of statements stay as they are.
pub record RedirectsFunction (r : ℕ → ℕ) (old new : Function) : Type 0 where
  pub expressions : new.expressions ≡ map_values (rename_expression (redirecting r)) old.expressions
  pub local_variables : new.local_variables ≡ old.local_variables
  pub body : tree_of new.body ≡ rename_tree (redirecting r) (tree_of old.body)
  pub same : (x : ℕ) →
      option_map content_of (value_at new.expressions (r x)) ≡ option_map content_of (value_at new.expressions x)
  pub no_result : (x : ℕ) → ¬ (r x ≡ x) → IsNoResult old.expressions x

-- what is evaluated where it is used is steady, and so is each expression of which uses are redirected
pub record AreSteady {Shape Action Value State : Type 0} (by : Interpretation Shape Action Value State) (r : ℕ → ℕ)
    (code : Code Shape) : Type 0 where
  pub at_use : (x : ℕ) → code.at_use x ≡ true → IsSteady by (code.shape x)
  pub redirected : (x : ℕ) → ¬ (r x ≡ x) → IsSteady by (code.shape x)
