-- Expressions that are evaluated where they are used, in place of at their `Emit`. A text binds a name to the value of
-- some expressions at their `Emit`, and writes the others out wherever they are used.
use Rattle.std.specs.List.{concat}
use Rattle.std.specs.Prelude.{◌≡◌, ℕ, zero, suc, Bool, true, ◌||◌, List, [], ◌∷◌, map, Some, if◌then◌else◌}
use Rattle.naga_arena.specs.Arena.{value_at}
use Rattle.naga_arena.specs.declared.span.Span.{Span}
use Rattle.naga_ir.specs.declared.expression.Expression.{Expression}
use Rattle.naga_ir.specs.declared.module.Function.{Function}
use Rattle.naga_valid.specs.declared.reference.Reference.{Reference}
use Rattle.naga_flow.specs.declared.evaluation.Evaluation.TheVariants as by_way
use Rattle.naga_flow.specs.Uses.{Expressions, expressions_in, operands_found}
use Rattle.naga_meaning.specs.Functions.{Meanings, code_of, initials, parts}
use Rattle.naga_meaning.specs.Readings.{Reading, read_by}
use Rattle.naga_meaning.specs.Redirecting.{IsSteady}
use Rattle.naga_meaning.specs.Values.{Code, Interpretation, Outcome, Parts, World, entered, outcome}

-- the expression is evaluated where it is used by this reading, or it is inline
abbrev pub with_inline : (at_use inline : ℕ → Bool) → ℕ → Bool
with_inline at_use inline handle = at_use handle || inline handle

-- Each inline expression is evaluated by an `Emit`, and no statement changes its value for given values of its operands.
-- The latter holds, too, of what the reading without inline expressions evaluates where it is used.
pub record MayInline {Shape Action Value State : Type 0} (by : Interpretation Shape Action Value State)
    (expressions : Expressions) (inline : ℕ → Bool) (code : Code Shape) : Type 0 where
  pub emitted : (x : ℕ) → inline x ≡ true → expressions.evaluation x ≡ Some by_way.Emit
  pub steady : (x : ℕ) → inline x ≡ true → IsSteady by (code.shape x)
  pub steady_before : (x : ℕ) → code.at_use x ≡ true → IsSteady by (code.shape x)

-- the list without the handles that are skipped
abbrev pub not_skipped : (skipped : ℕ → Bool) → List ℕ → List ℕ
not_skipped skipped [] = []
not_skipped skipped (x ∷ xs) = if skipped x then not_skipped skipped xs else x ∷ not_skipped skipped xs

-- the parts of statements, where an `Emit` evaluates nothing that is skipped
abbrev pub skipping : {Action : Type 0} → (skipped : ℕ → Bool) → Parts Action → Parts Action
skipping skipped parts = record parts { emits = λ what. not_skipped skipped (parts.emits what) }

-- ---- the names in a text

-- What a text names where an expression is used: the expression itself, or, if it is written out, what is named where its
-- operands are used. At most this many expressions are written one inside another.
abbrev pub named_within : (written : ℕ → Bool) (operands : ℕ → List ℕ) (steps : ℕ) → ℕ → List ℕ
named_within written operands zero handle = handle ∷ []
named_within written operands (suc steps) handle =
    if written handle then concat (map (named_within written operands steps) (operands handle)) else handle ∷ []

-- the expressions of an arena, where a use of an expression reads what a text names there
abbrev pub named_in : (written : ℕ → Bool) → List (Expression × Span) → Expressions
named_in written arena =
    record (expressions_in arena) { reads = λ handle. named_within written (λ x. operands_found (value_at arena x)) (suc handle) handle }

-- The meaning of a function as a text gives it: an `Emit` evaluates only what is not evaluated where it is used.
abbrev pub text_meaning : {Thing Value State : Type 0} → (look : Reference → Thing) → Meanings Thing Value State →
    (turns : ℕ) → Reading → World Value State → Outcome Value State
text_meaning look by turns read start =
    let code = code_of look read.at_use read.expressions in
    outcome (skipping read.at_use (parts look)) by code turns read.body (entered by code (initials read.local_variables) start)

-- the function, of which these and inline expressions are evaluated where they are used
abbrev pub read_inline : (at_use inline : ℕ → Bool) → Function → Reading
read_inline at_use inline function = read_by (with_inline at_use inline) function
