-- What a use of an expression reads, in one of two readings. In both, an expression that is ready when the function is
-- entered is evaluated where it is used, so that no `Emit` need evaluate it. So is each access chain that ends in such an
-- expression, or only a chain of chosen accesses by constant indices.
use Rattle.std.specs.Prelude.{ℕ, zero, suc, Bool, false, ◌||◌, List, [], ◌∷◌, Option, Some, None, option_and_then, if◌then◌else◌}
use Rattle.std.specs.FinSet as set
use Rattle.naga_arena.specs.Arena.{value_at}
use Rattle.naga_arena.specs.declared.span.Span.{Span}
use Rattle.naga_ir.specs.declared.expression.Expression.{Expression}
use Rattle.naga_ir.specs.declared.expression.Expression.TheVariants.{AccessIndex}
use Rattle.naga_flow.specs.Places.{reads_in, ready_in}
use Rattle.naga_flow.specs.Uses.{Expressions, expressions_in}
use Rattle.naga_flow.specs.declared.reads.Reading.{Reading}
use Rattle.naga_flow.specs.declared.reads.Reads.{Reads}
use Rattle.naga_flow.specs.declared.reads.Reads.TheVariants as of_use

-- the base of an access by a constant index
abbrev pub constant_base_of : Expression → Option ℕ
constant_base_of (AccessIndex base index) = Some base
constant_base_of _ = None

-- the number, if there is one, passes the test
abbrev pub passes : (test : ℕ → Bool) → Option ℕ → Bool
passes test None = false
passes test (Some handle) = test handle

-- the expression is ready, or its base is, and so on, in at most this many steps
abbrev pub reaches_ready : (is_ready : ℕ → Bool) (base : ℕ → Option ℕ) (steps : ℕ) → ℕ → Bool
reaches_ready is_ready base zero handle = false
reaches_ready is_ready base (suc steps) handle =
    is_ready handle || passes (reaches_ready is_ready base steps) (base handle)

-- the base of the expression, if it is a chosen access by a constant index
abbrev pub chosen_base : (chosen : ℕ → Bool) → List (Expression × Span) → ℕ → Option ℕ
chosen_base chosen arena handle =
    if chosen handle then option_and_then constant_base_of (value_at arena handle) else None

-- the expression is ready when the function is entered, or a chosen access by a constant index to an expression of
-- which the same holds
abbrev pub constant_chains_in : (chosen : ℕ → Bool) → List (Expression × Span) → ℕ → Bool
constant_chains_in chosen arena handle =
    reaches_ready (λ x. ready_in (value_at arena x)) (chosen_base chosen arena) (suc handle) handle

-- the expressions of an arena, where a use of an expression reads its value, unless it is evaluated there
abbrev pub expressions_by : (at_use : ℕ → Bool) → List (Expression × Span) → Expressions
expressions_by at_use arena =
    record (expressions_in arena) { reads = λ handle. if at_use handle then [] else handle ∷ [] }

-- the expressions of an arena, where only what is ready, and chains of chosen accesses by constant indices to it, may be
-- used without an `Emit`
abbrev pub emitted_in : (chosen : ℕ → Bool) → List (Expression × Span) → Expressions
emitted_in chosen arena = expressions_by (constant_chains_in chosen arena) arena

-- what a use of an expression of the arena reads
abbrev pub reads_by : List (Expression × Span) → Reads → ℕ → List ℕ
reads_by arena of_use.Chains = reads_in arena
reads_by arena (of_use.Emitted at_use) = (expressions_by (set.contains at_use.now.members) arena).reads
reads_by arena of_use.Nothing = λ handle. []

-- the expressions of an arena, of which uses read this
abbrev pub expressions_read : List (Expression × Span) → Reads → Expressions
expressions_read arena reads = record (expressions_in arena) { reads = reads_by arena reads }

-- the expressions of a function, in this reading
abbrev pub read_in : Reading → Expressions
read_in reading = expressions_read reading.expressions.now reading.reads
