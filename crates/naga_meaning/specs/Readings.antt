-- How a function is read: which of its expressions are evaluated where they are used, so that no `Emit` need evaluate
-- them. Those that are ready when the function is entered always are, such as literals and pointers to variables.
-- Access chains to these are in one of the two readings that are defined here, and chosen ones in the other.
use Rattle.std.specs.Prelude.{◌≡◌, ℕ, Bool, true, List, Some}
use Rattle.naga_arena.specs.Arena.{value_at}
use Rattle.naga_arena.specs.declared.span.Span.{Span}
use Rattle.naga_ir.specs.Tree.{Tree}
use Rattle.naga_ir.specs.View.{tree_of}
use Rattle.naga_ir.specs.declared.expression.Expression.{Expression}
use Rattle.naga_ir.specs.declared.expression.Expression.TheVariants.{Access}
use Rattle.naga_ir.specs.declared.module.Function.{Function}
use Rattle.naga_ir.specs.declared.module.LocalVariable.{LocalVariable}
use Rattle.naga_flow.specs.Places.{end_of_chain, ready_in}
use Rattle.naga_flow.specs.Readings.{constant_chains_in}
use Rattle.naga_flow.specs.Uses.{operands_found}
use Rattle.naga_meaning.specs.Renaming.{Each, IsKept}

-- the parts of a function that its meaning depends on, and which of its expressions are evaluated where they are used
pub record Reading : Type 0 where
  pub expressions : List (Expression × Span)
  pub local_variables : List (LocalVariable × Span)
  pub body : Tree
  pub at_use : ℕ → Bool

-- the function, of which these expressions are evaluated where they are used
abbrev pub read_by : (at_use : ℕ → Bool) → Function → Reading
read_by at_use function = record {
  expressions = function.expressions;
  local_variables = function.local_variables;
  body = tree_of function.body;
  at_use = at_use;
}

-- ---- access chains

-- The reading that the check of uses has: an expression is evaluated where it is used if it is ready when the
-- function is entered, or an access chain that ends in such an expression.
abbrev pub chains_in : List (Expression × Span) → ℕ → Bool
chains_in arena handle = ready_in (value_at arena (end_of_chain arena handle handle))

-- the function, read in this way
abbrev pub by_chains : Function → Reading
by_chains function = read_by (chains_in function.expressions) function

-- The index of an access is no access chain that is evaluated where it is used, unless it is ready when the function
-- is entered. In a module that is well typed this holds of a chain that is a pointer, since an index is no pointer;
-- it does not hold of `a[id.x]` if `id.x` is an access to an argument that no `Emit` evaluates.
abbrev pub IndicesAreValues : List (Expression × Span) → Type 0
IndicesAreValues arena =
    (x base index : ℕ) → value_at arena x ≡ Some (Access base index) → chains_in arena index ≡ true →
    ready_in (value_at arena index) ≡ true

-- ---- chosen accesses by constant indices

-- The narrow reading is that of `constant_chains_in`: an expression is evaluated where it is used if it is ready when the
-- function is entered, or a chosen access by a constant index to an expression that is evaluated where it is used. Each
-- other access has the value of its `Emit`.

-- ---- properties of readings

-- what is ready when the function is entered is evaluated where it is used, and so are the operands of what is
-- evaluated where it is used
pub record IsClosedReading (at_use : ℕ → Bool) (arena : List (Expression × Span)) : Type 0 where
  pub ready : (x : ℕ) → ready_in (value_at arena x) ≡ true → at_use x ≡ true
  pub operands : (x : ℕ) → at_use x ≡ true → Each (λ y. at_use y ≡ true) (operands_found (value_at arena x))

-- the expressions that are kept are read in the same way
abbrev pub ReadsAlike : (kept : ℕ → Bool) (f : ℕ → ℕ) (at_use at_use' : ℕ → Bool) → Type 0
ReadsAlike kept f at_use at_use' = (x : ℕ) → IsKept kept f x → at_use' (f x) ≡ at_use x
