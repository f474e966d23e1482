-- New handles in place of old ones, by functions on numbers.
pub mod Blocks
pub mod Declarations
pub mod Functions
pub mod Renumbering
pub mod Runs
pub mod Types
use Rattle.std.specs.Prelude.{ℕ, nat_lt, if◌then◌else◌}
use Rattle.naga_valid.specs.declared.reference.Reference.{Reference}
use Rattle.naga_valid.specs.declared.reference.Reference.TheVariants as reference

-- The new index of each element, by its old one: of the elements of a module's arenas, of the expressions of a function,
-- and of the ranges of these. Handles of local variables and of diagnostic filters are never renamed.
pub record Renaming : Type 0 where
  pub types : ℕ → ℕ
  pub constants : ℕ → ℕ
  pub overrides : ℕ → ℕ
  pub global_variables : ℕ → ℕ
  pub global_expressions : ℕ → ℕ
  pub functions : ℕ → ℕ
  pub expressions : ℕ → ℕ
  pub ranges : ℕ × ℕ → ℕ × ℕ

-- each handle stays as it is
abbrev pub unchanged : Renaming
unchanged = record {
  types = λ handle. handle;
  constants = λ handle. handle;
  overrides = λ handle. handle;
  global_variables = λ handle. handle;
  global_expressions = λ handle. handle;
  functions = λ handle. handle;
  expressions = λ handle. handle;
  ranges = λ range. range;
}

-- the range between the new numbers of its bounds; a range that becomes empty is the one from 0 to 0
abbrev pub rename_range : (ℕ → ℕ) → ℕ × ℕ → ℕ × ℕ
rename_range f range = if nat_lt (f range.0) (f range.1) then (f range.0, f range.1) else (0, 0)

-- only the expressions of a function, and ranges of them, are renamed
abbrev pub of_expressions : (ℕ → ℕ) → Renaming
of_expressions f = record unchanged { expressions = f; ranges = rename_range f }

-- the renaming of what a global expression contains, whose operands are global expressions; it contains no ranges
abbrev pub in_global : Renaming → Renaming
in_global r = record r { expressions = r.global_expressions; ranges = λ range. range }

-- the reference with its handle, or its range, renamed
abbrev pub rename_reference : Renaming → Reference → Reference
rename_reference r (reference.«Type» handle) = reference.«Type» (r.types handle)
rename_reference r (reference.Constant handle) = reference.Constant (r.constants handle)
rename_reference r (reference.Override handle) = reference.Override (r.overrides handle)
rename_reference r (reference.GlobalVariable handle) = reference.GlobalVariable (r.global_variables handle)
rename_reference r (reference.GlobalExpression handle) = reference.GlobalExpression (r.global_expressions handle)
rename_reference r (reference.Expression handle) = reference.Expression (r.expressions handle)
rename_reference r (reference.Expressions start end') =
    reference.Expressions (r.ranges (start, end')).0 (r.ranges (start, end')).1
rename_reference r (reference.LocalVariable handle) = reference.LocalVariable handle
rename_reference r (reference.Function handle) = reference.Function (r.functions handle)
rename_reference r (reference.DiagnosticFilter handle) = reference.DiagnosticFilter handle
