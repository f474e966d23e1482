-- What becomes of each expression of a function when accesses are clamped: those that fit stay, and each other access is
-- clamped, if its length is known.
use Rattle.std.specs.Prelude.{◌≡◌, ℕ, Bool, true, false, ◌||◌, List, IfSome, Option, Some, None, Result, Ok, Err, is_some, length, nat_eq, nat_le, not, slice_get, if◌then◌else◌}
use Rattle.std.specs.Option.{option_map}
use Rattle.naga_arena.specs.Arena.{value_at}
use Rattle.naga_arena.specs.Limits.{max_len}
use Rattle.naga_arena.specs.declared.span.Span.{Span}
use Rattle.naga_kinds.specs.declared.scalar.ScalarKind.{ScalarKind}
use Rattle.naga_kinds.specs.declared.scalar.ScalarKind.TheVariants.{Uint}
use Rattle.naga_ir.specs.declared.expression.Expression.{Expression}
use Rattle.naga_ir.specs.declared.expression.Expression.TheVariants.{Access, AccessIndex}
use Rattle.naga_ir.specs.declared.module.Override as override
use Rattle.naga_ir.specs.declared.types.Type.{«Type» as Declared}
use Rattle.naga_ir.specs.declared.types.TypeInner.{TypeInner}
use Rattle.naga_ir.specs.declared.types.TypeInner.TheVariants as inner
use Rattle.naga_typifier.specs.Context.{inner_at}
use Rattle.naga_typifier.specs.Math as math
use Rattle.naga_typifier.specs.Rows.{◌>>=◌}
use Rattle.naga_bounds.specs.Fits.{length_found, misfit, number_of}
use Rattle.naga_bounds.specs.Reach.{Typed, at_use, contents_at, expression_at}
use Rattle.naga_bounds.specs.declared.cause.Cause.{Cause}
use Rattle.naga_bounds.specs.declared.cause.Cause.TheVariants.{NoLength}
use Rattle.naga_bounds.specs.declared.cause.Position.{Position}
use Rattle.naga_bounds.specs.declared.cause.Position.TheVariants.{Constant, Computed}
use Rattle.naga_bounds.specs.declared.change.Change.{Change}
use Rattle.naga_bounds.specs.declared.change.Change.TheVariants.{Stays, Clamped}
use Rattle.naga_bounds.specs.declared.change.ClampedIndex.{ClampedIndex}
use Rattle.naga_bounds.specs.declared.change.ClampedIndex.TheVariants as clamped
use Rattle.naga_bounds.specs.declared.length.Length.{Length}
use Rattle.naga_bounds.specs.declared.length.Length.TheVariants.{Fixed, Overridden, Counted}

-- a matrix that is not behind a pointer takes only constant indices
abbrev pub takes_constants : Option TypeInner → Bool
takes_constants (Some (inner.Matrix columns rows scalar)) = true
takes_constants _ = false

abbrev pub is_uint : ScalarKind → (width : ℕ) → Bool
is_uint Uint width = nat_eq width 4
is_uint _ width = false

-- the contents are those of the type `u32`
abbrev pub is_u32 : Option TypeInner → Bool
is_u32 (Some (inner.Scalar scalar)) = is_uint scalar.kind scalar.width
is_u32 _ = false

-- the contents are those of an integer type
abbrev pub is_integer : Option TypeInner → Bool
is_integer (Some (inner.Scalar scalar)) = math.is_integer scalar.kind
is_integer _ = false

-- the override with this handle is of type `u32`
abbrev pub counts_by : List (override.Override × Span) → List (Declared × Span) → ℕ → Bool
counts_by overrides types handle =
    is_u32 (option_map (λ declared. declared.ty) (value_at overrides handle) >>= inner_at types)

module _ (code : Typed) where
  -- both the length and the index are numbers, so that a minimum would change what is accessed for certain
  abbrev pub is_decided : Length → Position → Bool
  is_decided (Fixed count) (Constant number) = true
  is_decided (Fixed count) (Computed index) = is_some (expression_at code index >>= number_of)
  is_decided long position = false

  -- the index is a number, or of an integer type, so that it can be converted to `u32`
  abbrev pub is_convertible : Position → Bool
  is_convertible (Constant number) = true
  is_convertible (Computed index) = is_integer (contents_at code index)

  abbrev pub index_at : Position → ClampedIndex
  index_at (Constant number) = clamped.Constant number
  index_at (Computed index) = if is_u32 (contents_at code index) then clamped.Unsigned index else clamped.Converted index

-- `counts` are the overrides of type `u32`.
module _ (counts : ℕ → Bool) (code : Typed) where
  -- An expression of type `u32` can give the length at this base. That of an array in a buffer is known only where its
  -- pointer is evaluated at each use.
  abbrev pub is_told : Length → (base : ℕ) → Bool
  is_told (Fixed count) base = nat_le count max_len
  is_told (Overridden handle) base = counts handle
  is_told Counted base = at_use code base

  -- What becomes of an access that does not fit for this cause. Where no minimum would help, the cause is left.
  abbrev pub clamp_at : Cause → Length → (base : ℕ) → Position → Result Change Cause
  clamp_at cause long base position =
      if is_decided code long position || takes_constants (contents_at code base) || not (is_convertible code position) then Err cause else
      if is_told long base then Ok (Clamped (record { length = long; base = base; index = index_at code position })) else
      Err NoLength

  abbrev pub clamp_found : Cause → Result Length Cause → (base : ℕ) → Position → Result Change Cause
  clamp_found cause (Ok long) base position = clamp_at cause long base position
  clamp_found cause (Err unknown) base position = Err unknown

  -- the same for this expression; a swizzle that does not fit cannot be clamped
  abbrev pub clamp_of : Cause → Option Expression → Result Change Cause
  clamp_of cause (Some (Access base index)) = clamp_found cause (length_found code (contents_at code base)) base (Computed index)
  clamp_of cause (Some (AccessIndex base number)) = clamp_found cause (length_found code (contents_at code base)) base (Constant number)
  clamp_of cause _ = Err cause

  -- what becomes of an expression for this cause, or `None` if it fits
  abbrev pub change_for : Option Cause → Option Expression → Result Change Cause
  change_for None expression = Ok Stays
  change_for (Some cause) expression = clamp_of cause expression

  -- what becomes of the expression with this handle, or why it cannot be clamped
  abbrev pub change_at : ℕ → Result Change Cause
  change_at handle = change_for (misfit code handle) (expression_at code handle)

  -- these are the changes of the expressions, in order
  pub record AreChanges (changes : List Change) : Type 0 where
    pub all : length changes ≡ length code.arena
    pub each : (handle : ℕ) → IfSome (slice_get changes handle) (λ change. change_at handle ≡ Ok change)
