-- Accesses that are in bounds whatever a function is called with, as the form of their indices shows, and why the others
-- may not be.
use Rattle.std.specs.Prelude.{◌≡◌, ◌<◌, ℕ, Bool, false, ◌&&◌, List, [], ◌∷◌, Option, Some, None, Result, Ok, Err, ◌||◌, nat_eq, nat_le, nat_lt, if◌then◌else◌, is_some, length, map}
use Rattle.std.specs.List.{count_by, range_with_len}
use Rattle.naga_kinds.specs.declared.math.MathFunction.TheVariants.{Clamp, Min}
use Rattle.naga_kinds.specs.declared.operator.BinaryOperator.TheVariants.{And, Modulo, Subtract}
use Rattle.naga_ir.specs.Literal.{u32_of}
use Rattle.naga_ir.specs.declared.expression.Expression.{Expression}
use Rattle.naga_ir.specs.declared.expression.Expression.TheVariants as expr
use Rattle.naga_ir.specs.declared.literal.Literal.TheVariants.{U32}
use Rattle.naga_ir.specs.declared.types.TypeInner.{TypeInner}
use Rattle.naga_flow.specs.Readings.{passes}
use Rattle.naga_typifier.specs.Context.{inner_at}
use Rattle.naga_typifier.specs.Rows.{◌>>=◌}
use Rattle.naga_bounds.specs.Reach.{Reach, Typed, at_use, contents_at, expression_at, length_reached, reach_of}
use Rattle.naga_bounds.specs.declared.cause.Cause.{Cause}
use Rattle.naga_bounds.specs.declared.cause.Cause.TheVariants.{NoType, NoLength, Part, Index}
use Rattle.naga_bounds.specs.declared.cause.Position.{Position}
use Rattle.naga_bounds.specs.declared.cause.Position.TheVariants.{Constant, Computed}
use Rattle.naga_bounds.specs.declared.length.Length.{Length}
use Rattle.naga_bounds.specs.declared.length.Length.TheVariants.{Fixed, Overridden, Counted}

-- ---- forms of expressions

-- the number of a 16-bit or 32-bit integer literal that is not negative
abbrev pub number_of : Expression → Option ℕ
number_of (expr.Literal literal) = elim (u32_of literal) as (λ _. Option ℕ) [ Ok number ↦ Some number | Err error ↦ None ]
number_of _ = None

-- the number of a literal of type `u32`
abbrev pub unsigned_of : Expression → Option ℕ
unsigned_of (expr.Literal (U32 number)) = Some number
unsigned_of _ = None

-- how operands of type `u32` bound a value: it is at most each of two, at most the second of two that is not less than
-- the first, or below one that is not 0
pub data Bound : Type 0 where
  at_most : (first second : ℕ) → Bound
  between : (low high : ℕ) → Bound
  below : (divisor : ℕ) → Bound

-- The operands that bound the value of an expression. A minimum is at most each operand, and so is a conjunction of bits.
-- A clamped value is at most the upper limit, and a remainder is below the divisor. Of signed operands, each may be negative.
abbrev pub bound_of : Expression → Option Bound
bound_of (expr.Math Min arg (Some arg1) None None) = Some (at_most arg arg1)
bound_of (expr.Math Clamp arg (Some arg1) (Some arg2) None) = Some (between arg1 arg2)
bound_of (expr.Binary And left right) = Some (at_most left right)
bound_of (expr.Binary Modulo left right) = Some (below right)
bound_of _ = None

abbrev pub difference_of : Expression → Option (ℕ × ℕ)
difference_of (expr.Binary Subtract left right) = Some (left, right)
difference_of _ = None

-- the pointer to the array whose length the expression is
abbrev pub counted_by : Expression → Option ℕ
counted_by (expr.ArrayLength array) = Some array
counted_by _ = None

abbrev pub override_of : Expression → Option ℕ
override_of (expr.Override handle) = Some handle
override_of _ = None

-- the length, or the cause `NoLength`
abbrev pub or_unknown : Option Length → Result Length Cause
or_unknown (Some long) = Ok long
or_unknown None = Err NoLength

-- ---- indices

-- there is a part with this constant index, whatever an override or a buffer determines: each array has a first element
abbrev pub has_part : Length → ℕ → Bool
has_part (Fixed count) number = nat_lt number count
has_part long number = nat_eq number 0

abbrev pub misfit_of_constant : Length → ℕ → Option Cause
misfit_of_constant long number = if has_part long number then None else Some (Part number)

module _ (code : Typed) where
  -- the expression is a literal of type `u32` that passes the test
  abbrev pub is_unsigned : (test : ℕ → Bool) → ℕ → Bool
  is_unsigned test handle = passes test (expression_at code handle >>= unsigned_of)

  -- The value of the expression is the length of the base, of an array in a buffer or of one whose size is an override.
  -- The length of an array in a buffer must be that of the same expression, and this one is evaluated at each use.
  abbrev pub is_length : Length → (base : ℕ) → ℕ → Bool
  is_length Counted base handle = passes (nat_eq base) (expression_at code handle >>= counted_by) && at_use code base
  is_length (Overridden override) base handle = passes (nat_eq override) (expression_at code handle >>= override_of)
  is_length (Fixed count) base handle = false

  abbrev pub is_length_less_one : Length → (base : ℕ) → Option (ℕ × ℕ) → Bool
  is_length_less_one long base (Some operands) = is_length long base operands.0 && is_unsigned (nat_eq 1) operands.1
  is_length_less_one long base None = false

  -- the value of the expression is of type `u32` and below the length: a literal, or the length less one
  abbrev pub is_limit : Length → (base : ℕ) → ℕ → Bool
  is_limit (Fixed count) base handle = is_unsigned (λ number. nat_lt number count) handle
  is_limit long base handle = is_length_less_one long base (expression_at code handle >>= difference_of)

  -- The value of the expression is of type `u32`, not 0 and at most the length: a literal, or the length of an array in a
  -- buffer.
  abbrev pub is_divisor : Length → (base : ℕ) → ℕ → Bool
  is_divisor (Fixed count) base handle = is_unsigned (λ number. nat_lt 0 number && nat_le number count) handle
  is_divisor (Overridden override) base handle = false
  is_divisor Counted base handle = is_length Counted base handle

  -- the first expression is a literal of type `u32` that is 0 or at most that of the second expression
  abbrev pub are_ordered : (low high : ℕ) → Bool
  are_ordered low high = is_unsigned (λ least. nat_eq least 0 || is_unsigned (λ number. nat_le least number) high) low

  -- there is a bound, and what has it is below the length
  abbrev pub is_bounded : Length → (base : ℕ) → Option Bound → Bool
  is_bounded long base (Some (at_most first second)) = is_limit long base first || is_limit long base second
  is_bounded long base (Some (between low high)) = is_limit long base high && are_ordered low high
  is_bounded long base (Some (below divisor)) = is_divisor long base divisor
  is_bounded long base None = false

  -- the operands of the expression show that its value is below the length
  abbrev pub is_clamped : Length → (base : ℕ) → ℕ → Bool
  is_clamped long base index = is_bounded long base (expression_at code index >>= bound_of)

  abbrev pub misfit_of_index : Length → (base index : ℕ) → (number : Option ℕ) → Option Cause
  misfit_of_index long base index (Some number) = misfit_of_constant long number
  misfit_of_index long base index None = if is_clamped long base index then None else Some (Index index)

  -- why the base may have no part at this position, or `None` if it has one
  abbrev pub misfit_at : Length → (base : ℕ) → Position → Option Cause
  misfit_at long base (Constant number) = misfit_of_constant long number
  misfit_at long base (Computed index) = misfit_of_index long base index (expression_at code index >>= number_of)

  -- ---- accesses

  -- the same for the first of these positions at which there may be none
  abbrev pub first_misfit : Length → (base : ℕ) → List Position → Option Cause
  first_misfit long base [] = None
  first_misfit long base (position ∷ rest) =
      elim (misfit_at long base position) as (λ _. Option Cause) [ None ↦ first_misfit long base rest | Some cause ↦ Some cause ]

  -- how many parts there are at a base whose type has these contents, or why that is not known
  abbrev pub length_found : Option TypeInner → Result Length Cause
  length_found None = Err NoType
  length_found (Some contents) = or_unknown (length_reached (inner_at code.types) contents)

  abbrev pub misfit_in : Result Length Cause → Reach → Option Cause
  misfit_in (Ok long) reach = first_misfit long reach.base reach.positions
  misfit_in (Err cause) reach = Some cause

  abbrev pub misfit_of : Option Reach → Option Cause
  misfit_of None = None
  misfit_of (Some reach) = misfit_in (length_found (contents_at code reach.base)) reach

  -- why an access may be out of bounds, or `None` if it is in bounds or the expression is no access
  abbrev pub misfit : ℕ → Option Cause
  misfit handle = misfit_of (expression_at code handle >>= reach_of)

  -- how many accesses may be out of bounds
  abbrev pub misfit_count : ℕ
  misfit_count = count_by is_some (map misfit (range_with_len 0 (length code.arena)))

  -- each access fits
  abbrev pub EachFits : Type 0
  EachFits = (handle : ℕ) → misfit handle ≡ None

  -- the first access that does not fit, and why
  pub record IsFirstMisfit (handle : ℕ) (cause : Cause) : Type 0 where
    pub misfits : misfit handle ≡ Some cause
    pub earlier : (other : ℕ) → other < handle → misfit other ≡ None
