-- Which elements an expression accesses, and how many elements there are.
use Rattle.std.specs.Prelude.{ℕ, Bool, false, ◌&&◌, List, [], ◌∷◌, map, take, Option, Some, None, nat_lt, slice_get}
use Rattle.std.specs.Int.NonZero.{non_zero_u32_get}
use Rattle.std.specs.Option.{option_map}
use Rattle.naga_arena.specs.Arena.{value_at}
use Rattle.naga_arena.specs.declared.span.Span.{Span}
use Rattle.naga_kinds.specs.Scalar.{components_of}
use Rattle.naga_kinds.specs.Swizzle.{place_of}
use Rattle.naga_kinds.specs.declared.operator.SwizzleComponent.{SwizzleComponent}
use Rattle.naga_ir.specs.declared.expression.Expression.{Expression}
use Rattle.naga_ir.specs.declared.expression.Expression.TheVariants.{Access, AccessIndex, Swizzle}
use Rattle.naga_ir.specs.declared.types.ArraySize.{ArraySize}
use Rattle.naga_ir.specs.declared.types.ArraySize.TheVariants as size
use Rattle.naga_ir.specs.declared.types.Type.{«Type» as Declared}
use Rattle.naga_ir.specs.declared.types.TypeInner.{TypeInner}
use Rattle.naga_ir.specs.declared.types.TypeInner.TheVariants as inner
use Rattle.naga_flow.specs.Readings.{constant_base_of, constant_chains_in, passes}
use Rattle.naga_typifier.specs.Context.{contents_of, inner_at}
use Rattle.naga_typifier.specs.Inner.{parts_of}
use Rattle.naga_typifier.specs.Rows.{◌>>=◌}
use Rattle.naga_typifier.specs.declared.resolution.TypeResolution.{TypeResolution}
use Rattle.naga_bounds.specs.declared.length.Length.{Length}
use Rattle.naga_bounds.specs.declared.length.Length.TheVariants.{Fixed, Overridden, Counted}
use Rattle.naga_bounds.specs.declared.cause.Position.{Position}
use Rattle.naga_bounds.specs.declared.cause.Position.TheVariants.{Constant, Computed}

-- ---- lengths

abbrev pub length_of_size : ArraySize → Option Length
length_of_size (size.Constant number) = Some (Fixed (non_zero_u32_get number))
length_of_size (size.Pending handle) = Some (Overridden handle)
length_of_size size.Dynamic = None

-- The number of parts of a value. An array without a size is no value, and nothing says how long a binding array without
-- a size is.
abbrev pub length_of : TypeInner → Option Length
length_of (inner.Array base size stride) = length_of_size size
length_of (inner.BindingArray base size) = length_of_size size
length_of contents = option_map Fixed (parts_of contents)

-- the number of parts of what a pointer points to
abbrev pub length_behind : TypeInner → Option Length
length_behind (inner.Array base size.Dynamic stride) = Some Counted
length_behind contents = length_of contents

-- the number of parts of a value, or of what it points to if it is a pointer, by the types with handles
abbrev pub length_reached : (types : ℕ → Option TypeInner) → TypeInner → Option Length
length_reached types (inner.Pointer base space) = types base >>= length_behind
length_reached types (inner.ValuePointer size scalar space) = option_map (λ some. Fixed (components_of some)) size
length_reached types contents = length_of contents

-- ---- accesses

-- the parts of a base at some positions
pub record Reach : Type 0 where
  pub base : ℕ
  pub positions : List Position

abbrev pub positions_of : List SwizzleComponent → List Position
positions_of components = map (λ component. Constant (place_of component)) components

-- what an access reaches, or `None` for any other expression
abbrev pub reach_of : Expression → Option Reach
reach_of (Access base index) = Some (record { base = base; positions = Computed index ∷ [] })
reach_of (AccessIndex base index) = Some (record { base = base; positions = Constant index ∷ [] })
reach_of (Swizzle size vector pattern) =
    Some (record { base = vector; positions = positions_of (take (components_of size) pattern) })
reach_of _ = None

-- the index of an access by a constant index
abbrev pub constant_index_of : Expression → Option ℕ
constant_index_of (AccessIndex base index) = Some index
constant_index_of _ = None

-- ---- functions

-- The expressions of a function with their types: the declared types, the types of the first expressions, as far as they
-- are known, and the arena.
pub record Typed : Type 0 where
  pub types : List (Declared × Span)
  pub known : List TypeResolution
  pub arena : List (Expression × Span)

-- the number, if there is one, is less than a fixed length
abbrev pub is_below_fixed : Option Length → ℕ → Bool
is_below_fixed (Some (Fixed count)) number = nat_lt number count
is_below_fixed _ number = false

module _ (code : Typed) where
  abbrev pub expression_at : ℕ → Option Expression
  expression_at handle = value_at code.arena handle

  -- the contents of the type of an expression
  abbrev pub contents_at : ℕ → Option TypeInner
  contents_at handle = slice_get code.known handle >>= contents_of (inner_at code.types)

  -- how many parts the value of an expression has, or what it points to
  abbrev pub length_at : ℕ → Option Length
  length_at handle = contents_at handle >>= length_reached (inner_at code.types)

  -- the expression is an access by a constant index to this base, which comes before it, and the index is below the fixed
  -- length of the base
  abbrev pub is_fixed_access_to : (handle base : ℕ) → Bool
  is_fixed_access_to handle base =
      nat_lt base handle && passes (is_below_fixed (length_at base)) (expression_at handle >>= constant_index_of)

  abbrev pub is_fixed_access : ℕ → Bool
  is_fixed_access handle = passes (is_fixed_access_to handle) (expression_at handle >>= constant_base_of)

  -- The expression is evaluated where it is used: it is ready when the function is entered, or a chain of such accesses
  -- that ends in one that is ready. Each other access is evaluated by the `Emit` that covers it.
  abbrev pub at_use : ℕ → Bool
  at_use handle = constant_chains_in is_fixed_access code.arena handle
