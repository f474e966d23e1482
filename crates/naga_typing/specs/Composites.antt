-- Which components values of composite types have, and which vectors have the components of a pattern.
--
-- By the documentation of naga's IR, a vector, a matrix, an array or a structure is composed of its components. As in
-- WGSL, those of a vector are scalars and vectors of its own scalar, which together have as many scalars as it. Those of
-- a matrix are its columns, those of an array its elements, and those of a structure its members. A choice: the number
-- of elements is not compared with the length of an array that an override determines. No value is composed of any other
-- type, such as an array of a dynamic size.
use Rattle.std.specs.Prelude.{ℕ, Bool, true, false, List, length, Option, None, Some, nat_eq, nat_le, slice_get}
use Rattle.std.specs.Int.NonZero.{non_zero_u32_get}
use Rattle.naga_kinds.specs.Scalar.{components_of}
use Rattle.naga_kinds.specs.declared.scalar.Scalar.{Scalar}
use Rattle.naga_kinds.specs.declared.scalar.VectorSize.{VectorSize}
use Rattle.naga_ir.specs.declared.types.ArraySize.{ArraySize}
use Rattle.naga_ir.specs.declared.types.ArraySize.TheVariants as size
use Rattle.naga_ir.specs.declared.types.TypeInner.{TypeInner}
use Rattle.naga_ir.specs.declared.types.TypeInner.TheVariants as inner
use Rattle.naga_typing.specs.declared.requirement.FirstComponents.{FirstComponents}

-- an array of this size can be composed of this number of elements
abbrev pub takes_elements : (count : ℕ) → ArraySize → Bool
takes_elements count (size.Constant number) = nat_eq count (non_zero_u32_get number)
takes_elements count (size.Pending override) = true
takes_elements count size.Dynamic = false

-- a value of this type can be composed of this number of components
abbrev pub takes : (count : ℕ) → TypeInner → Bool
takes count (inner.Vector size scalar) = nat_le count (components_of size)
takes count (inner.Matrix columns rows scalar) = nat_eq count (components_of columns)
takes count (inner.Array base size stride) = takes_elements count size
takes count (inner.Struct members span) = nat_eq count (length members.items)
takes count _ = false

-- the scalar of a vector, or `None` for any other type
abbrev pub vector_scalar : TypeInner → Option Scalar
vector_scalar (inner.Vector size scalar) = Some scalar
vector_scalar _ = None

-- the number of scalars of a scalar or a vector, which is 0 for any other type
abbrev pub entries : TypeInner → ℕ
entries (inner.Scalar scalar) = 1
entries (inner.Vector size scalar) = components_of size
entries _ = 0

-- the number of scalars of a type that may be absent
abbrev pub entries_of : Option TypeInner → ℕ
entries_of None = 0
entries_of (Some what) = entries what

-- this is the number of scalars of a vector, if the type is one
abbrev pub is_filled_by : (count : ℕ) → TypeInner → Bool
is_filled_by count (inner.Vector size scalar) = nat_eq count (components_of size)
is_filled_by count _ = true

-- the first four of these components, which are all if a vector can be composed of them
abbrev pub first_components : List ℕ → FirstComponents
first_components components = record {
  first = slice_get components 0;
  second = slice_get components 1;
  third = slice_get components 2;
  fourth = slice_get components 3;
}

-- there is a size, and a vector of this size has at least this number of components
abbrev pub has_components : (count : ℕ) → Option VectorSize → Bool
has_components count None = false
has_components count (Some size) = nat_le count (components_of size)
