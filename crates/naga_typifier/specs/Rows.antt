-- The rows of the table of types: the type of an expression, by the contents of the types of its operands.
--
-- The ground of each row is given above it: the documentation of naga's IR, the rules of WGSL where that documentation
-- is silent, or a choice where both are.
use Rattle.std.specs.Prelude.{ℕ, Bool, true, Option, Some, None, option_and_then, unwrap_or, slice_get, nat_lt, nat_eq, if◌then◌else◌}
use Rattle.std.specs.Option.{option_map}
use Rattle.naga_kinds.specs.Scalar.{components_of}
use Rattle.naga_kinds.specs.declared.address_space.AddressSpace.{AddressSpace}
use Rattle.naga_kinds.specs.declared.scalar.Scalar.{Scalar}
use Rattle.naga_kinds.specs.declared.scalar.ScalarKind.{ScalarKind}
use Rattle.naga_kinds.specs.declared.scalar.VectorSize.{VectorSize}
use Rattle.naga_ir.specs.declared.types.TypeInner.{TypeInner}
use Rattle.naga_ir.specs.declared.types.TypeInner.TheVariants as inner
use Rattle.naga_typifier.specs.Context.{Context}
use Rattle.naga_typifier.specs.declared.resolution.TypeResolution.{TypeResolution}
use Rattle.naga_typifier.specs.declared.resolution.TypeResolution.TheVariants as resolution

-- what a partial function has at a value that is present
infixl 10 ◌>>=◌
abbrev pub ◌>>=◌ : {A B : Type 0} → Option A → (A → Option B) → Option B
found >>= f = option_and_then f found

-- the declared type with this handle
abbrev pub handle : ℕ → TypeResolution
handle ty = resolution.Handle ty

-- a type that need not be declared
abbrev pub value : TypeInner → Option TypeResolution
value contents = Some (resolution.Value contents)

-- a type that need not be declared, if the condition holds
abbrev pub when : Bool → TypeInner → Option TypeResolution
when holds contents = if holds then value contents else None

-- The same type again. A choice: a type that no expression has without a declaration, such as a structure, has no copy.
abbrev pub copied : TypeResolution → Option TypeResolution
copied (resolution.Handle ty) = Some (resolution.Handle ty)
copied (resolution.Value (inner.Scalar scalar)) = value (inner.Scalar scalar)
copied (resolution.Value (inner.Vector size scalar)) = value (inner.Vector size scalar)
copied (resolution.Value (inner.Matrix columns rows scalar)) = value (inner.Matrix columns rows scalar)
copied (resolution.Value (inner.CooperativeMatrix columns rows scalar role)) =
    value (inner.CooperativeMatrix columns rows scalar role)
copied (resolution.Value (inner.Pointer base space)) = value (inner.Pointer base space)
copied (resolution.Value (inner.ValuePointer size scalar space)) = value (inner.ValuePointer size scalar space)
copied _ = None

-- a scalar, or a vector of this size
abbrev pub sized : Option VectorSize → Scalar → TypeInner
sized None scalar = inner.Scalar scalar
sized (Some size) scalar = inner.Vector size scalar

-- a scalar or a vector in which each scalar is replaced
abbrev pub mapped : (Scalar → Scalar) → TypeInner → Option TypeResolution
mapped f (inner.Scalar scalar) = value (inner.Scalar (f scalar))
mapped f (inner.Vector size scalar) = value (inner.Vector size (f scalar))
mapped f _ = None

-- ---- parts

-- the index is less than the size, or it is not known
abbrev pub is_within : Option ℕ → VectorSize → Bool
is_within None size = true
is_within (Some index) size = nat_lt index (components_of size)

-- The part of a value at an index, which is `None` if it is computed.
--
-- By the documentation, a vector has scalars, a matrix has vectors, an array has elements, and a structure has members,
-- only at a known index. Indexing a binding array "works transparently". As in WGSL, a known index past the end of a
-- vector, a matrix or a structure has no part. A choice: the length of an array is not compared, since an override can
-- determine it.
abbrev pub part_of : Option ℕ → TypeInner → Option TypeResolution
part_of index (inner.Vector size scalar) = when (is_within index size) (inner.Scalar scalar)
part_of index (inner.Matrix columns rows scalar) = when (is_within index columns) (inner.Vector rows scalar)
part_of index (inner.Array base size stride) = Some (handle base)
part_of index (inner.BindingArray base size) = Some (handle base)
part_of (Some index) (inner.Struct members span) =
    option_map (λ member. handle member.ty) (slice_get members.items index)
part_of _ _ = None

-- A pointer to a part. By the documentation, it is a `ValuePointer` if the part is of a vector or of a matrix, and
-- otherwise a `Pointer`.
abbrev pub pointer_to : AddressSpace → TypeResolution → Option TypeResolution
pointer_to space (resolution.Handle base) = value (inner.Pointer base space)
pointer_to space (resolution.Value (inner.Scalar scalar)) = value (inner.ValuePointer None scalar space)
pointer_to space (resolution.Value (inner.Vector size scalar)) = value (inner.ValuePointer (Some size) scalar space)
pointer_to space _ = None

-- The part of a value, or a pointer to the part of what a pointer points to. By the documentation, the pointers are in
-- the same space, and a `ValuePointer` must have a size.
abbrev pub accessed : Context → Option ℕ → TypeInner → Option TypeResolution
accessed ctx index (inner.Pointer base space) = (ctx.types base >>= part_of index) >>= pointer_to space
accessed ctx index (inner.ValuePointer (Some size) scalar space) =
    part_of index (inner.Vector size scalar) >>= pointer_to space
accessed ctx index contents = part_of index contents

-- By the documentation, the value behind a pointer: the scalar of an atomic, and otherwise the base itself.
abbrev pub pointee : ℕ → TypeInner → TypeResolution
pointee base (inner.Atomic scalar) = resolution.Value (inner.Scalar scalar)
pointee base contents = resolution.Handle base

-- By the documentation, what is loaded through a pointer. A `ValuePointer` points to a scalar or to a vector.
abbrev pub loaded : Context → TypeInner → Option TypeResolution
loaded ctx (inner.Pointer base space) = option_map (pointee base) (ctx.types base)
loaded ctx (inner.ValuePointer size scalar space) = value (sized size scalar)
loaded ctx _ = None

-- by the documentation, a vector of this size from a scalar
abbrev pub splatted : VectorSize → TypeInner → Option TypeResolution
splatted size (inner.Scalar scalar) = value (inner.Vector size scalar)
splatted size _ = None

-- By the documentation, a vector of this size from a vector. A choice: the pattern is not compared with the operand.
abbrev pub swizzled : VectorSize → TypeInner → Option TypeResolution
swizzled size (inner.Vector from scalar) = value (inner.Vector size scalar)
swizzled size _ = None

-- ---- operators

-- the two sizes are equal
abbrev pub same_size : VectorSize → VectorSize → Bool
same_size first second = nat_eq (components_of first) (components_of second)

-- The product of two values of which at least one is a matrix.
--
-- By the documentation, the sizes must fit: `vecR * matCxR`, `matCxR * vecC` and `matNxR * matCxN`. The product of two
-- matrices has the columns of the second and the rows of the first. A choice: the scalars are not compared.
abbrev pub matrix_product : TypeInner → TypeInner → Option TypeResolution
matrix_product (inner.Vector size also) (inner.Matrix columns rows scalar) =
    when (same_size rows size) (inner.Vector columns scalar)
matrix_product (inner.Matrix columns rows scalar) (inner.Vector size also) =
    when (same_size columns size) (inner.Vector rows scalar)
matrix_product (inner.Matrix columns rows scalar) (inner.Matrix others inside also) =
    when (same_size columns inside) (inner.Matrix others rows scalar)
matrix_product _ _ = None

-- The product of two values with these types and contents.
--
-- By the documentation, a scalar or a vector multiplies another one of the same type, and a scalar multiplies a vector
-- or a matrix from either side. A choice: the scalars are not compared.
abbrev pub product : (left right : TypeResolution) → TypeInner → TypeInner → Option TypeResolution
product left right (inner.Scalar scalar) (inner.Scalar also) = copied left
product left right (inner.Vector size scalar) (inner.Scalar also) = copied left
product left right (inner.Matrix columns rows scalar) (inner.Scalar also) = copied left
product left right (inner.Scalar scalar) (inner.Vector size also) = copied right
product left right (inner.Scalar scalar) (inner.Matrix columns rows also) = copied right
product left right (inner.Vector size scalar) (inner.Vector again also) =
    if same_size size again then copied left else None
product left right a b = matrix_product a b

-- By the documentation, a scalar of this kind, of the width to which it is converted, or of its own width if its bits
-- are cast.
abbrev pub cast : ScalarKind → Option ℕ → Scalar → Scalar
cast kind convert scalar = record { kind = kind; width = unwrap_or convert scalar.width }

-- ---- cooperative matrices

-- the scalar of which a number, a vector or a matrix consists
abbrev pub scalar_in : TypeInner → Option Scalar
scalar_in (inner.Scalar scalar) = Some scalar
scalar_in (inner.Vector size scalar) = Some scalar
scalar_in (inner.Matrix columns rows scalar) = Some scalar
scalar_in _ = None

-- A choice: the scalar of a cooperative matrix that is loaded through a pointer is the scalar behind the pointer.
abbrev pub scalar_behind : Context → TypeInner → Option Scalar
scalar_behind ctx (inner.Pointer base space) = ctx.types base >>= scalar_in
scalar_behind ctx (inner.ValuePointer size scalar space) = Some scalar
scalar_behind ctx _ = None
