-- What can be read from the contents of a type.
use Rattle.std.specs.Prelude.{ℕ, ◌*◌, Bool, true, false, Option, Some, None, length}
use Rattle.std.specs.Int.NonZero.{non_zero_u32_get}
use Rattle.naga_kinds.specs.Scalar.{components_of}
use Rattle.naga_kinds.specs.declared.address_space.AddressSpace.{AddressSpace}
use Rattle.naga_kinds.specs.declared.scalar.Scalar.{Scalar}
use Rattle.naga_ir.specs.declared.types.ArraySize.TheVariants as array
use Rattle.naga_ir.specs.declared.types.TypeInner.{TypeInner}
use Rattle.naga_ir.specs.declared.types.TypeInner.TheVariants as inner
use Rattle.naga_typifier.specs.Rows.{scalar_in}

-- the scalar of which a value consists, or `None` if it is neither a number, a vector nor a matrix
abbrev pub scalar_of_inner : TypeInner → Option Scalar
scalar_of_inner (inner.CooperativeMatrix columns rows scalar role) = Some scalar
scalar_of_inner contents = scalar_in contents

-- a variable of this type has no memory: it represents an image, a sampler or an acceleration structure
abbrev pub is_handle : TypeInner → Bool
is_handle (inner.Image dim arrayed class) = true
is_handle (inner.Sampler comparison) = true
is_handle (inner.AccelerationStructure vertex_return) = true
is_handle _ = false

-- the address space to which a pointer points, or `None` for any other type
abbrev pub space_of : TypeInner → Option AddressSpace
space_of (inner.Pointer base space) = Some space
space_of (inner.ValuePointer size scalar space) = Some space
space_of _ = None

-- The number of parts: components of a vector, columns of a matrix, elements of an array whose length is written, or
-- members of a structure. `None` for any other type.
abbrev pub parts_of : TypeInner → Option ℕ
parts_of (inner.Vector size scalar) = Some (components_of size)
parts_of (inner.Matrix columns rows scalar) = Some (components_of columns)
parts_of (inner.Array base (array.Constant count) stride) = Some (non_zero_u32_get count)
parts_of (inner.Struct members span) = Some (length members.items)
parts_of _ = None

-- the number of bytes of a scalar or of a vector, or `None` for any other type
abbrev pub bytes_of : TypeInner → Option ℕ
bytes_of (inner.Scalar scalar) = Some scalar.width
bytes_of (inner.Vector size scalar) = Some (components_of size * scalar.width)
bytes_of _ = None
