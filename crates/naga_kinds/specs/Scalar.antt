-- Sizes of vectors and widths of scalars as numbers, and the scalar types of storage formats.
use Rattle.std.specs.Prelude.{ℕ}
use Rattle.naga_kinds.specs.declared.format.StorageFormat.{StorageFormat}
use Rattle.naga_kinds.specs.declared.format.StorageFormat.TheVariants.{R8Uint, R16Uint, Rg8Uint, R32Uint, Rg16Uint, Rgba8Uint, Rgb10a2Uint, R64Uint, Rg32Uint, Rgba16Uint, Rgba32Uint, R8Sint, R16Sint, Rg8Sint, R32Sint, Rg16Sint, Rgba8Sint, Rg32Sint, Rgba16Sint, Rgba32Sint}
use Rattle.naga_kinds.specs.declared.scalar.Scalar.{Scalar}
use Rattle.naga_kinds.specs.declared.scalar.ScalarKind.{ScalarKind}
use Rattle.naga_kinds.specs.declared.scalar.ScalarKind.TheVariants.{Sint, Uint, Float}
use Rattle.naga_kinds.specs.declared.scalar.VectorSize.{VectorSize}
use Rattle.naga_kinds.specs.declared.scalar.VectorSize.TheVariants.{Bi, Tri, Quad}

-- the number of components of a vector
abbrev pub components_of : VectorSize → ℕ
components_of Bi = 2
components_of Tri = 3
components_of Quad = 4

-- the width of a boolean, in bytes
abbrev pub bool_width : ℕ
bool_width = 1

-- the width of a number whose type is not chosen yet, in bytes
abbrev pub abstract_width : ℕ
abstract_width = 8

-- the kind of a texel's components: `Uint` or `Sint` if the name of the format ends in it, and `Float` otherwise
abbrev pub kind_of : StorageFormat → ScalarKind
kind_of R8Uint = Uint
kind_of R16Uint = Uint
kind_of Rg8Uint = Uint
kind_of R32Uint = Uint
kind_of Rg16Uint = Uint
kind_of Rgba8Uint = Uint
kind_of Rgb10a2Uint = Uint
kind_of R64Uint = Uint
kind_of Rg32Uint = Uint
kind_of Rgba16Uint = Uint
kind_of Rgba32Uint = Uint
kind_of R8Sint = Sint
kind_of R16Sint = Sint
kind_of Rg8Sint = Sint
kind_of R32Sint = Sint
kind_of Rg16Sint = Sint
kind_of Rgba8Sint = Sint
kind_of Rg32Sint = Sint
kind_of Rgba16Sint = Sint
kind_of Rgba32Sint = Sint
kind_of _ = Float

-- the width in bytes with which a component is read: 8 if it has 64 bits, and 4 otherwise
abbrev pub width_of : StorageFormat → ℕ
width_of R64Uint = 8
width_of _ = 4

-- the scalar type with which a component is read
abbrev pub scalar_of : StorageFormat → Scalar
scalar_of format = record { kind = kind_of format; width = width_of format }
