-- The texts of scalar types, and of types that consist of scalars.
use Rattle.std.specs.Prelude.{ℕ, ◌==◌, List, ◌++◌, Option, Some, None, Result, Ok, Err, if◌then◌else◌, codes}
use Rattle.naga_kinds.specs.declared.scalar.Scalar.{Scalar}
use Rattle.naga_kinds.specs.declared.scalar.ScalarKind.{ScalarKind}
use Rattle.naga_kinds.specs.declared.scalar.ScalarKind.TheVariants as kind
use Rattle.naga_kinds.specs.declared.scalar.VectorSize.{VectorSize}
use Rattle.naga_kinds.specs.declared.scalar.VectorSize.TheVariants as size
use Rattle.naga_wgsl.specs.declared.write_error.Cause.{Cause}
use Rattle.naga_wgsl.specs.declared.write_error.Cause.TheVariants as cause

-- the name of a float of this width, if WGSL has it, and of an integer
abbrev pub float_name : (width : ℕ) → Option (List ℕ)
float_name width = if width == 4 then Some (codes "f32") else if width == 2 then Some (codes "f16") else None

abbrev pub integer_name : (width : ℕ) → (name : List ℕ) → Option (List ℕ)
integer_name width name = if width == 4 then Some name else None

-- the name of a scalar of this width, if WGSL has it
abbrev pub scalar_name : ScalarKind → (width : ℕ) → Option (List ℕ)
scalar_name kind.Sint width = integer_name width (codes "i32")
scalar_name kind.Uint width = integer_name width (codes "u32")
scalar_name kind.Float width = float_name width
scalar_name kind.Bool width = if width == 1 then Some (codes "bool") else None
scalar_name kind.AbstractInt width = None
scalar_name kind.AbstractFloat width = None

-- the name of a scalar that may be in a matrix, if it is one
abbrev pub component_name : ScalarKind → (width : ℕ) → Option (List ℕ)
component_name kind.Float width = float_name width
component_name _ width = None

-- the name of a scalar that may be an atomic, if it is one
abbrev pub atomic_name : ScalarKind → (width : ℕ) → Option (List ℕ)
atomic_name kind.Sint width = integer_name width (codes "i32")
atomic_name kind.Uint width = integer_name width (codes "u32")
atomic_name _ width = None

-- a number of components, columns or rows
abbrev pub size_text : VectorSize → List ℕ
size_text size.Bi = codes "2"
size_text size.Tri = codes "3"
size_text size.Quad = codes "4"

-- a name, or else this is why there is none
abbrev pub name_or : Cause → Option (List ℕ) → Result (List ℕ) Cause
name_or cause (Some name) = Ok name
name_or cause None = Err cause

-- a type with a name in angle brackets, if there is one
abbrev pub bracketed_text : (front : List ℕ) → Cause → Option (List ℕ) → Result (List ℕ) Cause
bracketed_text front cause (Some name) = Ok (front ++ (codes "<" ++ (name ++ codes ">")))
bracketed_text front cause None = Err cause

-- the type of a scalar, or why WGSL has none
abbrev pub scalar_text : Scalar → Result (List ℕ) Cause
scalar_text scalar = name_or cause.Scalar (scalar_name scalar.kind scalar.width)

-- the type of a vector, or why WGSL has none
abbrev pub vector_text : VectorSize → Scalar → Result (List ℕ) Cause
vector_text size scalar = bracketed_text (codes "vec" ++ size_text size) cause.Scalar (scalar_name scalar.kind scalar.width)

-- the type of a matrix of floats, or why WGSL has none
abbrev pub matrix_text : (columns rows : VectorSize) → Scalar → Result (List ℕ) Cause
matrix_text columns rows scalar =
    bracketed_text (codes "mat" ++ (size_text columns ++ (codes "x" ++ size_text rows))) cause.Matrix (component_name scalar.kind scalar.width)

-- the type of an atomic of 32-bit integers, or why WGSL has none
abbrev pub atomic_text : Scalar → Result (List ℕ) Cause
atomic_text scalar = bracketed_text (codes "atomic") cause.Atomic (atomic_name scalar.kind scalar.width)
