-- What the requirements of expressions read from the contents of types.
use Rattle.std.specs.Prelude.{ℕ, Bool, true, false, ◌||◌, ◌&&◌, not, if◌then◌else◌, Option, Some, None, nat_eq}
use Rattle.naga_kinds.specs.declared.image.ImageClass.{ImageClass}
use Rattle.naga_kinds.specs.declared.image.ImageClass.TheVariants as class
use Rattle.naga_kinds.specs.declared.image.ImageDimension.{ImageDimension}
use Rattle.naga_kinds.specs.declared.image.ImageDimension.TheVariants.{D2, Cube}
use Rattle.naga_kinds.specs.declared.scalar.Scalar.{Scalar}
use Rattle.naga_kinds.specs.declared.scalar.ScalarKind.{ScalarKind}
use Rattle.naga_kinds.specs.declared.scalar.ScalarKind.TheVariants as kind
use Rattle.naga_kinds.specs.declared.scalar.VectorSize.{VectorSize}
use Rattle.naga_ir.specs.declared.types.ArraySize.{ArraySize}
use Rattle.naga_ir.specs.declared.types.ArraySize.TheVariants as size
use Rattle.naga_ir.specs.declared.types.TypeInner.{TypeInner}
use Rattle.naga_ir.specs.declared.types.TypeInner.TheVariants as inner
use Rattle.naga_typifier.specs.Math.{is_concrete_float, is_float, is_integer, is_number, is_signed}
use Rattle.naga_typing.specs.declared.requirement.Scalars.{Scalars}
use Rattle.naga_typing.specs.declared.requirement.Scalars.TheVariants.{Any, Numbers, Signed, Floats, Integers, Bits, Booleans}

-- ---- scalars

-- a scalar of this kind is a boolean
abbrev pub is_boolean : ScalarKind → Bool
is_boolean kind.Bool = true
is_boolean _ = false

-- the scalar is one of these
abbrev pub is_one_of : Scalars → Scalar → Bool
is_one_of Any scalar = true
is_one_of Numbers scalar = is_number scalar.kind
is_one_of Signed scalar = is_signed scalar.kind
is_one_of Floats scalar = is_float scalar.kind
is_one_of Integers scalar = is_integer scalar.kind
is_one_of Bits scalar = is_integer scalar.kind || is_boolean scalar.kind
is_one_of Booleans scalar = is_boolean scalar.kind

-- scalars of a kind can have this number of bytes
abbrev pub has_width : ScalarKind → (width : ℕ) → Bool
has_width kind.Bool width = nat_eq width 1
has_width kind.AbstractInt width = nat_eq width 8
has_width kind.AbstractFloat width = nat_eq width 8
has_width _ width = nat_eq width 2 || (nat_eq width 4 || nat_eq width 8)

-- there is a scalar, and this is one to which it can be converted
abbrev pub converts : (to : Scalar) → Option Scalar → Bool
converts to None = false
converts to (Some scalar) = has_width to.kind to.width

-- there is a scalar, and its bits are those of one of this kind, which is not that of booleans
abbrev pub has_bits_of : (to : ScalarKind) → Option Scalar → Bool
has_bits_of to None = false
has_bits_of to (Some scalar) = not (is_boolean to) && has_width to scalar.width

-- the scalar is present and one of these
abbrev pub has_one_of : Scalars → Option Scalar → Bool
has_one_of scalars None = false
has_one_of scalars (Some scalar) = is_one_of scalars scalar

-- the scalar that a type is, or `None` for any other type
abbrev pub single : TypeInner → Option Scalar
single (inner.Scalar scalar) = Some scalar
single _ = None

-- the scalar of the components of a vector, or that a type is, or `None` for any other type
abbrev pub component : TypeInner → Option Scalar
component (inner.Scalar scalar) = Some scalar
component (inner.Vector size scalar) = Some scalar
component _ = None

-- a scalar of this kind is an unsigned integer
abbrev pub is_unsigned : ScalarKind → Bool
is_unsigned kind.Uint = true
is_unsigned _ = false

-- the size of a vector of unsigned integers, or `None` in place of a size for one of them
abbrev pub unsigned_size : TypeInner → Option (Option VectorSize)
unsigned_size (inner.Scalar scalar) = if is_unsigned scalar.kind then Some None else None
unsigned_size (inner.Vector size scalar) = if is_unsigned scalar.kind then Some (Some size) else None
unsigned_size _ = None

-- ---- images

-- images of this class can be sampled: they have one sample for each texel, of floating-point numbers, or are external
abbrev pub can_be_sampled : ImageClass → Bool
can_be_sampled (class.Sampled texels multi) = is_concrete_float texels && not multi
can_be_sampled (class.Depth multi) = not multi
can_be_sampled (class.Storage format access) = false
can_be_sampled class.External = true

-- the component at a position can be gathered from images of this class, which is the first one of depths
abbrev pub has_component : (position : ℕ) → ImageClass → Bool
has_component position (class.Sampled texels multi) = not multi
has_component position (class.Depth multi) = not multi && nat_eq position 0
has_component position _ = false

-- four texels of images of this dimension are beside one another
abbrev pub has_squares : ImageDimension → Bool
has_squares D2 = true
has_squares Cube = true
has_squares _ = false

-- the component at a position can be gathered from four texels of this image
abbrev pub can_be_gathered : (position : ℕ) → TypeInner → Bool
can_be_gathered position (inner.Image dim arrayed class) = has_squares dim && has_component position class
can_be_gathered position _ = false

-- there is a dimension, and texels have coordinates in it, as they have not in a cube
abbrev pub has_coordinates : Option ImageDimension → Bool
has_coordinates None = false
has_coordinates (Some Cube) = false
has_coordinates (Some dim) = true

-- each texel has several samples
abbrev pub has_samples : ImageClass → Bool
has_samples (class.Sampled texels multi) = multi
has_samples (class.Depth multi) = multi
has_samples _ = false

-- images of this class have mipmap levels
abbrev pub has_levels : ImageClass → Bool
has_levels (class.Sampled texels multi) = not multi
has_levels (class.Depth multi) = not multi
has_levels _ = false

-- the class of an image passes the test
abbrev pub class_passes : (ImageClass → Bool) → Option ImageClass → Bool
class_passes test None = false
class_passes test (Some class) = test class

-- ---- other types

-- the two truth values are the same
abbrev pub same_truth : Bool → Bool → Bool
same_truth true other = other
same_truth false other = not other

-- this is a sampler that compares depths if and only if `wanted`
abbrev pub is_sampler : Bool → TypeInner → Bool
is_sampler wanted (inner.Sampler comparison) = same_truth wanted comparison
is_sampler wanted _ = false

-- the number of elements is known when the shader runs
abbrev pub is_dynamic_size : ArraySize → Bool
is_dynamic_size size.Dynamic = true
is_dynamic_size _ = false

-- this is an array of a dynamic size
abbrev pub is_dynamic_array : TypeInner → Bool
is_dynamic_array (inner.Array base size stride) = is_dynamic_size size
is_dynamic_array _ = false
