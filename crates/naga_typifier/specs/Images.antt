-- The rows of the table of types for images.
use Rattle.std.specs.Prelude.{Option, Some, None}
use Rattle.naga_kinds.specs.Scalar.{scalar_of}
use Rattle.naga_kinds.specs.declared.image.ImageClass.{ImageClass}
use Rattle.naga_kinds.specs.declared.image.ImageClass.TheVariants as class
use Rattle.naga_kinds.specs.declared.image.ImageDimension.{ImageDimension}
use Rattle.naga_kinds.specs.declared.image.ImageDimension.TheVariants.{D1, D3}
use Rattle.naga_kinds.specs.declared.operator.SwizzleComponent.{SwizzleComponent}
use Rattle.naga_kinds.specs.declared.scalar.Scalar.{Scalar}
use Rattle.naga_kinds.specs.declared.scalar.ScalarKind.{ScalarKind}
use Rattle.naga_kinds.specs.declared.scalar.VectorSize.TheVariants.{Bi, Tri, Quad}
use Rattle.naga_kinds.specs.declared.scalar.TheConstants.Scalar.{U32, F32}
use Rattle.naga_ir.specs.declared.types.TypeInner.{TypeInner}
use Rattle.naga_ir.specs.declared.types.TypeInner.TheVariants as inner
use Rattle.naga_typifier.specs.Rows.{value}
use Rattle.naga_typifier.specs.declared.resolution.TypeResolution.{TypeResolution}

-- the class of an image, or `None` for any other type
abbrev pub class_of : TypeInner → Option ImageClass
class_of (inner.Image dim arrayed class) = Some class
class_of _ = None

-- As in WGSL, a component of a sampled image has 4 bytes.
abbrev pub of_kind : ScalarKind → Scalar
of_kind kind = record { kind = kind; width = 4 }

-- A texel. By the documentation, it has four components of the kind of the image, and that of a depth image is a float.
-- A component of a storage image has the scalar type of its format. As in WGSL, the float has 4 bytes, and an external
-- image has four such floats.
abbrev pub texel : ImageClass → TypeInner
texel (class.Depth multi) = inner.Scalar F32
texel (class.Sampled kind multi) = inner.Vector Quad (of_kind kind)
texel (class.Storage format access) = inner.Vector Quad (scalar_of format)
texel class.External = inner.Vector Quad F32

-- A sample, which gathers one component of each of four texels if a component is given. By the documentation, sampled
-- and depth images are sampled. As in WGSL, a sample is like a texel, external images are also sampled, but not
-- gathered, and four depths are gathered from a depth image.
abbrev pub sample : Option SwizzleComponent → ImageClass → Option TypeResolution
sample (Some component) (class.Sampled kind multi) = value (inner.Vector Quad (of_kind kind))
sample (Some component) (class.Depth multi) = value (inner.Vector Quad F32)
sample None (class.Sampled kind multi) = value (texel (class.Sampled kind multi))
sample None (class.Depth multi) = value (texel (class.Depth multi))
sample None class.External = value (texel class.External)
sample _ _ = None

-- By the documentation, the size is a `u32` in one dimension, and a vector of `u32` in more. As in WGSL, the size of a
-- cube is that of a face.
abbrev pub extent : ImageDimension → TypeInner
extent D1 = inner.Scalar U32
extent D3 = inner.Vector Tri U32
extent _ = inner.Vector Bi U32

-- the type of the size of an image
abbrev pub size_of : TypeInner → Option TypeResolution
size_of (inner.Image dim arrayed class) = value (extent dim)
size_of _ = None
