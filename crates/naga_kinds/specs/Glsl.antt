-- The scalars and sizes of GLSL uniforms.
use Rattle.std.specs.Prelude.{Option, Some, None, option_map}
use Rattle.naga_kinds.specs.declared.glsl.GlslScalar.{GlslScalar}
use Rattle.naga_kinds.specs.declared.glsl.GlslScalarKind.{GlslScalarKind}
use Rattle.naga_kinds.specs.declared.glsl.GlslScalarKind.TheVariants as glsl_kind
use Rattle.naga_kinds.specs.declared.glsl.GlslVectorSize.{GlslVectorSize}
use Rattle.naga_kinds.specs.declared.glsl.GlslVectorSize.TheVariants as glsl_size
use Rattle.naga_kinds.specs.declared.scalar.Scalar.{Scalar}
use Rattle.naga_kinds.specs.declared.scalar.ScalarKind.{ScalarKind}
use Rattle.naga_kinds.specs.declared.scalar.ScalarKind.TheVariants.{Sint, Uint, Float}
use Rattle.naga_kinds.specs.declared.scalar.VectorSize.{VectorSize}
use Rattle.naga_kinds.specs.declared.scalar.VectorSize.TheVariants.{Bi, Tri, Quad}

-- the kind of the same name, or `None` if it is not one of the three kinds that GLSL has
abbrev pub glsl_kind_of : ScalarKind → Option GlslScalarKind
glsl_kind_of Sint = Some glsl_kind.Sint
glsl_kind_of Uint = Some glsl_kind.Uint
glsl_kind_of Float = Some glsl_kind.Float
glsl_kind_of _ = None

-- the size of the same name
abbrev pub glsl_size_of : VectorSize → GlslVectorSize
glsl_size_of Bi = glsl_size.Bi
glsl_size_of Tri = glsl_size.Tri
glsl_size_of Quad = glsl_size.Quad

-- the scalar of the same kind and width, or `None` if GLSL has no such kind
abbrev pub glsl_scalar_of : Scalar → Option GlslScalar
glsl_scalar_of scalar =
    option_map (λ kind. record { kind = kind; width = scalar.width }) (glsl_kind_of scalar.kind)
