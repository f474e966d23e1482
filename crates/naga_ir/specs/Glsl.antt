-- The types that a GLSL uniform can have.
use Rattle.std.specs.Prelude.{Option, None, option_map}
use Rattle.naga_kinds.specs.Glsl.{glsl_size_of, glsl_scalar_of}
use Rattle.naga_ir.specs.declared.glsl.GlslUniformType.{GlslUniformType}
use Rattle.naga_ir.specs.declared.glsl.GlslUniformType.TheVariants as uniform
use Rattle.naga_ir.specs.declared.types.TypeInner.{TypeInner}
use Rattle.naga_ir.specs.declared.types.TypeInner.TheVariants.{Scalar, Vector, Matrix}

-- the type with the same sizes and the same scalar, if GLSL has that scalar
abbrev pub glsl_type_of : TypeInner → Option GlslUniformType
glsl_type_of (Scalar scalar) = option_map uniform.Scalar (glsl_scalar_of scalar)
glsl_type_of (Vector size scalar) = option_map (uniform.Vector (glsl_size_of size)) (glsl_scalar_of scalar)
glsl_type_of (Matrix columns rows scalar) =
    option_map (uniform.Matrix (glsl_size_of columns) (glsl_size_of rows)) (glsl_scalar_of scalar)
glsl_type_of _ = None
