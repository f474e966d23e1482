-- The types of built-in mathematical functions.
--
-- naga's documentation gives the names of the functions, and `modf` and `frexp` their predeclared types. All else is as
-- in WGSL, where a function by that name takes such a first argument and has such a result. WGSL has no `Outer` and no
-- `Inverse`, so these two rows are choices. In WGSL, the first argument and the function determine the type of the
-- result. So the other arguments are not examined, except for the second one of `Outer`.
use Rattle.std.specs.Prelude.{Bool, true, false, ◌&&◌, Option, Some, None, nat_eq, if◌then◌else◌}
use Rattle.std.specs.Option.{option_map}
use Rattle.naga_kinds.specs.declared.math.MathFunction.{MathFunction}
use Rattle.naga_kinds.specs.declared.math.MathFunction.TheVariants as fun
use Rattle.naga_kinds.specs.declared.scalar.PredeclaredType.TheVariants.{ModfResult, FrexpResult}
use Rattle.naga_kinds.specs.declared.scalar.Scalar.{Scalar}
use Rattle.naga_kinds.specs.declared.scalar.ScalarKind.{ScalarKind}
use Rattle.naga_kinds.specs.declared.scalar.ScalarKind.TheVariants as kind
use Rattle.naga_kinds.specs.declared.scalar.VectorSize.{VectorSize}
use Rattle.naga_kinds.specs.declared.scalar.VectorSize.TheVariants.{Bi, Tri, Quad}
use Rattle.naga_kinds.specs.declared.scalar.TheConstants.Scalar.{F32, I32, U32}
use Rattle.naga_ir.specs.declared.types.TypeInner.{TypeInner}
use Rattle.naga_ir.specs.declared.types.TypeInner.TheVariants as inner
use Rattle.naga_typifier.specs.Context.{Context}
use Rattle.naga_typifier.specs.Rows.{◌>>=◌, copied, handle, same_size, sized, value}
use Rattle.naga_typifier.specs.declared.math.ArgumentScalars.{ArgumentScalars}
use Rattle.naga_typifier.specs.declared.math.ArgumentScalars.TheVariants.{Numbers, Signed, Floats, Integers, Float32, Sint32, Uint32}
use Rattle.naga_typifier.specs.declared.math.ArgumentShape.{ArgumentShape}
use Rattle.naga_typifier.specs.declared.math.ArgumentShape.TheVariants.{Components, Single, Vector, VectorOf, Square, Matrix}
use Rattle.naga_typifier.specs.declared.math.MathResult.{MathResult}
use Rattle.naga_typifier.specs.declared.math.MathResult.TheVariants as gives
use Rattle.naga_typifier.specs.declared.math.MathRule.{MathRule}
use Rattle.naga_typifier.specs.declared.resolution.TypeResolution.{TypeResolution}

-- ---- the first argument

-- a scalar of this kind is a number
abbrev pub is_number : ScalarKind → Bool
is_number kind.Bool = false
is_number _ = true

-- a scalar of this kind is a number that can be negative
abbrev pub is_signed : ScalarKind → Bool
is_signed kind.Bool = false
is_signed kind.Uint = false
is_signed _ = true

-- a scalar of this kind is a floating-point number
abbrev pub is_float : ScalarKind → Bool
is_float kind.Float = true
is_float kind.AbstractFloat = true
is_float _ = false

-- a scalar of this kind is an integer whose type is chosen
abbrev pub is_integer : ScalarKind → Bool
is_integer kind.Sint = true
is_integer kind.Uint = true
is_integer _ = false

-- the kind is `Float`
abbrev pub is_concrete_float : ScalarKind → Bool
is_concrete_float kind.Float = true
is_concrete_float _ = false

-- the kind is `Sint`
abbrev pub is_sint : ScalarKind → Bool
is_sint kind.Sint = true
is_sint _ = false

-- the kind is `Uint`
abbrev pub is_uint : ScalarKind → Bool
is_uint kind.Uint = true
is_uint _ = false

-- the scalar is one of these
abbrev pub is_of : ArgumentScalars → Scalar → Bool
is_of Numbers scalar = is_number scalar.kind
is_of Signed scalar = is_signed scalar.kind
is_of Floats scalar = is_float scalar.kind
is_of Integers scalar = is_integer scalar.kind
is_of Float32 scalar = is_concrete_float scalar.kind && nat_eq scalar.width 4
is_of Sint32 scalar = is_sint scalar.kind && nat_eq scalar.width 4
is_of Uint32 scalar = is_uint scalar.kind && nat_eq scalar.width 4

-- the scalar of a type of this shape, or `None` for a type of another shape
abbrev pub shaped : ArgumentShape → TypeInner → Option Scalar
shaped Components (inner.Scalar scalar) = Some scalar
shaped Components (inner.Vector size scalar) = Some scalar
shaped Single (inner.Scalar scalar) = Some scalar
shaped Vector (inner.Vector size scalar) = Some scalar
shaped (VectorOf wanted) (inner.Vector size scalar) = if same_size wanted size then Some scalar else None
shaped Square (inner.Matrix columns rows scalar) = if same_size columns rows then Some scalar else None
shaped Matrix (inner.Matrix columns rows scalar) = Some scalar
shaped _ _ = None

-- the scalar, if it is one of these
abbrev pub checked : ArgumentScalars → Scalar → Option Scalar
checked scalars scalar = if is_of scalars scalar then Some scalar else None

-- the scalar of a first argument with these contents, if the rule accepts it
abbrev pub accepted : MathRule → TypeInner → Option Scalar
accepted rule contents = shaped rule.shape contents >>= checked rule.scalars

-- ---- the result

-- the size of a vector, or `None` for any other type
abbrev pub size_in : TypeInner → Option VectorSize
size_in (inner.Vector size scalar) = Some size
size_in _ = None

-- the matrix with rows and columns exchanged
abbrev pub transposed : TypeInner → Option TypeResolution
transposed (inner.Matrix columns rows scalar) = value (inner.Matrix rows columns scalar)
transposed _ = None

-- A choice: the outer product is that of a column and a row, so it has as many rows as the first vector has components,
-- and as many columns as the second. The scalars are not compared.
abbrev pub outer : TypeInner → TypeInner → Option TypeResolution
outer (inner.Vector rows scalar) (inner.Vector columns also) = value (inner.Matrix columns rows scalar)
outer _ _ = None

-- The result for a first argument of this type, with these contents and this scalar, and a second one. By the
-- documentation, `modf` and `frexp` have the predeclared type of the size and the scalar of their argument.
abbrev pub given : Context → TypeResolution → TypeInner → Option TypeInner → Scalar → MathResult
    → Option TypeResolution
given ctx argument contents second scalar gives.Argument = copied argument
given ctx argument contents second scalar gives.Component = value (inner.Scalar scalar)
given ctx argument contents second scalar gives.Transposed = transposed contents
given ctx argument contents second scalar gives.Outer = second >>= outer contents
given ctx argument contents second scalar gives.Modf =
    option_map handle (ctx.predeclared (ModfResult (size_in contents) scalar))
given ctx argument contents second scalar gives.Frexp =
    option_map handle (ctx.predeclared (FrexpResult (size_in contents) scalar))
given ctx argument contents second scalar (gives.Fixed size of) = value (sized size of)

-- the result of a function with this rule, if the rule accepts the first argument
abbrev pub applied : Context → MathRule → TypeResolution → TypeInner → Option TypeInner → Option TypeResolution
applied ctx rule argument contents second =
    accepted rule contents >>= λ scalar. given ctx argument contents second scalar rule.gives

-- ---- the table

-- a rule: the shape and the scalars of the first argument, and the result
abbrev pub rule : ArgumentShape → ArgumentScalars → MathResult → MathRule
rule shape scalars gives = record { shape = shape; scalars = scalars; gives = gives }

-- the rule of each function; those that are not listed here take a float or a vector of floats, and return the same
abbrev pub rule_of : MathFunction → MathRule
rule_of fun.Abs = rule Components Numbers gives.Argument
rule_of fun.Min = rule Components Numbers gives.Argument
rule_of fun.Max = rule Components Numbers gives.Argument
rule_of fun.Clamp = rule Components Numbers gives.Argument
rule_of fun.Sign = rule Components Signed gives.Argument
rule_of fun.Modf = rule Components Floats gives.Modf
rule_of fun.Frexp = rule Components Floats gives.Frexp
rule_of fun.Distance = rule Components Floats gives.Component
rule_of fun.Length = rule Components Floats gives.Component
rule_of fun.Dot = rule Vector Numbers gives.Component
rule_of fun.Dot4I8Packed = rule Single Uint32 (gives.Fixed None I32)
rule_of fun.Dot4U8Packed = rule Single Uint32 (gives.Fixed None U32)
rule_of fun.Outer = rule Vector Floats gives.Outer
rule_of fun.Cross = rule (VectorOf Tri) Floats gives.Argument
rule_of fun.Normalize = rule Vector Floats gives.Argument
rule_of fun.FaceForward = rule Vector Floats gives.Argument
rule_of fun.Reflect = rule Vector Floats gives.Argument
rule_of fun.Refract = rule Vector Floats gives.Argument
rule_of fun.Inverse = rule Square Floats gives.Argument
rule_of fun.Transpose = rule Matrix Floats gives.Transposed
rule_of fun.Determinant = rule Square Floats gives.Component
rule_of fun.QuantizeToF16 = rule Components Float32 gives.Argument
rule_of fun.CountTrailingZeros = rule Components Integers gives.Argument
rule_of fun.CountLeadingZeros = rule Components Integers gives.Argument
rule_of fun.CountOneBits = rule Components Integers gives.Argument
rule_of fun.ReverseBits = rule Components Integers gives.Argument
rule_of fun.ExtractBits = rule Components Integers gives.Argument
rule_of fun.InsertBits = rule Components Integers gives.Argument
rule_of fun.FirstTrailingBit = rule Components Integers gives.Argument
rule_of fun.FirstLeadingBit = rule Components Integers gives.Argument
rule_of fun.Pack4x8snorm = rule (VectorOf Quad) Float32 (gives.Fixed None U32)
rule_of fun.Pack4x8unorm = rule (VectorOf Quad) Float32 (gives.Fixed None U32)
rule_of fun.Pack2x16snorm = rule (VectorOf Bi) Float32 (gives.Fixed None U32)
rule_of fun.Pack2x16unorm = rule (VectorOf Bi) Float32 (gives.Fixed None U32)
rule_of fun.Pack2x16float = rule (VectorOf Bi) Float32 (gives.Fixed None U32)
rule_of fun.Pack4xI8 = rule (VectorOf Quad) Sint32 (gives.Fixed None U32)
rule_of fun.Pack4xU8 = rule (VectorOf Quad) Uint32 (gives.Fixed None U32)
rule_of fun.Pack4xI8Clamp = rule (VectorOf Quad) Sint32 (gives.Fixed None U32)
rule_of fun.Pack4xU8Clamp = rule (VectorOf Quad) Uint32 (gives.Fixed None U32)
rule_of fun.Unpack4x8snorm = rule Single Uint32 (gives.Fixed (Some Quad) F32)
rule_of fun.Unpack4x8unorm = rule Single Uint32 (gives.Fixed (Some Quad) F32)
rule_of fun.Unpack2x16snorm = rule Single Uint32 (gives.Fixed (Some Bi) F32)
rule_of fun.Unpack2x16unorm = rule Single Uint32 (gives.Fixed (Some Bi) F32)
rule_of fun.Unpack2x16float = rule Single Uint32 (gives.Fixed (Some Bi) F32)
rule_of fun.Unpack4xI8 = rule Single Uint32 (gives.Fixed (Some Quad) I32)
rule_of fun.Unpack4xU8 = rule Single Uint32 (gives.Fixed (Some Quad) U32)
rule_of _ = rule Components Floats gives.Argument
