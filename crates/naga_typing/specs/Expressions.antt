-- What expressions require of their operands, beyond the types that these need for the expression to have a type.
--
-- By the documentation of naga's IR: the result of an atomic operation is a scalar, or a structure of the old value and a
-- boolean if it compares, the index of `Access` is an integer, the operands of arithmetic have one type, the factors of a
-- product have scalars of one type, a condition is a boolean, the length of an array is that of one with a dynamic size,
-- and the coordinate, the index of a layer, the sample and the level of `ImageLoad` fit the image, which is no cube. All
-- else is as in WGSL. Choices: logical operators take vectors, too, as their results can be such, the factors of a
-- product can be integers if one of them is a scalar, the stride of a cooperative matrix is a `u32`, integers are shifted
-- by unsigned ones of any width, the floats of a sample are each an `f32` or an `f16`, all data of a known size can be
-- loaded and has a zero value, and a ray query has positions of vertices if its type says so.
--
-- Not examined: the scalars of the second argument of `Outer`, the roles of cooperative matrices that are
-- multiplied, whether the structure with which a ray query is initialized returns vertices, and which images can be
-- sampled with an offset or be clamped to their edges.
use Rattle.std.specs.Prelude.{ℕ, ◌+◌, Bool, true, false, List, [], ◌∷◌, ◌++◌, length, take, All, Option, Some, None, is_some}
use Rattle.naga_kinds.specs.Scalar.{components_of}
use Rattle.naga_kinds.specs.Swizzle.{place_of}
use Rattle.naga_kinds.specs.declared.math.MathFunction.{MathFunction}
use Rattle.naga_kinds.specs.declared.math.MathFunction.TheVariants as fun
use Rattle.naga_kinds.specs.declared.operator.BinaryOperator.{BinaryOperator}
use Rattle.naga_kinds.specs.declared.operator.BinaryOperator.TheVariants as op
use Rattle.naga_kinds.specs.declared.operator.RelationalFunction.{RelationalFunction}
use Rattle.naga_kinds.specs.declared.operator.RelationalFunction.TheVariants as relation
use Rattle.naga_kinds.specs.declared.operator.SwizzleComponent.{SwizzleComponent}
use Rattle.naga_kinds.specs.declared.operator.UnaryOperator.{UnaryOperator}
use Rattle.naga_kinds.specs.declared.operator.UnaryOperator.TheVariants.{Negate, LogicalNot, BitwiseNot}
use Rattle.naga_kinds.specs.declared.scalar.ScalarKind.{ScalarKind}
use Rattle.naga_kinds.specs.declared.scalar.TheConstants.Scalar.{BOOL, F16, F32, I32, U32}
use Rattle.naga_ir.specs.declared.expression.Expression.{Expression}
use Rattle.naga_ir.specs.declared.expression.Expression.TheVariants.{ZeroValue, Compose, Access, Swizzle, Load, ImageSample, ImageLoad, ImageQuery, Unary, Binary, Select, Derivative, Relational, Math, As, AtomicResult, ArrayLength, RayQueryVertexPositions, RayQueryGetIntersection, CooperativeLoad, CooperativeMultiplyAdd}
use Rattle.naga_ir.specs.declared.expression.ImageQuery as query
use Rattle.naga_ir.specs.declared.expression.ImageQuery.TheVariants.{Size, NumLevels, NumLayers, NumSamples}
use Rattle.naga_ir.specs.declared.expression.SampleLevel.{SampleLevel}
use Rattle.naga_ir.specs.declared.expression.SampleLevel.TheVariants.{Exact, Bias, Gradient}
use Rattle.naga_typing.specs.Composites.{first_components}
use Rattle.naga_typing.specs.Statements.{integer_if, of_kind, of_type, of_type_if}
use Rattle.naga_typing.specs.declared.requirement.Expected.{Expected}
use Rattle.naga_typing.specs.declared.requirement.Expected.TheVariants as expected
use Rattle.naga_typing.specs.declared.requirement.Kind.{Kind}
use Rattle.naga_typing.specs.declared.requirement.Kind.TheVariants as kind
use Rattle.naga_typing.specs.declared.requirement.Requirement.{Requirement}
use Rattle.naga_typing.specs.declared.requirement.Requirement.TheVariants as requirement
use Rattle.naga_typing.specs.declared.requirement.Scalars.TheVariants as scalars
use Rattle.naga_typing.specs.declared.requirement.Source.TheVariants as source

-- an operand must be what is expected
abbrev pub of : Expected → ℕ → Option Requirement
of what operand = Some (requirement.Operand operand what)

-- an operand that may be absent must be what is expected
abbrev pub of_if : Expected → Option ℕ → Option Requirement
of_if what None = None
of_if what (Some operand) = of what operand

-- the contents of a declared type must be of this kind
abbrev pub of_contents : (ty : ℕ) → Kind → Option Requirement
of_contents ty kind = Some (requirement.Contents ty kind)

-- what the result of an atomic operation is, if it compares and if it does not
abbrev pub outcome_of : (comparison : Bool) → Kind
outcome_of true = kind.ExchangeResult
outcome_of false = kind.Single scalars.Numbers

-- what is cast to this kind, to a number of bytes or as the bits are
abbrev pub cast_from : ScalarKind → (convert : Option ℕ) → Kind
cast_from to None = kind.BitsOf to
cast_from to (Some width) = kind.Convertible (record { kind = to; width = width })

-- ---- composite values and swizzles

-- the components of a value of this type, of which the first has this position
abbrev pub of_components : (ty position : ℕ) → List ℕ → List (Option Requirement)
of_components ty position [] = []
of_components ty position (component ∷ rest) =
    of (expected.Component ty position) component ∷ of_components ty (position + 1) rest

-- the components of a value of this type, which together have as many scalars as it if it is a vector
abbrev pub of_parts : (ty : ℕ) → List ℕ → List (Option Requirement)
of_parts ty components =
    of_components ty 0 components ++ Some (requirement.VectorEntries ty (first_components components)) ∷ []

-- the number of the components of a value of this type, and its components
abbrev pub of_compose : (ty : ℕ) → List ℕ → List (Option Requirement)
of_compose ty components = Some (requirement.ComponentCount ty (length components)) ∷ of_parts ty components

-- a vector must have this component
abbrev pub of_place : ℕ → SwizzleComponent → Option Requirement
of_place vector component = of_kind vector (kind.VectorWith (place_of component + 1))

-- a vector must have these components
abbrev pub of_pattern : ℕ → List SwizzleComponent → List (Option Requirement)
of_pattern vector [] = []
of_pattern vector (component ∷ rest) = of_place vector component ∷ of_pattern vector rest

-- ---- operators

-- what a unary operator takes
abbrev pub taken : UnaryOperator → Kind
taken Negate = kind.Entries scalars.Signed
taken LogicalNot = kind.Components scalars.Booleans
taken BitwiseNot = kind.Components scalars.Integers

-- what a binary operator takes on its left
abbrev pub taken_left : BinaryOperator → Kind
taken_left op.Add = kind.Summand
taken_left op.Subtract = kind.Summand
taken_left op.Multiply = kind.Entries scalars.Numbers
taken_left op.Equal = kind.Components scalars.Any
taken_left op.NotEqual = kind.Components scalars.Any
taken_left op.LogicalAnd = kind.Components scalars.Booleans
taken_left op.LogicalOr = kind.Components scalars.Booleans
taken_left op.And = kind.Components scalars.Bits
taken_left op.InclusiveOr = kind.Components scalars.Bits
taken_left op.ExclusiveOr = kind.Components scalars.Integers
taken_left op.ShiftLeft = kind.Components scalars.Integers
taken_left op.ShiftRight = kind.Components scalars.Integers
taken_left _ = kind.Components scalars.Numbers

-- what a binary operator with this left operand takes on its right
abbrev pub taken_right : BinaryOperator → ℕ → Expected
taken_right op.Multiply left = expected.SameScalar left
taken_right op.ShiftLeft left = expected.Shift left
taken_right op.ShiftRight left = expected.Shift left
taken_right _ left = expected.Type (source.Same left)

-- what a relational function takes
abbrev pub related : RelationalFunction → Kind
related relation.All = kind.Components scalars.Booleans
related relation.Any = kind.Components scalars.Booleans
related relation.IsNan = kind.Components scalars.Floats
related relation.IsInf = kind.Components scalars.Floats

-- a condition, and two values of one type, which can be vectors
abbrev pub of_select : (condition accept reject : ℕ) → List (Option Requirement)
of_select condition accept reject =
    of (expected.Either (source.Scalar BOOL) (source.Along accept BOOL)) condition
    ∷ of_kind accept (kind.Components scalars.Any) ∷ of_type (source.Same accept) reject ∷ []

-- ---- mathematical functions

-- what is expected of the second argument, by the first, or `None` if nothing is
abbrev pub second_argument : MathFunction → ℕ → Option Expected
second_argument fun.Ldexp first = Some (expected.Type (source.Along first I32))
second_argument fun.Outer first = None
second_argument fun.ExtractBits first = Some (expected.Type (source.Scalar U32))
second_argument _ first = Some (expected.Type (source.Same first))

-- what is expected of the third argument, by the first
abbrev pub third_argument : MathFunction → ℕ → Expected
third_argument fun.Refract first = expected.Type (source.Entry first)
third_argument fun.Mix first = expected.Either (source.Same first) (source.Entry first)
third_argument fun.ExtractBits first = expected.Type (source.Scalar U32)
third_argument fun.InsertBits first = expected.Type (source.Scalar U32)
third_argument _ first = expected.Type (source.Same first)

-- an operand that may be absent must be what is expected, if anything is
abbrev pub of_expected : Option Expected → Option ℕ → Option Requirement
of_expected None operand = None
of_expected (Some what) operand = of_if what operand

-- the second and the third argument of a mathematical function
abbrev pub of_second : MathFunction → (first : ℕ) → Option ℕ → Option Requirement
of_second fun first operand = of_expected (second_argument fun first) operand

abbrev pub of_third : MathFunction → (first : ℕ) → Option ℕ → Option Requirement
of_third fun first operand = of_if (third_argument fun first) operand

-- a mathematical function has an argument at this position if and only if there is one
abbrev pub given : MathFunction → (position : ℕ) → Option ℕ → Option Requirement
given fun position operand = Some (requirement.MathArgument fun position (is_some operand))

-- the arguments of a mathematical function
abbrev pub of_math : MathFunction → ℕ → (arg1 arg2 arg3 : Option ℕ) → List (Option Requirement)
of_math fun first arg1 arg2 arg3 =
    given fun 1 arg1 ∷ given fun 2 arg2 ∷ given fun 3 arg3 ∷ of_second fun first arg1
    ∷ of_third fun first arg2 ∷ of_type_if (source.Scalar U32) arg3 ∷ []

-- ---- images

-- an image must be one that can be sampled, or from which a component can be gathered
abbrev pub of_sampled : ℕ → (gather : Option SwizzleComponent) → Option Requirement
of_sampled image None = of_kind image kind.SampledImage
of_sampled image (Some component) = of_kind image (kind.GatheredImage (place_of component))

-- an image must have depths if they are compared
abbrev pub of_depths : ℕ → (depth_ref : Option ℕ) → Option Requirement
of_depths image None = None
of_depths image (Some reference) = of_kind image kind.DepthImage

-- a float of 32 or of 16 bits
abbrev pub float : Expected
float = expected.Either (source.Scalar F32) (source.Scalar F16)

-- a position in an image, of such floats
abbrev pub float_position : (image : ℕ) → Expected
float_position image = expected.Either (source.Position image F32) (source.Position image F16)

-- the level of a sample, or the first derivative
abbrev pub of_level : ℕ → SampleLevel → Option Requirement
of_level image (Exact level) = of (expected.Level image) level
of_level image (Bias offset) = of float offset
of_level image (Gradient x y) = of (float_position image) x
of_level image _ = None

-- the second derivative
abbrev pub of_derivative : ℕ → SampleLevel → Option Requirement
of_derivative image (Gradient x y) = of (float_position image) y
of_derivative image _ = None

-- the operands of a sample, in this order: the image, the sampler, the coordinate, and those that may be absent
abbrev pub of_sample : (image sampler : ℕ) → (gather : Option SwizzleComponent) → (coordinate : ℕ)
    → (array_index offset : Option ℕ) → SampleLevel → (depth_ref : Option ℕ) → List (Option Requirement)
of_sample image sampler gather coordinate array_index offset level depth_ref =
    of_sampled image gather ∷ of_depths image depth_ref ∷ of_kind sampler (kind.Sampler (is_some depth_ref))
    ∷ of (float_position image) coordinate ∷ Some (requirement.Layers image (is_some array_index))
    ∷ integer_if array_index ∷ of_type_if (source.Position image I32) offset ∷ of_level image level
    ∷ of_derivative image level ∷ of_if float depth_ref ∷ []

-- the operands of a load from an image
abbrev pub of_load : (image coordinate : ℕ) → (array_index at level : Option ℕ) → List (Option Requirement)
of_load image coordinate array_index at level =
    of_kind image kind.TexelImage ∷ of (expected.Coordinate image) coordinate
    ∷ Some (requirement.Layers image (is_some array_index))
    ∷ integer_if array_index ∷ Some (requirement.Samples image (is_some at)) ∷ integer_if at
    ∷ Some (requirement.Levels image (is_some level)) ∷ integer_if level ∷ []

-- an image must have levels if one of them is given
abbrev pub has_level_if : ℕ → Option ℕ → Option Requirement
has_level_if image None = None
has_level_if image (Some level) = Some (requirement.Levels image true)

-- a query about an image
abbrev pub of_query : ℕ → query.ImageQuery → List (Option Requirement)
of_query image (Size level) = has_level_if image level ∷ integer_if level ∷ []
of_query image NumLevels = Some (requirement.Levels image true) ∷ []
of_query image NumLayers = Some (requirement.Layers image true) ∷ []
of_query image NumSamples = Some (requirement.Samples image true) ∷ []

-- three cooperative matrices, with the sizes of two factors and of what is added to their product
abbrev pub of_product : (a b c : ℕ) → List (Option Requirement)
of_product a b c =
    of_kind a kind.CooperativeMatrix ∷ of_kind b kind.CooperativeMatrix ∷ of_kind c kind.CooperativeMatrix
    ∷ Some (requirement.Product a b c) ∷ []

-- ---- the table

-- What an expression requires of its operands, in the order of its operands.
abbrev pub required_by_expression : Expression → List (Option Requirement)
required_by_expression (ZeroValue ty) = of_contents ty kind.Data ∷ []
required_by_expression (Compose ty components) = of_compose ty components.items
required_by_expression (Access base index) = of_kind index (kind.Single scalars.Integers) ∷ []
required_by_expression (Swizzle size vector pattern) = of_pattern vector (take (components_of size) pattern)
required_by_expression (Load pointer) = of_kind pointer kind.Pointer ∷ []
required_by_expression (ImageSample image sampler gather coordinate array_index offset level depth_ref clamp_to_edge) =
    of_sample image sampler gather coordinate array_index offset level depth_ref
required_by_expression (ImageLoad image coordinate array_index at level) = of_load image coordinate array_index at level
required_by_expression (ImageQuery image query) = of_query image query
required_by_expression (Unary op expr) = of_kind expr (taken op) ∷ []
required_by_expression (Binary op left right) = of_kind left (taken_left op) ∷ of (taken_right op left) right ∷ []
required_by_expression (Select condition accept reject) = of_select condition accept reject
required_by_expression (Derivative axis ctrl expr) = of_kind expr (kind.Components scalars.Floats) ∷ []
required_by_expression (Relational fun argument) = of_kind argument (related fun) ∷ []
required_by_expression (Math fun arg arg1 arg2 arg3) = of_math fun arg arg1 arg2 arg3
required_by_expression (As expr to convert) = of_kind expr (cast_from to convert) ∷ []
required_by_expression (AtomicResult ty comparison) = of_contents ty (outcome_of comparison) ∷ []
required_by_expression (ArrayLength array) = of_kind array kind.DynamicArrayPointer ∷ []
required_by_expression (RayQueryVertexPositions query committed) = of_kind query kind.VertexQueryPointer ∷ []
required_by_expression (RayQueryGetIntersection query committed) = of_kind query kind.RayQueryPointer ∷ []
required_by_expression (CooperativeLoad columns rows role at) = of_type (source.Scalar U32) at.stride ∷ []
required_by_expression (CooperativeMultiplyAdd a b c) = of_product a b c
required_by_expression _ = []

-- ---- the expressions of an arena

-- a predicate on requirements that are absent or present
module _ (fits : Option Requirement → Type 0) where
  -- what an expression requires of its operands fits
  abbrev pub ExpressionFits : Expression → Type 0
  ExpressionFits expression = All fits (required_by_expression expression)
