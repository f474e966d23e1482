-- Made by tests/derive from the declarations of naga_kinds and naga_ir.
-- The kinds whose variants contain no data: their variants in order, and their names, which are those in naga.
use Rattle.std.specs.Prelude.{[], codes, List, ℕ, ◌∷◌}
use Rattle.naga_kinds.specs.declared.binding.Interpolation.{Interpolation}
use Rattle.naga_kinds.specs.declared.binding.Interpolation.TheVariants as interpolation
use Rattle.naga_kinds.specs.declared.binding.Sampling.{Sampling}
use Rattle.naga_kinds.specs.declared.binding.Sampling.TheVariants as sampling
use Rattle.naga_kinds.specs.declared.diagnostic_filter.Severity.{Severity}
use Rattle.naga_kinds.specs.declared.diagnostic_filter.Severity.TheVariants as severity
use Rattle.naga_kinds.specs.declared.diagnostic_filter.StandardFilterableTriggeringRule.{StandardFilterableTriggeringRule}
use Rattle.naga_kinds.specs.declared.diagnostic_filter.StandardFilterableTriggeringRule.TheVariants as standard_filterable_triggering_rule
use Rattle.naga_kinds.specs.declared.entry_point.ShaderStage.{ShaderStage}
use Rattle.naga_kinds.specs.declared.entry_point.ShaderStage.TheVariants as shader_stage
use Rattle.naga_kinds.specs.declared.entry_point.ConservativeDepth.{ConservativeDepth}
use Rattle.naga_kinds.specs.declared.entry_point.ConservativeDepth.TheVariants as conservative_depth
use Rattle.naga_kinds.specs.declared.entry_point.MeshOutputTopology.{MeshOutputTopology}
use Rattle.naga_kinds.specs.declared.entry_point.MeshOutputTopology.TheVariants as mesh_output_topology
use Rattle.naga_kinds.specs.declared.format.StorageFormat.{StorageFormat}
use Rattle.naga_kinds.specs.declared.format.StorageFormat.TheVariants as storage_format
use Rattle.naga_kinds.specs.declared.image.ImageDimension.{ImageDimension}
use Rattle.naga_kinds.specs.declared.image.ImageDimension.TheVariants as image_dimension
use Rattle.naga_kinds.specs.declared.math.MathFunction.{MathFunction}
use Rattle.naga_kinds.specs.declared.math.MathFunction.TheVariants as math_function
use Rattle.naga_kinds.specs.declared.operator.UnaryOperator.{UnaryOperator}
use Rattle.naga_kinds.specs.declared.operator.UnaryOperator.TheVariants as unary_operator
use Rattle.naga_kinds.specs.declared.operator.BinaryOperator.{BinaryOperator}
use Rattle.naga_kinds.specs.declared.operator.BinaryOperator.TheVariants as binary_operator
use Rattle.naga_kinds.specs.declared.operator.DerivativeControl.{DerivativeControl}
use Rattle.naga_kinds.specs.declared.operator.DerivativeControl.TheVariants as derivative_control
use Rattle.naga_kinds.specs.declared.operator.DerivativeAxis.{DerivativeAxis}
use Rattle.naga_kinds.specs.declared.operator.DerivativeAxis.TheVariants as derivative_axis
use Rattle.naga_kinds.specs.declared.operator.RelationalFunction.{RelationalFunction}
use Rattle.naga_kinds.specs.declared.operator.RelationalFunction.TheVariants as relational_function
use Rattle.naga_kinds.specs.declared.operator.SwizzleComponent.{SwizzleComponent}
use Rattle.naga_kinds.specs.declared.operator.SwizzleComponent.TheVariants as swizzle_component
use Rattle.naga_kinds.specs.declared.scalar.VectorSize.{VectorSize}
use Rattle.naga_kinds.specs.declared.scalar.VectorSize.TheVariants as vector_size
use Rattle.naga_kinds.specs.declared.scalar.CooperativeSize.{CooperativeSize}
use Rattle.naga_kinds.specs.declared.scalar.CooperativeSize.TheVariants as cooperative_size
use Rattle.naga_kinds.specs.declared.scalar.ScalarKind.{ScalarKind}
use Rattle.naga_kinds.specs.declared.scalar.ScalarKind.TheVariants as scalar_kind
use Rattle.naga_kinds.specs.declared.scalar.CooperativeRole.{CooperativeRole}
use Rattle.naga_kinds.specs.declared.scalar.CooperativeRole.TheVariants as cooperative_role
use Rattle.naga_kinds.specs.declared.subgroup.Direction.{Direction}
use Rattle.naga_kinds.specs.declared.subgroup.Direction.TheVariants as direction
use Rattle.naga_kinds.specs.declared.subgroup.SubgroupOperation.{SubgroupOperation}
use Rattle.naga_kinds.specs.declared.subgroup.SubgroupOperation.TheVariants as subgroup_operation
use Rattle.naga_kinds.specs.declared.subgroup.CollectiveOperation.{CollectiveOperation}
use Rattle.naga_kinds.specs.declared.subgroup.CollectiveOperation.TheVariants as collective_operation

-- the variants of `Interpolation`, in the order of their declaration
abbrev pub interpolations : List Interpolation
interpolations = interpolation.Perspective ∷ interpolation.Linear ∷ interpolation.Flat ∷ interpolation.PerVertex ∷ []

-- the name of a variant of `Interpolation`
abbrev pub interpolation_name : Interpolation → List ℕ
interpolation_name interpolation.Perspective = codes "Perspective"
interpolation_name interpolation.Linear = codes "Linear"
interpolation_name interpolation.Flat = codes "Flat"
interpolation_name interpolation.PerVertex = codes "PerVertex"

-- the variants of `Sampling`, in the order of their declaration
abbrev pub samplings : List Sampling
samplings = sampling.Center ∷ sampling.Centroid ∷ sampling.Sample ∷ sampling.First ∷ sampling.Either ∷ []

-- the name of a variant of `Sampling`
abbrev pub sampling_name : Sampling → List ℕ
sampling_name sampling.Center = codes "Center"
sampling_name sampling.Centroid = codes "Centroid"
sampling_name sampling.Sample = codes "Sample"
sampling_name sampling.First = codes "First"
sampling_name sampling.Either = codes "Either"

-- the variants of `Severity`, in the order of their declaration
abbrev pub severities : List Severity
severities = severity.Off ∷ severity.Info ∷ severity.Warning ∷ severity.Error ∷ []

-- the name of a variant of `Severity`
abbrev pub severity_name : Severity → List ℕ
severity_name severity.Off = codes "Off"
severity_name severity.Info = codes "Info"
severity_name severity.Warning = codes "Warning"
severity_name severity.Error = codes "Error"

-- the variants of `StandardFilterableTriggeringRule`, in the order of their declaration
abbrev pub standard_filterable_triggering_rules : List StandardFilterableTriggeringRule
standard_filterable_triggering_rules = standard_filterable_triggering_rule.DerivativeUniformity ∷ []

-- the name of a variant of `StandardFilterableTriggeringRule`
abbrev pub standard_filterable_triggering_rule_name : StandardFilterableTriggeringRule → List ℕ
standard_filterable_triggering_rule_name standard_filterable_triggering_rule.DerivativeUniformity = codes "DerivativeUniformity"

-- the variants of `ShaderStage`, in the order of their declaration
abbrev pub shader_stages : List ShaderStage
shader_stages =
    shader_stage.Vertex ∷
    shader_stage.Task ∷
    shader_stage.Mesh ∷
    shader_stage.Fragment ∷
    shader_stage.Compute ∷
    shader_stage.RayGeneration ∷
    shader_stage.Miss ∷
    shader_stage.AnyHit ∷
    shader_stage.ClosestHit ∷
    []

-- the name of a variant of `ShaderStage`
abbrev pub shader_stage_name : ShaderStage → List ℕ
shader_stage_name shader_stage.Vertex = codes "Vertex"
shader_stage_name shader_stage.Task = codes "Task"
shader_stage_name shader_stage.Mesh = codes "Mesh"
shader_stage_name shader_stage.Fragment = codes "Fragment"
shader_stage_name shader_stage.Compute = codes "Compute"
shader_stage_name shader_stage.RayGeneration = codes "RayGeneration"
shader_stage_name shader_stage.Miss = codes "Miss"
shader_stage_name shader_stage.AnyHit = codes "AnyHit"
shader_stage_name shader_stage.ClosestHit = codes "ClosestHit"

-- the variants of `ConservativeDepth`, in the order of their declaration
abbrev pub conservative_depths : List ConservativeDepth
conservative_depths = conservative_depth.GreaterEqual ∷ conservative_depth.LessEqual ∷ conservative_depth.Unchanged ∷ []

-- the name of a variant of `ConservativeDepth`
abbrev pub conservative_depth_name : ConservativeDepth → List ℕ
conservative_depth_name conservative_depth.GreaterEqual = codes "GreaterEqual"
conservative_depth_name conservative_depth.LessEqual = codes "LessEqual"
conservative_depth_name conservative_depth.Unchanged = codes "Unchanged"

-- the variants of `MeshOutputTopology`, in the order of their declaration
abbrev pub mesh_output_topologies : List MeshOutputTopology
mesh_output_topologies = mesh_output_topology.Points ∷ mesh_output_topology.Lines ∷ mesh_output_topology.Triangles ∷ []

-- the name of a variant of `MeshOutputTopology`
abbrev pub mesh_output_topology_name : MeshOutputTopology → List ℕ
mesh_output_topology_name mesh_output_topology.Points = codes "Points"
mesh_output_topology_name mesh_output_topology.Lines = codes "Lines"
mesh_output_topology_name mesh_output_topology.Triangles = codes "Triangles"

-- the variants of `StorageFormat`, in the order of their declaration
abbrev pub storage_formats : List StorageFormat
storage_formats =
    storage_format.R8Unorm ∷
    storage_format.R8Snorm ∷
    storage_format.R8Uint ∷
    storage_format.R8Sint ∷
    storage_format.R16Uint ∷
    storage_format.R16Sint ∷
    storage_format.R16Float ∷
    storage_format.Rg8Unorm ∷
    storage_format.Rg8Snorm ∷
    storage_format.Rg8Uint ∷
    storage_format.Rg8Sint ∷
    storage_format.R32Uint ∷
    storage_format.R32Sint ∷
    storage_format.R32Float ∷
    storage_format.Rg16Uint ∷
    storage_format.Rg16Sint ∷
    storage_format.Rg16Float ∷
    storage_format.Rgba8Unorm ∷
    storage_format.Rgba8Snorm ∷
    storage_format.Rgba8Uint ∷
    storage_format.Rgba8Sint ∷
    storage_format.Bgra8Unorm ∷
    storage_format.Rgb10a2Uint ∷
    storage_format.Rgb10a2Unorm ∷
    storage_format.Rg11b10Ufloat ∷
    storage_format.R64Uint ∷
    storage_format.Rg32Uint ∷
    storage_format.Rg32Sint ∷
    storage_format.Rg32Float ∷
    storage_format.Rgba16Uint ∷
    storage_format.Rgba16Sint ∷
    storage_format.Rgba16Float ∷
    storage_format.Rgba32Uint ∷
    storage_format.Rgba32Sint ∷
    storage_format.Rgba32Float ∷
    storage_format.R16Unorm ∷
    storage_format.R16Snorm ∷
    storage_format.Rg16Unorm ∷
    storage_format.Rg16Snorm ∷
    storage_format.Rgba16Unorm ∷
    storage_format.Rgba16Snorm ∷
    []

-- the name of a variant of `StorageFormat`
abbrev pub storage_format_name : StorageFormat → List ℕ
storage_format_name storage_format.R8Unorm = codes "R8Unorm"
storage_format_name storage_format.R8Snorm = codes "R8Snorm"
storage_format_name storage_format.R8Uint = codes "R8Uint"
storage_format_name storage_format.R8Sint = codes "R8Sint"
storage_format_name storage_format.R16Uint = codes "R16Uint"
storage_format_name storage_format.R16Sint = codes "R16Sint"
storage_format_name storage_format.R16Float = codes "R16Float"
storage_format_name storage_format.Rg8Unorm = codes "Rg8Unorm"
storage_format_name storage_format.Rg8Snorm = codes "Rg8Snorm"
storage_format_name storage_format.Rg8Uint = codes "Rg8Uint"
storage_format_name storage_format.Rg8Sint = codes "Rg8Sint"
storage_format_name storage_format.R32Uint = codes "R32Uint"
storage_format_name storage_format.R32Sint = codes "R32Sint"
storage_format_name storage_format.R32Float = codes "R32Float"
storage_format_name storage_format.Rg16Uint = codes "Rg16Uint"
storage_format_name storage_format.Rg16Sint = codes "Rg16Sint"
storage_format_name storage_format.Rg16Float = codes "Rg16Float"
storage_format_name storage_format.Rgba8Unorm = codes "Rgba8Unorm"
storage_format_name storage_format.Rgba8Snorm = codes "Rgba8Snorm"
storage_format_name storage_format.Rgba8Uint = codes "Rgba8Uint"
storage_format_name storage_format.Rgba8Sint = codes "Rgba8Sint"
storage_format_name storage_format.Bgra8Unorm = codes "Bgra8Unorm"
storage_format_name storage_format.Rgb10a2Uint = codes "Rgb10a2Uint"
storage_format_name storage_format.Rgb10a2Unorm = codes "Rgb10a2Unorm"
storage_format_name storage_format.Rg11b10Ufloat = codes "Rg11b10Ufloat"
storage_format_name storage_format.R64Uint = codes "R64Uint"
storage_format_name storage_format.Rg32Uint = codes "Rg32Uint"
storage_format_name storage_format.Rg32Sint = codes "Rg32Sint"
storage_format_name storage_format.Rg32Float = codes "Rg32Float"
storage_format_name storage_format.Rgba16Uint = codes "Rgba16Uint"
storage_format_name storage_format.Rgba16Sint = codes "Rgba16Sint"
storage_format_name storage_format.Rgba16Float = codes "Rgba16Float"
storage_format_name storage_format.Rgba32Uint = codes "Rgba32Uint"
storage_format_name storage_format.Rgba32Sint = codes "Rgba32Sint"
storage_format_name storage_format.Rgba32Float = codes "Rgba32Float"
storage_format_name storage_format.R16Unorm = codes "R16Unorm"
storage_format_name storage_format.R16Snorm = codes "R16Snorm"
storage_format_name storage_format.Rg16Unorm = codes "Rg16Unorm"
storage_format_name storage_format.Rg16Snorm = codes "Rg16Snorm"
storage_format_name storage_format.Rgba16Unorm = codes "Rgba16Unorm"
storage_format_name storage_format.Rgba16Snorm = codes "Rgba16Snorm"

-- the variants of `ImageDimension`, in the order of their declaration
abbrev pub image_dimensions : List ImageDimension
image_dimensions = image_dimension.D1 ∷ image_dimension.D2 ∷ image_dimension.D3 ∷ image_dimension.Cube ∷ []

-- the name of a variant of `ImageDimension`
abbrev pub image_dimension_name : ImageDimension → List ℕ
image_dimension_name image_dimension.D1 = codes "D1"
image_dimension_name image_dimension.D2 = codes "D2"
image_dimension_name image_dimension.D3 = codes "D3"
image_dimension_name image_dimension.Cube = codes "Cube"

-- the variants of `MathFunction`, in the order of their declaration
abbrev pub math_functions : List MathFunction
math_functions =
    math_function.Abs ∷
    math_function.Min ∷
    math_function.Max ∷
    math_function.Clamp ∷
    math_function.Saturate ∷
    math_function.Cos ∷
    math_function.Cosh ∷
    math_function.Sin ∷
    math_function.Sinh ∷
    math_function.Tan ∷
    math_function.Tanh ∷
    math_function.Acos ∷
    math_function.Asin ∷
    math_function.Atan ∷
    math_function.Atan2 ∷
    math_function.Asinh ∷
    math_function.Acosh ∷
    math_function.Atanh ∷
    math_function.Radians ∷
    math_function.Degrees ∷
    math_function.Ceil ∷
    math_function.Floor ∷
    math_function.Round ∷
    math_function.Fract ∷
    math_function.Trunc ∷
    math_function.Modf ∷
    math_function.Frexp ∷
    math_function.Ldexp ∷
    math_function.Exp ∷
    math_function.Exp2 ∷
    math_function.Log ∷
    math_function.Log2 ∷
    math_function.Pow ∷
    math_function.Dot ∷
    math_function.Dot4I8Packed ∷
    math_function.Dot4U8Packed ∷
    math_function.Outer ∷
    math_function.Cross ∷
    math_function.Distance ∷
    math_function.Length ∷
    math_function.Normalize ∷
    math_function.FaceForward ∷
    math_function.Reflect ∷
    math_function.Refract ∷
    math_function.Sign ∷
    math_function.Fma ∷
    math_function.Mix ∷
    math_function.Step ∷
    math_function.SmoothStep ∷
    math_function.Sqrt ∷
    math_function.InverseSqrt ∷
    math_function.Inverse ∷
    math_function.Transpose ∷
    math_function.Determinant ∷
    math_function.QuantizeToF16 ∷
    math_function.CountTrailingZeros ∷
    math_function.CountLeadingZeros ∷
    math_function.CountOneBits ∷
    math_function.ReverseBits ∷
    math_function.ExtractBits ∷
    math_function.InsertBits ∷
    math_function.FirstTrailingBit ∷
    math_function.FirstLeadingBit ∷
    math_function.Pack4x8snorm ∷
    math_function.Pack4x8unorm ∷
    math_function.Pack2x16snorm ∷
    math_function.Pack2x16unorm ∷
    math_function.Pack2x16float ∷
    math_function.Pack4xI8 ∷
    math_function.Pack4xU8 ∷
    math_function.Pack4xI8Clamp ∷
    math_function.Pack4xU8Clamp ∷
    math_function.Unpack4x8snorm ∷
    math_function.Unpack4x8unorm ∷
    math_function.Unpack2x16snorm ∷
    math_function.Unpack2x16unorm ∷
    math_function.Unpack2x16float ∷
    math_function.Unpack4xI8 ∷
    math_function.Unpack4xU8 ∷
    []

-- the name of a variant of `MathFunction`
abbrev pub math_function_name : MathFunction → List ℕ
math_function_name math_function.Abs = codes "Abs"
math_function_name math_function.Min = codes "Min"
math_function_name math_function.Max = codes "Max"
math_function_name math_function.Clamp = codes "Clamp"
math_function_name math_function.Saturate = codes "Saturate"
math_function_name math_function.Cos = codes "Cos"
math_function_name math_function.Cosh = codes "Cosh"
math_function_name math_function.Sin = codes "Sin"
math_function_name math_function.Sinh = codes "Sinh"
math_function_name math_function.Tan = codes "Tan"
math_function_name math_function.Tanh = codes "Tanh"
math_function_name math_function.Acos = codes "Acos"
math_function_name math_function.Asin = codes "Asin"
math_function_name math_function.Atan = codes "Atan"
math_function_name math_function.Atan2 = codes "Atan2"
math_function_name math_function.Asinh = codes "Asinh"
math_function_name math_function.Acosh = codes "Acosh"
math_function_name math_function.Atanh = codes "Atanh"
math_function_name math_function.Radians = codes "Radians"
math_function_name math_function.Degrees = codes "Degrees"
math_function_name math_function.Ceil = codes "Ceil"
math_function_name math_function.Floor = codes "Floor"
math_function_name math_function.Round = codes "Round"
math_function_name math_function.Fract = codes "Fract"
math_function_name math_function.Trunc = codes "Trunc"
math_function_name math_function.Modf = codes "Modf"
math_function_name math_function.Frexp = codes "Frexp"
math_function_name math_function.Ldexp = codes "Ldexp"
math_function_name math_function.Exp = codes "Exp"
math_function_name math_function.Exp2 = codes "Exp2"
math_function_name math_function.Log = codes "Log"
math_function_name math_function.Log2 = codes "Log2"
math_function_name math_function.Pow = codes "Pow"
math_function_name math_function.Dot = codes "Dot"
math_function_name math_function.Dot4I8Packed = codes "Dot4I8Packed"
math_function_name math_function.Dot4U8Packed = codes "Dot4U8Packed"
math_function_name math_function.Outer = codes "Outer"
math_function_name math_function.Cross = codes "Cross"
math_function_name math_function.Distance = codes "Distance"
math_function_name math_function.Length = codes "Length"
math_function_name math_function.Normalize = codes "Normalize"
math_function_name math_function.FaceForward = codes "FaceForward"
math_function_name math_function.Reflect = codes "Reflect"
math_function_name math_function.Refract = codes "Refract"
math_function_name math_function.Sign = codes "Sign"
math_function_name math_function.Fma = codes "Fma"
math_function_name math_function.Mix = codes "Mix"
math_function_name math_function.Step = codes "Step"
math_function_name math_function.SmoothStep = codes "SmoothStep"
math_function_name math_function.Sqrt = codes "Sqrt"
math_function_name math_function.InverseSqrt = codes "InverseSqrt"
math_function_name math_function.Inverse = codes "Inverse"
math_function_name math_function.Transpose = codes "Transpose"
math_function_name math_function.Determinant = codes "Determinant"
math_function_name math_function.QuantizeToF16 = codes "QuantizeToF16"
math_function_name math_function.CountTrailingZeros = codes "CountTrailingZeros"
math_function_name math_function.CountLeadingZeros = codes "CountLeadingZeros"
math_function_name math_function.CountOneBits = codes "CountOneBits"
math_function_name math_function.ReverseBits = codes "ReverseBits"
math_function_name math_function.ExtractBits = codes "ExtractBits"
math_function_name math_function.InsertBits = codes "InsertBits"
math_function_name math_function.FirstTrailingBit = codes "FirstTrailingBit"
math_function_name math_function.FirstLeadingBit = codes "FirstLeadingBit"
math_function_name math_function.Pack4x8snorm = codes "Pack4x8snorm"
math_function_name math_function.Pack4x8unorm = codes "Pack4x8unorm"
math_function_name math_function.Pack2x16snorm = codes "Pack2x16snorm"
math_function_name math_function.Pack2x16unorm = codes "Pack2x16unorm"
math_function_name math_function.Pack2x16float = codes "Pack2x16float"
math_function_name math_function.Pack4xI8 = codes "Pack4xI8"
math_function_name math_function.Pack4xU8 = codes "Pack4xU8"
math_function_name math_function.Pack4xI8Clamp = codes "Pack4xI8Clamp"
math_function_name math_function.Pack4xU8Clamp = codes "Pack4xU8Clamp"
math_function_name math_function.Unpack4x8snorm = codes "Unpack4x8snorm"
math_function_name math_function.Unpack4x8unorm = codes "Unpack4x8unorm"
math_function_name math_function.Unpack2x16snorm = codes "Unpack2x16snorm"
math_function_name math_function.Unpack2x16unorm = codes "Unpack2x16unorm"
math_function_name math_function.Unpack2x16float = codes "Unpack2x16float"
math_function_name math_function.Unpack4xI8 = codes "Unpack4xI8"
math_function_name math_function.Unpack4xU8 = codes "Unpack4xU8"

-- the variants of `UnaryOperator`, in the order of their declaration
abbrev pub unary_operators : List UnaryOperator
unary_operators = unary_operator.Negate ∷ unary_operator.LogicalNot ∷ unary_operator.BitwiseNot ∷ []

-- the name of a variant of `UnaryOperator`
abbrev pub unary_operator_name : UnaryOperator → List ℕ
unary_operator_name unary_operator.Negate = codes "Negate"
unary_operator_name unary_operator.LogicalNot = codes "LogicalNot"
unary_operator_name unary_operator.BitwiseNot = codes "BitwiseNot"

-- the variants of `BinaryOperator`, in the order of their declaration
abbrev pub binary_operators : List BinaryOperator
binary_operators =
    binary_operator.Add ∷
    binary_operator.Subtract ∷
    binary_operator.Multiply ∷
    binary_operator.Divide ∷
    binary_operator.Modulo ∷
    binary_operator.Equal ∷
    binary_operator.NotEqual ∷
    binary_operator.Less ∷
    binary_operator.LessEqual ∷
    binary_operator.Greater ∷
    binary_operator.GreaterEqual ∷
    binary_operator.And ∷
    binary_operator.ExclusiveOr ∷
    binary_operator.InclusiveOr ∷
    binary_operator.LogicalAnd ∷
    binary_operator.LogicalOr ∷
    binary_operator.ShiftLeft ∷
    binary_operator.ShiftRight ∷
    []

-- the name of a variant of `BinaryOperator`
abbrev pub binary_operator_name : BinaryOperator → List ℕ
binary_operator_name binary_operator.Add = codes "Add"
binary_operator_name binary_operator.Subtract = codes "Subtract"
binary_operator_name binary_operator.Multiply = codes "Multiply"
binary_operator_name binary_operator.Divide = codes "Divide"
binary_operator_name binary_operator.Modulo = codes "Modulo"
binary_operator_name binary_operator.Equal = codes "Equal"
binary_operator_name binary_operator.NotEqual = codes "NotEqual"
binary_operator_name binary_operator.Less = codes "Less"
binary_operator_name binary_operator.LessEqual = codes "LessEqual"
binary_operator_name binary_operator.Greater = codes "Greater"
binary_operator_name binary_operator.GreaterEqual = codes "GreaterEqual"
binary_operator_name binary_operator.And = codes "And"
binary_operator_name binary_operator.ExclusiveOr = codes "ExclusiveOr"
binary_operator_name binary_operator.InclusiveOr = codes "InclusiveOr"
binary_operator_name binary_operator.LogicalAnd = codes "LogicalAnd"
binary_operator_name binary_operator.LogicalOr = codes "LogicalOr"
binary_operator_name binary_operator.ShiftLeft = codes "ShiftLeft"
binary_operator_name binary_operator.ShiftRight = codes "ShiftRight"

-- the variants of `DerivativeControl`, in the order of their declaration
abbrev pub derivative_controls : List DerivativeControl
derivative_controls = derivative_control.Coarse ∷ derivative_control.Fine ∷ derivative_control.None ∷ []

-- the name of a variant of `DerivativeControl`
abbrev pub derivative_control_name : DerivativeControl → List ℕ
derivative_control_name derivative_control.Coarse = codes "Coarse"
derivative_control_name derivative_control.Fine = codes "Fine"
derivative_control_name derivative_control.None = codes "None"

-- the variants of `DerivativeAxis`, in the order of their declaration
abbrev pub derivative_axes : List DerivativeAxis
derivative_axes = derivative_axis.X ∷ derivative_axis.Y ∷ derivative_axis.Width ∷ []

-- the name of a variant of `DerivativeAxis`
abbrev pub derivative_axis_name : DerivativeAxis → List ℕ
derivative_axis_name derivative_axis.X = codes "X"
derivative_axis_name derivative_axis.Y = codes "Y"
derivative_axis_name derivative_axis.Width = codes "Width"

-- the variants of `RelationalFunction`, in the order of their declaration
abbrev pub relational_functions : List RelationalFunction
relational_functions =
    relational_function.All ∷
    relational_function.Any ∷
    relational_function.IsNan ∷
    relational_function.IsInf ∷
    []

-- the name of a variant of `RelationalFunction`
abbrev pub relational_function_name : RelationalFunction → List ℕ
relational_function_name relational_function.All = codes "All"
relational_function_name relational_function.Any = codes "Any"
relational_function_name relational_function.IsNan = codes "IsNan"
relational_function_name relational_function.IsInf = codes "IsInf"

-- the variants of `SwizzleComponent`, in the order of their declaration
abbrev pub swizzle_components : List SwizzleComponent
swizzle_components = swizzle_component.X ∷ swizzle_component.Y ∷ swizzle_component.Z ∷ swizzle_component.W ∷ []

-- the name of a variant of `SwizzleComponent`
abbrev pub swizzle_component_name : SwizzleComponent → List ℕ
swizzle_component_name swizzle_component.X = codes "X"
swizzle_component_name swizzle_component.Y = codes "Y"
swizzle_component_name swizzle_component.Z = codes "Z"
swizzle_component_name swizzle_component.W = codes "W"

-- the variants of `VectorSize`, in the order of their declaration
abbrev pub vector_sizes : List VectorSize
vector_sizes = vector_size.Bi ∷ vector_size.Tri ∷ vector_size.Quad ∷ []

-- the name of a variant of `VectorSize`
abbrev pub vector_size_name : VectorSize → List ℕ
vector_size_name vector_size.Bi = codes "Bi"
vector_size_name vector_size.Tri = codes "Tri"
vector_size_name vector_size.Quad = codes "Quad"

-- the variants of `CooperativeSize`, in the order of their declaration
abbrev pub cooperative_sizes : List CooperativeSize
cooperative_sizes = cooperative_size.Eight ∷ cooperative_size.Sixteen ∷ []

-- the name of a variant of `CooperativeSize`
abbrev pub cooperative_size_name : CooperativeSize → List ℕ
cooperative_size_name cooperative_size.Eight = codes "Eight"
cooperative_size_name cooperative_size.Sixteen = codes "Sixteen"

-- the variants of `ScalarKind`, in the order of their declaration
abbrev pub scalar_kinds : List ScalarKind
scalar_kinds =
    scalar_kind.Sint ∷
    scalar_kind.Uint ∷
    scalar_kind.Float ∷
    scalar_kind.Bool ∷
    scalar_kind.AbstractInt ∷
    scalar_kind.AbstractFloat ∷
    []

-- the name of a variant of `ScalarKind`
abbrev pub scalar_kind_name : ScalarKind → List ℕ
scalar_kind_name scalar_kind.Sint = codes "Sint"
scalar_kind_name scalar_kind.Uint = codes "Uint"
scalar_kind_name scalar_kind.Float = codes "Float"
scalar_kind_name scalar_kind.Bool = codes "Bool"
scalar_kind_name scalar_kind.AbstractInt = codes "AbstractInt"
scalar_kind_name scalar_kind.AbstractFloat = codes "AbstractFloat"

-- the variants of `CooperativeRole`, in the order of their declaration
abbrev pub cooperative_roles : List CooperativeRole
cooperative_roles = cooperative_role.A ∷ cooperative_role.B ∷ cooperative_role.C ∷ []

-- the name of a variant of `CooperativeRole`
abbrev pub cooperative_role_name : CooperativeRole → List ℕ
cooperative_role_name cooperative_role.A = codes "A"
cooperative_role_name cooperative_role.B = codes "B"
cooperative_role_name cooperative_role.C = codes "C"

-- the variants of `Direction`, in the order of their declaration
abbrev pub directions : List Direction
directions = direction.X ∷ direction.Y ∷ direction.Diagonal ∷ []

-- the name of a variant of `Direction`
abbrev pub direction_name : Direction → List ℕ
direction_name direction.X = codes "X"
direction_name direction.Y = codes "Y"
direction_name direction.Diagonal = codes "Diagonal"

-- the variants of `SubgroupOperation`, in the order of their declaration
abbrev pub subgroup_operations : List SubgroupOperation
subgroup_operations =
    subgroup_operation.All ∷
    subgroup_operation.Any ∷
    subgroup_operation.Add ∷
    subgroup_operation.Mul ∷
    subgroup_operation.Min ∷
    subgroup_operation.Max ∷
    subgroup_operation.And ∷
    subgroup_operation.Or ∷
    subgroup_operation.Xor ∷
    []

-- the name of a variant of `SubgroupOperation`
abbrev pub subgroup_operation_name : SubgroupOperation → List ℕ
subgroup_operation_name subgroup_operation.All = codes "All"
subgroup_operation_name subgroup_operation.Any = codes "Any"
subgroup_operation_name subgroup_operation.Add = codes "Add"
subgroup_operation_name subgroup_operation.Mul = codes "Mul"
subgroup_operation_name subgroup_operation.Min = codes "Min"
subgroup_operation_name subgroup_operation.Max = codes "Max"
subgroup_operation_name subgroup_operation.And = codes "And"
subgroup_operation_name subgroup_operation.Or = codes "Or"
subgroup_operation_name subgroup_operation.Xor = codes "Xor"

-- the variants of `CollectiveOperation`, in the order of their declaration
abbrev pub collective_operations : List CollectiveOperation
collective_operations =
    collective_operation.Reduce ∷
    collective_operation.InclusiveScan ∷
    collective_operation.ExclusiveScan ∷
    []

-- the name of a variant of `CollectiveOperation`
abbrev pub collective_operation_name : CollectiveOperation → List ℕ
collective_operation_name collective_operation.Reduce = codes "Reduce"
collective_operation_name collective_operation.InclusiveScan = codes "InclusiveScan"
collective_operation_name collective_operation.ExclusiveScan = codes "ExclusiveScan"
