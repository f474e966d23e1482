-- Made by tests/derive from the declarations of naga_kinds and naga_ir.
-- Kinds without data, which are written as the names of their variants.
use Rattle.naga_json.specs.Codec.{Codec}
use Rattle.naga_json.specs.Kinds.{kind_codec}
use Rattle.naga_kinds.specs.declared.binding.Interpolation.{Interpolation}
use Rattle.naga_kinds.specs.declared.binding.Sampling.{Sampling}
use Rattle.naga_kinds.specs.declared.diagnostic_filter.Severity.{Severity}
use Rattle.naga_kinds.specs.declared.diagnostic_filter.StandardFilterableTriggeringRule.{StandardFilterableTriggeringRule}
use Rattle.naga_kinds.specs.declared.entry_point.ShaderStage.{ShaderStage}
use Rattle.naga_kinds.specs.declared.entry_point.ConservativeDepth.{ConservativeDepth}
use Rattle.naga_kinds.specs.declared.entry_point.MeshOutputTopology.{MeshOutputTopology}
use Rattle.naga_kinds.specs.declared.format.StorageFormat.{StorageFormat}
use Rattle.naga_kinds.specs.declared.image.ImageDimension.{ImageDimension}
use Rattle.naga_kinds.specs.declared.math.MathFunction.{MathFunction}
use Rattle.naga_kinds.specs.declared.operator.UnaryOperator.{UnaryOperator}
use Rattle.naga_kinds.specs.declared.operator.BinaryOperator.{BinaryOperator}
use Rattle.naga_kinds.specs.declared.operator.DerivativeControl.{DerivativeControl}
use Rattle.naga_kinds.specs.declared.operator.DerivativeAxis.{DerivativeAxis}
use Rattle.naga_kinds.specs.declared.operator.RelationalFunction.{RelationalFunction}
use Rattle.naga_kinds.specs.declared.operator.SwizzleComponent.{SwizzleComponent}
use Rattle.naga_kinds.specs.declared.scalar.VectorSize.{VectorSize}
use Rattle.naga_kinds.specs.declared.scalar.CooperativeSize.{CooperativeSize}
use Rattle.naga_kinds.specs.declared.scalar.ScalarKind.{ScalarKind}
use Rattle.naga_kinds.specs.declared.scalar.CooperativeRole.{CooperativeRole}
use Rattle.naga_kinds.specs.declared.subgroup.Direction.{Direction}
use Rattle.naga_kinds.specs.declared.subgroup.SubgroupOperation.{SubgroupOperation}
use Rattle.naga_kinds.specs.declared.subgroup.CollectiveOperation.{CollectiveOperation}
use Rattle.naga_kinds.specs.derived.Names.{binary_operator_name, binary_operators, collective_operation_name, collective_operations, conservative_depth_name, conservative_depths, cooperative_role_name, cooperative_roles, cooperative_size_name, cooperative_sizes, derivative_axes, derivative_axis_name, derivative_control_name, derivative_controls, direction_name, directions, image_dimension_name, image_dimensions, interpolation_name, interpolations, math_function_name, math_functions, mesh_output_topologies, mesh_output_topology_name, relational_function_name, relational_functions, sampling_name, samplings, scalar_kind_name, scalar_kinds, severities, severity_name, shader_stage_name, shader_stages, standard_filterable_triggering_rule_name, standard_filterable_triggering_rules, storage_format_name, storage_formats, subgroup_operation_name, subgroup_operations, swizzle_component_name, swizzle_components, unary_operator_name, unary_operators, vector_size_name, vector_sizes}

-- an `Interpolation`
abbrev pub interpolation_codec : Codec Interpolation
interpolation_codec = kind_codec interpolation_name interpolations

-- a `Sampling`
abbrev pub sampling_codec : Codec Sampling
sampling_codec = kind_codec sampling_name samplings

-- a `Severity`
abbrev pub severity_codec : Codec Severity
severity_codec = kind_codec severity_name severities

-- a `StandardFilterableTriggeringRule`
abbrev pub standard_filterable_triggering_rule_codec : Codec StandardFilterableTriggeringRule
standard_filterable_triggering_rule_codec = kind_codec standard_filterable_triggering_rule_name standard_filterable_triggering_rules

-- a `ShaderStage`
abbrev pub shader_stage_codec : Codec ShaderStage
shader_stage_codec = kind_codec shader_stage_name shader_stages

-- a `ConservativeDepth`
abbrev pub conservative_depth_codec : Codec ConservativeDepth
conservative_depth_codec = kind_codec conservative_depth_name conservative_depths

-- a `MeshOutputTopology`
abbrev pub mesh_output_topology_codec : Codec MeshOutputTopology
mesh_output_topology_codec = kind_codec mesh_output_topology_name mesh_output_topologies

-- a `StorageFormat`
abbrev pub storage_format_codec : Codec StorageFormat
storage_format_codec = kind_codec storage_format_name storage_formats

-- an `ImageDimension`
abbrev pub image_dimension_codec : Codec ImageDimension
image_dimension_codec = kind_codec image_dimension_name image_dimensions

-- a `MathFunction`
abbrev pub math_function_codec : Codec MathFunction
math_function_codec = kind_codec math_function_name math_functions

-- an `UnaryOperator`
abbrev pub unary_operator_codec : Codec UnaryOperator
unary_operator_codec = kind_codec unary_operator_name unary_operators

-- a `BinaryOperator`
abbrev pub binary_operator_codec : Codec BinaryOperator
binary_operator_codec = kind_codec binary_operator_name binary_operators

-- a `DerivativeControl`
abbrev pub derivative_control_codec : Codec DerivativeControl
derivative_control_codec = kind_codec derivative_control_name derivative_controls

-- a `DerivativeAxis`
abbrev pub derivative_axis_codec : Codec DerivativeAxis
derivative_axis_codec = kind_codec derivative_axis_name derivative_axes

-- a `RelationalFunction`
abbrev pub relational_function_codec : Codec RelationalFunction
relational_function_codec = kind_codec relational_function_name relational_functions

-- a `SwizzleComponent`
abbrev pub swizzle_component_codec : Codec SwizzleComponent
swizzle_component_codec = kind_codec swizzle_component_name swizzle_components

-- a `VectorSize`
abbrev pub vector_size_codec : Codec VectorSize
vector_size_codec = kind_codec vector_size_name vector_sizes

-- a `CooperativeSize`
abbrev pub cooperative_size_codec : Codec CooperativeSize
cooperative_size_codec = kind_codec cooperative_size_name cooperative_sizes

-- a `ScalarKind`
abbrev pub scalar_kind_codec : Codec ScalarKind
scalar_kind_codec = kind_codec scalar_kind_name scalar_kinds

-- a `CooperativeRole`
abbrev pub cooperative_role_codec : Codec CooperativeRole
cooperative_role_codec = kind_codec cooperative_role_name cooperative_roles

-- a `Direction`
abbrev pub direction_codec : Codec Direction
direction_codec = kind_codec direction_name directions

-- a `SubgroupOperation`
abbrev pub subgroup_operation_codec : Codec SubgroupOperation
subgroup_operation_codec = kind_codec subgroup_operation_name subgroup_operations

-- a `CollectiveOperation`
abbrev pub collective_operation_codec : Codec CollectiveOperation
collective_operation_codec = kind_codec collective_operation_name collective_operations
