-- Made by tests/derive from the declarations of naga_kinds and naga_ir.
-- The names of plain kinds contain only characters that show themselves.
use Rattle.std.proofs.Common.{refl}
use Rattle.naga_text.specs.Readable.{IsPlain}
use Rattle.naga_text.proofs.SpellsLemmas.{Spells-ascii}
use Rattle.naga_kinds.specs.derived.Names.{binary_operator_name, collective_operation_name, conservative_depth_name, cooperative_role_name, cooperative_size_name, derivative_axis_name, derivative_control_name, direction_name, image_dimension_name, interpolation_name, math_function_name, mesh_output_topology_name, relational_function_name, sampling_name, scalar_kind_name, severity_name, shader_stage_name, standard_filterable_triggering_rule_name, storage_format_name, subgroup_operation_name, swizzle_component_name, unary_operator_name, vector_size_name}
use Rattle.naga_kinds.specs.declared.binding.Interpolation.{Interpolation}
use Rattle.naga_kinds.specs.declared.binding.Interpolation.TheVariants as interpolation
use Rattle.naga_kinds.specs.declared.binding.Sampling.{Sampling}
use Rattle.naga_kinds.specs.declared.binding.Sampling.TheVariants as sampling
use Rattle.naga_kinds.specs.declared.diagnostic_filter.Severity.{Severity}
use Rattle.naga_kinds.specs.declared.diagnostic_filter.Severity.TheVariants as severity
use Rattle.naga_kinds.specs.declared.diagnostic_filter.StandardFilterableTriggeringRule.{StandardFilterableTriggeringRule}
use Rattle.naga_kinds.specs.declared.diagnostic_filter.StandardFilterableTriggeringRule.TheVariants as standard_filterable_triggering_rule
use Rattle.naga_kinds.specs.declared.entry_point.ShaderStage.{ShaderStage}
use Rattle.naga_kinds.specs.declared.entry_point.ShaderStage.TheVariants as shader_stage
use Rattle.naga_kinds.specs.declared.entry_point.ConservativeDepth.{ConservativeDepth}
use Rattle.naga_kinds.specs.declared.entry_point.ConservativeDepth.TheVariants as conservative_depth
use Rattle.naga_kinds.specs.declared.entry_point.MeshOutputTopology.{MeshOutputTopology}
use Rattle.naga_kinds.specs.declared.entry_point.MeshOutputTopology.TheVariants as mesh_output_topology
use Rattle.naga_kinds.specs.declared.format.StorageFormat.{StorageFormat}
use Rattle.naga_kinds.specs.declared.format.StorageFormat.TheVariants as storage_format
use Rattle.naga_kinds.specs.declared.image.ImageDimension.{ImageDimension}
use Rattle.naga_kinds.specs.declared.image.ImageDimension.TheVariants as image_dimension
use Rattle.naga_kinds.specs.declared.math.MathFunction.{MathFunction}
use Rattle.naga_kinds.specs.declared.math.MathFunction.TheVariants as math_function
use Rattle.naga_kinds.specs.declared.operator.UnaryOperator.{UnaryOperator}
use Rattle.naga_kinds.specs.declared.operator.UnaryOperator.TheVariants as unary_operator
use Rattle.naga_kinds.specs.declared.operator.BinaryOperator.{BinaryOperator}
use Rattle.naga_kinds.specs.declared.operator.BinaryOperator.TheVariants as binary_operator
use Rattle.naga_kinds.specs.declared.operator.DerivativeControl.{DerivativeControl}
use Rattle.naga_kinds.specs.declared.operator.DerivativeControl.TheVariants as derivative_control
use Rattle.naga_kinds.specs.declared.operator.DerivativeAxis.{DerivativeAxis}
use Rattle.naga_kinds.specs.declared.operator.DerivativeAxis.TheVariants as derivative_axis
use Rattle.naga_kinds.specs.declared.operator.RelationalFunction.{RelationalFunction}
use Rattle.naga_kinds.specs.declared.operator.RelationalFunction.TheVariants as relational_function
use Rattle.naga_kinds.specs.declared.operator.SwizzleComponent.{SwizzleComponent}
use Rattle.naga_kinds.specs.declared.operator.SwizzleComponent.TheVariants as swizzle_component
use Rattle.naga_kinds.specs.declared.scalar.VectorSize.{VectorSize}
use Rattle.naga_kinds.specs.declared.scalar.VectorSize.TheVariants as vector_size
use Rattle.naga_kinds.specs.declared.scalar.CooperativeSize.{CooperativeSize}
use Rattle.naga_kinds.specs.declared.scalar.CooperativeSize.TheVariants as cooperative_size
use Rattle.naga_kinds.specs.declared.scalar.ScalarKind.{ScalarKind}
use Rattle.naga_kinds.specs.declared.scalar.ScalarKind.TheVariants as scalar_kind
use Rattle.naga_kinds.specs.declared.scalar.CooperativeRole.{CooperativeRole}
use Rattle.naga_kinds.specs.declared.scalar.CooperativeRole.TheVariants as cooperative_role
use Rattle.naga_kinds.specs.declared.subgroup.Direction.{Direction}
use Rattle.naga_kinds.specs.declared.subgroup.Direction.TheVariants as direction
use Rattle.naga_kinds.specs.declared.subgroup.SubgroupOperation.{SubgroupOperation}
use Rattle.naga_kinds.specs.declared.subgroup.SubgroupOperation.TheVariants as subgroup_operation
use Rattle.naga_kinds.specs.declared.subgroup.CollectiveOperation.{CollectiveOperation}
use Rattle.naga_kinds.specs.declared.subgroup.CollectiveOperation.TheVariants as collective_operation

pub interpolation_name-plain : (kind : Interpolation) → IsPlain (interpolation_name kind)
interpolation_name-plain interpolation.Perspective = Spells-ascii (interpolation_name interpolation.Perspective) refl
interpolation_name-plain kind = Spells-ascii (interpolation_name kind) refl

pub sampling_name-plain : (kind : Sampling) → IsPlain (sampling_name kind)
sampling_name-plain sampling.Center = Spells-ascii (sampling_name sampling.Center) refl
sampling_name-plain kind = Spells-ascii (sampling_name kind) refl

pub severity_name-plain : (kind : Severity) → IsPlain (severity_name kind)
severity_name-plain severity.Off = Spells-ascii (severity_name severity.Off) refl
severity_name-plain kind = Spells-ascii (severity_name kind) refl

pub standard_filterable_triggering_rule_name-plain : (kind : StandardFilterableTriggeringRule) → IsPlain (standard_filterable_triggering_rule_name kind)
standard_filterable_triggering_rule_name-plain standard_filterable_triggering_rule.DerivativeUniformity = Spells-ascii (standard_filterable_triggering_rule_name standard_filterable_triggering_rule.DerivativeUniformity) refl

pub shader_stage_name-plain : (kind : ShaderStage) → IsPlain (shader_stage_name kind)
shader_stage_name-plain shader_stage.Vertex = Spells-ascii (shader_stage_name shader_stage.Vertex) refl
shader_stage_name-plain kind = Spells-ascii (shader_stage_name kind) refl

pub conservative_depth_name-plain : (kind : ConservativeDepth) → IsPlain (conservative_depth_name kind)
conservative_depth_name-plain conservative_depth.GreaterEqual = Spells-ascii (conservative_depth_name conservative_depth.GreaterEqual) refl
conservative_depth_name-plain kind = Spells-ascii (conservative_depth_name kind) refl

pub mesh_output_topology_name-plain : (kind : MeshOutputTopology) → IsPlain (mesh_output_topology_name kind)
mesh_output_topology_name-plain mesh_output_topology.Points = Spells-ascii (mesh_output_topology_name mesh_output_topology.Points) refl
mesh_output_topology_name-plain kind = Spells-ascii (mesh_output_topology_name kind) refl

pub storage_format_name-plain : (kind : StorageFormat) → IsPlain (storage_format_name kind)
storage_format_name-plain storage_format.R8Unorm = Spells-ascii (storage_format_name storage_format.R8Unorm) refl
storage_format_name-plain kind = Spells-ascii (storage_format_name kind) refl

pub image_dimension_name-plain : (kind : ImageDimension) → IsPlain (image_dimension_name kind)
image_dimension_name-plain image_dimension.D1 = Spells-ascii (image_dimension_name image_dimension.D1) refl
image_dimension_name-plain kind = Spells-ascii (image_dimension_name kind) refl

pub math_function_name-plain : (kind : MathFunction) → IsPlain (math_function_name kind)
math_function_name-plain math_function.Abs = Spells-ascii (math_function_name math_function.Abs) refl
math_function_name-plain kind = Spells-ascii (math_function_name kind) refl

pub unary_operator_name-plain : (kind : UnaryOperator) → IsPlain (unary_operator_name kind)
unary_operator_name-plain unary_operator.Negate = Spells-ascii (unary_operator_name unary_operator.Negate) refl
unary_operator_name-plain kind = Spells-ascii (unary_operator_name kind) refl

pub binary_operator_name-plain : (kind : BinaryOperator) → IsPlain (binary_operator_name kind)
binary_operator_name-plain binary_operator.Add = Spells-ascii (binary_operator_name binary_operator.Add) refl
binary_operator_name-plain kind = Spells-ascii (binary_operator_name kind) refl

pub derivative_control_name-plain : (kind : DerivativeControl) → IsPlain (derivative_control_name kind)
derivative_control_name-plain derivative_control.Coarse = Spells-ascii (derivative_control_name derivative_control.Coarse) refl
derivative_control_name-plain kind = Spells-ascii (derivative_control_name kind) refl

pub derivative_axis_name-plain : (kind : DerivativeAxis) → IsPlain (derivative_axis_name kind)
derivative_axis_name-plain derivative_axis.X = Spells-ascii (derivative_axis_name derivative_axis.X) refl
derivative_axis_name-plain kind = Spells-ascii (derivative_axis_name kind) refl

pub relational_function_name-plain : (kind : RelationalFunction) → IsPlain (relational_function_name kind)
relational_function_name-plain relational_function.All = Spells-ascii (relational_function_name relational_function.All) refl
relational_function_name-plain kind = Spells-ascii (relational_function_name kind) refl

pub swizzle_component_name-plain : (kind : SwizzleComponent) → IsPlain (swizzle_component_name kind)
swizzle_component_name-plain swizzle_component.X = Spells-ascii (swizzle_component_name swizzle_component.X) refl
swizzle_component_name-plain kind = Spells-ascii (swizzle_component_name kind) refl

pub vector_size_name-plain : (kind : VectorSize) → IsPlain (vector_size_name kind)
vector_size_name-plain vector_size.Bi = Spells-ascii (vector_size_name vector_size.Bi) refl
vector_size_name-plain kind = Spells-ascii (vector_size_name kind) refl

pub cooperative_size_name-plain : (kind : CooperativeSize) → IsPlain (cooperative_size_name kind)
cooperative_size_name-plain cooperative_size.Eight = Spells-ascii (cooperative_size_name cooperative_size.Eight) refl
cooperative_size_name-plain kind = Spells-ascii (cooperative_size_name kind) refl

pub scalar_kind_name-plain : (kind : ScalarKind) → IsPlain (scalar_kind_name kind)
scalar_kind_name-plain scalar_kind.Sint = Spells-ascii (scalar_kind_name scalar_kind.Sint) refl
scalar_kind_name-plain kind = Spells-ascii (scalar_kind_name kind) refl

pub cooperative_role_name-plain : (kind : CooperativeRole) → IsPlain (cooperative_role_name kind)
cooperative_role_name-plain cooperative_role.A = Spells-ascii (cooperative_role_name cooperative_role.A) refl
cooperative_role_name-plain kind = Spells-ascii (cooperative_role_name kind) refl

pub direction_name-plain : (kind : Direction) → IsPlain (direction_name kind)
direction_name-plain direction.X = Spells-ascii (direction_name direction.X) refl
direction_name-plain kind = Spells-ascii (direction_name kind) refl

pub subgroup_operation_name-plain : (kind : SubgroupOperation) → IsPlain (subgroup_operation_name kind)
subgroup_operation_name-plain subgroup_operation.All = Spells-ascii (subgroup_operation_name subgroup_operation.All) refl
subgroup_operation_name-plain kind = Spells-ascii (subgroup_operation_name kind) refl

pub collective_operation_name-plain : (kind : CollectiveOperation) → IsPlain (collective_operation_name kind)
collective_operation_name-plain collective_operation.Reduce = Spells-ascii (collective_operation_name collective_operation.Reduce) refl
collective_operation_name-plain kind = Spells-ascii (collective_operation_name kind) refl
