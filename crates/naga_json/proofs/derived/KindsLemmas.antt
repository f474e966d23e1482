-- Made by tests/derive from the declarations of naga_kinds and naga_ir.
-- Kinds are read as they are written.
use Rattle.std.proofs.Common.{arith}
use Rattle.naga_json.specs.Lawful.{Lawful}
use Rattle.naga_json.proofs.KindsLemmas.{lawful-kind}
use Rattle.naga_kinds.specs.derived.Names.{binary_operator_name, binary_operators, collective_operation_name, collective_operations, conservative_depth_name, conservative_depths, cooperative_role_name, cooperative_roles, cooperative_size_name, cooperative_sizes, derivative_axes, derivative_axis_name, derivative_control_name, derivative_controls, direction_name, directions, image_dimension_name, image_dimensions, interpolation_name, interpolations, math_function_name, math_functions, mesh_output_topologies, mesh_output_topology_name, relational_function_name, relational_functions, sampling_name, samplings, scalar_kind_name, scalar_kinds, severities, severity_name, shader_stage_name, shader_stages, standard_filterable_triggering_rule_name, standard_filterable_triggering_rules, storage_format_name, storage_formats, subgroup_operation_name, subgroup_operations, swizzle_component_name, swizzle_components, unary_operator_name, unary_operators, vector_size_name, vector_sizes}
use Rattle.naga_json.specs.derived.Kinds.{binary_operator_codec, collective_operation_codec, conservative_depth_codec, cooperative_role_codec, cooperative_size_codec, derivative_axis_codec, derivative_control_codec, direction_codec, image_dimension_codec, interpolation_codec, math_function_codec, mesh_output_topology_codec, relational_function_codec, sampling_codec, scalar_kind_codec, severity_codec, shader_stage_codec, standard_filterable_triggering_rule_codec, storage_format_codec, subgroup_operation_codec, swizzle_component_codec, unary_operator_codec, vector_size_codec}

pub lawful-interpolation : Lawful interpolation_codec
lawful-interpolation = lawful-kind interpolation_name interpolations (λ kind. grind arith)

pub lawful-sampling : Lawful sampling_codec
lawful-sampling = lawful-kind sampling_name samplings (λ kind. grind arith)

pub lawful-severity : Lawful severity_codec
lawful-severity = lawful-kind severity_name severities (λ kind. grind arith)

pub lawful-standard_filterable_triggering_rule : Lawful standard_filterable_triggering_rule_codec
lawful-standard_filterable_triggering_rule = lawful-kind standard_filterable_triggering_rule_name standard_filterable_triggering_rules (λ kind. grind arith)

pub lawful-shader_stage : Lawful shader_stage_codec
lawful-shader_stage = lawful-kind shader_stage_name shader_stages (λ kind. grind arith)

pub lawful-conservative_depth : Lawful conservative_depth_codec
lawful-conservative_depth = lawful-kind conservative_depth_name conservative_depths (λ kind. grind arith)

pub lawful-mesh_output_topology : Lawful mesh_output_topology_codec
lawful-mesh_output_topology = lawful-kind mesh_output_topology_name mesh_output_topologies (λ kind. grind arith)

pub lawful-storage_format : Lawful storage_format_codec
lawful-storage_format = lawful-kind storage_format_name storage_formats (λ kind. grind arith)

pub lawful-image_dimension : Lawful image_dimension_codec
lawful-image_dimension = lawful-kind image_dimension_name image_dimensions (λ kind. grind arith)

pub lawful-math_function : Lawful math_function_codec
lawful-math_function = lawful-kind math_function_name math_functions (λ kind. grind arith)

pub lawful-unary_operator : Lawful unary_operator_codec
lawful-unary_operator = lawful-kind unary_operator_name unary_operators (λ kind. grind arith)

pub lawful-binary_operator : Lawful binary_operator_codec
lawful-binary_operator = lawful-kind binary_operator_name binary_operators (λ kind. grind arith)

pub lawful-derivative_control : Lawful derivative_control_codec
lawful-derivative_control = lawful-kind derivative_control_name derivative_controls (λ kind. grind arith)

pub lawful-derivative_axis : Lawful derivative_axis_codec
lawful-derivative_axis = lawful-kind derivative_axis_name derivative_axes (λ kind. grind arith)

pub lawful-relational_function : Lawful relational_function_codec
lawful-relational_function = lawful-kind relational_function_name relational_functions (λ kind. grind arith)

pub lawful-swizzle_component : Lawful swizzle_component_codec
lawful-swizzle_component = lawful-kind swizzle_component_name swizzle_components (λ kind. grind arith)

pub lawful-vector_size : Lawful vector_size_codec
lawful-vector_size = lawful-kind vector_size_name vector_sizes (λ kind. grind arith)

pub lawful-cooperative_size : Lawful cooperative_size_codec
lawful-cooperative_size = lawful-kind cooperative_size_name cooperative_sizes (λ kind. grind arith)

pub lawful-scalar_kind : Lawful scalar_kind_codec
lawful-scalar_kind = lawful-kind scalar_kind_name scalar_kinds (λ kind. grind arith)

pub lawful-cooperative_role : Lawful cooperative_role_codec
lawful-cooperative_role = lawful-kind cooperative_role_name cooperative_roles (λ kind. grind arith)

pub lawful-direction : Lawful direction_codec
lawful-direction = lawful-kind direction_name directions (λ kind. grind arith)

pub lawful-subgroup_operation : Lawful subgroup_operation_codec
lawful-subgroup_operation = lawful-kind subgroup_operation_name subgroup_operations (λ kind. grind arith)

pub lawful-collective_operation : Lawful collective_operation_codec
lawful-collective_operation = lawful-kind collective_operation_name collective_operations (λ kind. grind arith)

-- the laws of the kinds
pub ruleset kind_laws = (lawful-interpolation, lawful-sampling, lawful-severity, lawful-standard_filterable_triggering_rule, lawful-shader_stage, lawful-conservative_depth, lawful-mesh_output_topology, lawful-storage_format, lawful-image_dimension, lawful-math_function, lawful-unary_operator, lawful-binary_operator, lawful-derivative_control, lawful-derivative_axis, lawful-relational_function, lawful-swizzle_component, lawful-vector_size, lawful-cooperative_size, lawful-scalar_kind, lawful-cooperative_role, lawful-direction, lawful-subgroup_operation, lawful-collective_operation)
