-- Made by tests/derive from the declarations of naga_kinds and naga_ir.
-- The kinds whose variants contain no data.
use Rattle.std.specs.Prelude.{Bool, is_some, List, map, ℕ}
use Rattle.naga_kinds.specs.Names.{named}
use Rattle.naga_schema.specs.declared.derived.kind.Kind.{Kind}
use Rattle.naga_schema.specs.declared.derived.kind.Kind.TheVariants as kind
use Rattle.naga_kinds.specs.derived.Names.{binary_operator_name, binary_operators, collective_operation_name, collective_operations, conservative_depth_name, conservative_depths, cooperative_role_name, cooperative_roles, cooperative_size_name, cooperative_sizes, derivative_axes, derivative_axis_name, derivative_control_name, derivative_controls, direction_name, directions, image_dimension_name, image_dimensions, interpolation_name, interpolations, math_function_name, math_functions, mesh_output_topologies, mesh_output_topology_name, relational_function_name, relational_functions, sampling_name, samplings, scalar_kind_name, scalar_kinds, severities, severity_name, shader_stage_name, shader_stages, standard_filterable_triggering_rule_name, standard_filterable_triggering_rules, storage_format_name, storage_formats, subgroup_operation_name, subgroup_operations, swizzle_component_name, swizzle_components, unary_operator_name, unary_operators, vector_size_name, vector_sizes}

-- whether a variant of the kind has this name
unfoldable pub kind_has : Kind → List ℕ → Bool
kind_has kind.Interpolation name = is_some (named interpolation_name interpolations name)
kind_has kind.Sampling name = is_some (named sampling_name samplings name)
kind_has kind.Severity name = is_some (named severity_name severities name)
kind_has kind.StandardRule name = is_some (named standard_filterable_triggering_rule_name standard_filterable_triggering_rules name)
kind_has kind.ShaderStage name = is_some (named shader_stage_name shader_stages name)
kind_has kind.ConservativeDepth name = is_some (named conservative_depth_name conservative_depths name)
kind_has kind.MeshOutputTopology name = is_some (named mesh_output_topology_name mesh_output_topologies name)
kind_has kind.StorageFormat name = is_some (named storage_format_name storage_formats name)
kind_has kind.ImageDimension name = is_some (named image_dimension_name image_dimensions name)
kind_has kind.MathFunction name = is_some (named math_function_name math_functions name)
kind_has kind.UnaryOperator name = is_some (named unary_operator_name unary_operators name)
kind_has kind.BinaryOperator name = is_some (named binary_operator_name binary_operators name)
kind_has kind.DerivativeControl name = is_some (named derivative_control_name derivative_controls name)
kind_has kind.DerivativeAxis name = is_some (named derivative_axis_name derivative_axes name)
kind_has kind.RelationalFunction name = is_some (named relational_function_name relational_functions name)
kind_has kind.SwizzleComponent name = is_some (named swizzle_component_name swizzle_components name)
kind_has kind.VectorSize name = is_some (named vector_size_name vector_sizes name)
kind_has kind.CooperativeSize name = is_some (named cooperative_size_name cooperative_sizes name)
kind_has kind.ScalarKind name = is_some (named scalar_kind_name scalar_kinds name)
kind_has kind.CooperativeRole name = is_some (named cooperative_role_name cooperative_roles name)
kind_has kind.Direction name = is_some (named direction_name directions name)
kind_has kind.SubgroupOperation name = is_some (named subgroup_operation_name subgroup_operations name)
kind_has kind.CollectiveOperation name = is_some (named collective_operation_name collective_operations name)

-- the names of the variants of the kind, in the order of declaration
unfoldable pub kind_names : Kind → List (List ℕ)
kind_names kind.Interpolation = map interpolation_name interpolations
kind_names kind.Sampling = map sampling_name samplings
kind_names kind.Severity = map severity_name severities
kind_names kind.StandardRule = map standard_filterable_triggering_rule_name standard_filterable_triggering_rules
kind_names kind.ShaderStage = map shader_stage_name shader_stages
kind_names kind.ConservativeDepth = map conservative_depth_name conservative_depths
kind_names kind.MeshOutputTopology = map mesh_output_topology_name mesh_output_topologies
kind_names kind.StorageFormat = map storage_format_name storage_formats
kind_names kind.ImageDimension = map image_dimension_name image_dimensions
kind_names kind.MathFunction = map math_function_name math_functions
kind_names kind.UnaryOperator = map unary_operator_name unary_operators
kind_names kind.BinaryOperator = map binary_operator_name binary_operators
kind_names kind.DerivativeControl = map derivative_control_name derivative_controls
kind_names kind.DerivativeAxis = map derivative_axis_name derivative_axes
kind_names kind.RelationalFunction = map relational_function_name relational_functions
kind_names kind.SwizzleComponent = map swizzle_component_name swizzle_components
kind_names kind.VectorSize = map vector_size_name vector_sizes
kind_names kind.CooperativeSize = map cooperative_size_name cooperative_sizes
kind_names kind.ScalarKind = map scalar_kind_name scalar_kinds
kind_names kind.CooperativeRole = map cooperative_role_name cooperative_roles
kind_names kind.Direction = map direction_name directions
kind_names kind.SubgroupOperation = map subgroup_operation_name subgroup_operations
kind_names kind.CollectiveOperation = map collective_operation_name collective_operations
