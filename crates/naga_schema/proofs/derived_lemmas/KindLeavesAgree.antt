-- Made by tests/derive from the declarations of naga_kinds and naga_ir.
-- The schemas of kinds accept the JSONs that their codecs read.
use Rattle.std.proofs.Common.{refl, ℕ}
use Rattle.naga_json.specs.derived.Kinds.{binary_operator_codec, collective_operation_codec, conservative_depth_codec, cooperative_role_codec, cooperative_size_codec, derivative_axis_codec, derivative_control_codec, direction_codec, image_dimension_codec, interpolation_codec, math_function_codec, mesh_output_topology_codec, relational_function_codec, sampling_codec, scalar_kind_codec, severity_codec, shader_stage_codec, standard_filterable_triggering_rule_codec, storage_format_codec, subgroup_operation_codec, swizzle_component_codec, unary_operator_codec, vector_size_codec}
use Rattle.naga_schema.specs.derived.Kinds.{kind_has}
use Rattle.naga_schema.specs.declared.derived.kind.Kind.TheVariants as kind
use Rattle.naga_schema.specs.declared.derived.type_name.TypeName.TheVariants as type
use Rattle.naga_schema.specs.declared.leaf.Leaf.TheVariants as leaves
use Rattle.naga_schema.proofs.AgreesLemmas.{Agrees, agrees-kind}
use Rattle.naga_kinds.specs.derived.Names.{binary_operator_name, binary_operators, collective_operation_name, collective_operations, conservative_depth_name, conservative_depths, cooperative_role_name, cooperative_roles, cooperative_size_name, cooperative_sizes, derivative_axes, derivative_axis_name, derivative_control_name, derivative_controls, direction_name, directions, image_dimension_name, image_dimensions, interpolation_name, interpolations, math_function_name, math_functions, mesh_output_topologies, mesh_output_topology_name, relational_function_name, relational_functions, sampling_name, samplings, scalar_kind_name, scalar_kinds, severities, severity_name, shader_stage_name, shader_stages, standard_filterable_triggering_rule_name, standard_filterable_triggering_rules, storage_format_name, storage_formats, subgroup_operation_name, subgroup_operations, swizzle_component_name, swizzle_components, unary_operator_name, unary_operators, vector_size_name, vector_sizes}

pub agrees-interpolation : (depth : ℕ) → Agrees depth (type.Leaf (leaves.Kind kind.Interpolation)) interpolation_codec.decode
unfolding kind_has
agrees-interpolation depth = agrees-kind depth kind.Interpolation interpolation_name interpolations (λ name. refl)

pub agrees-sampling : (depth : ℕ) → Agrees depth (type.Leaf (leaves.Kind kind.Sampling)) sampling_codec.decode
unfolding kind_has
agrees-sampling depth = agrees-kind depth kind.Sampling sampling_name samplings (λ name. refl)

pub agrees-severity : (depth : ℕ) → Agrees depth (type.Leaf (leaves.Kind kind.Severity)) severity_codec.decode
unfolding kind_has
agrees-severity depth = agrees-kind depth kind.Severity severity_name severities (λ name. refl)

pub agrees-standard_filterable_triggering_rule : (depth : ℕ) → Agrees depth (type.Leaf (leaves.Kind kind.StandardRule)) standard_filterable_triggering_rule_codec.decode
unfolding kind_has
agrees-standard_filterable_triggering_rule depth = agrees-kind depth kind.StandardRule standard_filterable_triggering_rule_name standard_filterable_triggering_rules (λ name. refl)

pub agrees-shader_stage : (depth : ℕ) → Agrees depth (type.Leaf (leaves.Kind kind.ShaderStage)) shader_stage_codec.decode
unfolding kind_has
agrees-shader_stage depth = agrees-kind depth kind.ShaderStage shader_stage_name shader_stages (λ name. refl)

pub agrees-conservative_depth : (depth : ℕ) → Agrees depth (type.Leaf (leaves.Kind kind.ConservativeDepth)) conservative_depth_codec.decode
unfolding kind_has
agrees-conservative_depth depth = agrees-kind depth kind.ConservativeDepth conservative_depth_name conservative_depths (λ name. refl)

pub agrees-mesh_output_topology : (depth : ℕ) → Agrees depth (type.Leaf (leaves.Kind kind.MeshOutputTopology)) mesh_output_topology_codec.decode
unfolding kind_has
agrees-mesh_output_topology depth = agrees-kind depth kind.MeshOutputTopology mesh_output_topology_name mesh_output_topologies (λ name. refl)

pub agrees-storage_format : (depth : ℕ) → Agrees depth (type.Leaf (leaves.Kind kind.StorageFormat)) storage_format_codec.decode
unfolding kind_has
agrees-storage_format depth = agrees-kind depth kind.StorageFormat storage_format_name storage_formats (λ name. refl)

pub agrees-image_dimension : (depth : ℕ) → Agrees depth (type.Leaf (leaves.Kind kind.ImageDimension)) image_dimension_codec.decode
unfolding kind_has
agrees-image_dimension depth = agrees-kind depth kind.ImageDimension image_dimension_name image_dimensions (λ name. refl)

pub agrees-math_function : (depth : ℕ) → Agrees depth (type.Leaf (leaves.Kind kind.MathFunction)) math_function_codec.decode
unfolding kind_has
agrees-math_function depth = agrees-kind depth kind.MathFunction math_function_name math_functions (λ name. refl)

pub agrees-unary_operator : (depth : ℕ) → Agrees depth (type.Leaf (leaves.Kind kind.UnaryOperator)) unary_operator_codec.decode
unfolding kind_has
agrees-unary_operator depth = agrees-kind depth kind.UnaryOperator unary_operator_name unary_operators (λ name. refl)

pub agrees-binary_operator : (depth : ℕ) → Agrees depth (type.Leaf (leaves.Kind kind.BinaryOperator)) binary_operator_codec.decode
unfolding kind_has
agrees-binary_operator depth = agrees-kind depth kind.BinaryOperator binary_operator_name binary_operators (λ name. refl)

pub agrees-derivative_control : (depth : ℕ) → Agrees depth (type.Leaf (leaves.Kind kind.DerivativeControl)) derivative_control_codec.decode
unfolding kind_has
agrees-derivative_control depth = agrees-kind depth kind.DerivativeControl derivative_control_name derivative_controls (λ name. refl)

pub agrees-derivative_axis : (depth : ℕ) → Agrees depth (type.Leaf (leaves.Kind kind.DerivativeAxis)) derivative_axis_codec.decode
unfolding kind_has
agrees-derivative_axis depth = agrees-kind depth kind.DerivativeAxis derivative_axis_name derivative_axes (λ name. refl)

pub agrees-relational_function : (depth : ℕ) → Agrees depth (type.Leaf (leaves.Kind kind.RelationalFunction)) relational_function_codec.decode
unfolding kind_has
agrees-relational_function depth = agrees-kind depth kind.RelationalFunction relational_function_name relational_functions (λ name. refl)

pub agrees-swizzle_component : (depth : ℕ) → Agrees depth (type.Leaf (leaves.Kind kind.SwizzleComponent)) swizzle_component_codec.decode
unfolding kind_has
agrees-swizzle_component depth = agrees-kind depth kind.SwizzleComponent swizzle_component_name swizzle_components (λ name. refl)

pub agrees-vector_size : (depth : ℕ) → Agrees depth (type.Leaf (leaves.Kind kind.VectorSize)) vector_size_codec.decode
unfolding kind_has
agrees-vector_size depth = agrees-kind depth kind.VectorSize vector_size_name vector_sizes (λ name. refl)

pub agrees-cooperative_size : (depth : ℕ) → Agrees depth (type.Leaf (leaves.Kind kind.CooperativeSize)) cooperative_size_codec.decode
unfolding kind_has
agrees-cooperative_size depth = agrees-kind depth kind.CooperativeSize cooperative_size_name cooperative_sizes (λ name. refl)

pub agrees-scalar_kind : (depth : ℕ) → Agrees depth (type.Leaf (leaves.Kind kind.ScalarKind)) scalar_kind_codec.decode
unfolding kind_has
agrees-scalar_kind depth = agrees-kind depth kind.ScalarKind scalar_kind_name scalar_kinds (λ name. refl)

pub agrees-cooperative_role : (depth : ℕ) → Agrees depth (type.Leaf (leaves.Kind kind.CooperativeRole)) cooperative_role_codec.decode
unfolding kind_has
agrees-cooperative_role depth = agrees-kind depth kind.CooperativeRole cooperative_role_name cooperative_roles (λ name. refl)

pub agrees-direction : (depth : ℕ) → Agrees depth (type.Leaf (leaves.Kind kind.Direction)) direction_codec.decode
unfolding kind_has
agrees-direction depth = agrees-kind depth kind.Direction direction_name directions (λ name. refl)

pub agrees-subgroup_operation : (depth : ℕ) → Agrees depth (type.Leaf (leaves.Kind kind.SubgroupOperation)) subgroup_operation_codec.decode
unfolding kind_has
agrees-subgroup_operation depth = agrees-kind depth kind.SubgroupOperation subgroup_operation_name subgroup_operations (λ name. refl)

pub agrees-collective_operation : (depth : ℕ) → Agrees depth (type.Leaf (leaves.Kind kind.CollectiveOperation)) collective_operation_codec.decode
unfolding kind_has
agrees-collective_operation depth = agrees-kind depth kind.CollectiveOperation collective_operation_name collective_operations (λ name. refl)
