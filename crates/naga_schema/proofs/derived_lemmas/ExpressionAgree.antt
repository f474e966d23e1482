-- Made by tests/derive from the declarations of naga_kinds and naga_ir.
use Rattle.std.proofs.Common.{refl, ℕ}
use Rattle.naga_json.specs.Codec.{boolean_codec, byte_codec, handle_codec, word_codec}
use Rattle.naga_json.specs.Form.{form_row}
use Rattle.naga_json.specs.Lists.{array_codec, list_codec}
use Rattle.naga_json.specs.Variants.{held_in}
use Rattle.naga_schema.specs.derived.Types.{shape_of}
use Rattle.naga_schema.specs.declared.derived.type_name.TypeName.TheVariants as type
use Rattle.naga_schema.proofs.AgreesLemmas.{Agrees, agrees-array, agrees-as, agrees-enum, agrees-field, agrees-list, agrees-no_rows, agrees-none, agrees-optional_field, agrees-row, agrees-struct}
use Rattle.naga_json.specs.derived.Expression.{atomic_function_codec, atomic_function_exchange, atomic_function_names, atomic_function_rows, cooperative_data_codec, cooperative_data_fields, expression_access, expression_access_index, expression_array_length, expression_as, expression_atomic_result, expression_binary, expression_call_result, expression_compose, expression_constant, expression_cooperative_load, expression_cooperative_multiply_add, expression_derivative, expression_form, expression_function_argument, expression_global_variable, expression_image_load, expression_image_query, expression_image_sample, expression_literal, expression_load, expression_local_variable, expression_math, expression_names, expression_override, expression_ray_query_get_intersection, expression_ray_query_vertex_positions, expression_relational, expression_rows, expression_select, expression_splat, expression_subgroup_operation_result, expression_swizzle, expression_unary, expression_work_group_uniform_load_result, expression_zero_value, gather_mode_broadcast, gather_mode_codec, gather_mode_names, gather_mode_quad_broadcast, gather_mode_quad_swap, gather_mode_rows, gather_mode_shuffle, gather_mode_shuffle_down, gather_mode_shuffle_up, gather_mode_shuffle_xor, image_query_codec, image_query_names, image_query_rows, image_query_size, sample_level_bias, sample_level_codec, sample_level_exact, sample_level_gradient, sample_level_names, sample_level_rows}
use Rattle.naga_json.specs.derived.Kinds.{binary_operator_codec, cooperative_role_codec, cooperative_size_codec, derivative_axis_codec, derivative_control_codec, math_function_codec, relational_function_codec, scalar_kind_codec, swizzle_component_codec, unary_operator_codec, vector_size_codec}
use Rattle.naga_schema.proofs.LeavesAgree.{agrees-boolean, agrees-byte, agrees-handle, agrees-word}
use Rattle.naga_schema.proofs.derived_lemmas.KindLeavesAgree.{agrees-binary_operator, agrees-cooperative_role, agrees-cooperative_size, agrees-derivative_axis, agrees-derivative_control, agrees-direction, agrees-math_function, agrees-relational_function, agrees-scalar_kind, agrees-swizzle_component, agrees-unary_operator, agrees-vector_size}
use Rattle.naga_schema.proofs.derived_lemmas.LiteralAgree.{agrees-Literal}

pub agrees-AtomicFunctionExchange : (depth : ℕ) → Agrees depth type.AtomicFunctionExchange (held_in atomic_function_exchange)
unfolding shape_of
agrees-AtomicFunctionExchange depth =
    agrees-struct depth type.AtomicFunctionExchange _ _ _ refl refl
    (agrees-optional_field depth _ _ handle_codec _ _ (agrees-handle depth)
    (agrees-none depth))

pub agrees-AtomicFunction : (depth : ℕ) → Agrees depth type.AtomicFunction atomic_function_codec.decode
unfolding shape_of
agrees-AtomicFunction depth =
    agrees-enum depth type.AtomicFunction _ _ atomic_function_names atomic_function_rows refl refl
    (agrees-row depth _ _ (held_in atomic_function_exchange) _ _ (agrees-AtomicFunctionExchange depth)
    (agrees-no_rows depth))

pub agrees-SampleLevelGradient : (depth : ℕ) → Agrees depth type.SampleLevelGradient (held_in sample_level_gradient)
unfolding shape_of
agrees-SampleLevelGradient depth =
    agrees-struct depth type.SampleLevelGradient _ _ _ refl refl
    (agrees-field depth _ _ handle_codec _ _ (agrees-handle depth)
    (agrees-field depth _ _ handle_codec _ _ (agrees-handle depth)
    (agrees-none depth)))

pub agrees-SampleLevel : (depth : ℕ) → Agrees depth type.SampleLevel sample_level_codec.decode
unfolding shape_of
agrees-SampleLevel depth =
    agrees-enum depth type.SampleLevel _ _ sample_level_names sample_level_rows refl refl
    (agrees-row depth _ _ (held_in sample_level_exact) _ _ (agrees-as depth _ _ _ (agrees-handle depth))
    (agrees-row depth _ _ (held_in sample_level_bias) _ _ (agrees-as depth _ _ _ (agrees-handle depth))
    (agrees-row depth _ _ (held_in sample_level_gradient) _ _ (agrees-SampleLevelGradient depth)
    (agrees-no_rows depth))))

pub agrees-ImageQuerySize : (depth : ℕ) → Agrees depth type.ImageQuerySize (held_in image_query_size)
unfolding shape_of
agrees-ImageQuerySize depth =
    agrees-struct depth type.ImageQuerySize _ _ _ refl refl
    (agrees-optional_field depth _ _ handle_codec _ _ (agrees-handle depth)
    (agrees-none depth))

pub agrees-ImageQuery : (depth : ℕ) → Agrees depth type.ImageQuery image_query_codec.decode
unfolding shape_of
agrees-ImageQuery depth =
    agrees-enum depth type.ImageQuery _ _ image_query_names image_query_rows refl refl
    (agrees-row depth _ _ (held_in image_query_size) _ _ (agrees-ImageQuerySize depth)
    (agrees-no_rows depth))

pub agrees-GatherMode : (depth : ℕ) → Agrees depth type.GatherMode gather_mode_codec.decode
unfolding shape_of
agrees-GatherMode depth =
    agrees-enum depth type.GatherMode _ _ gather_mode_names gather_mode_rows refl refl
    (agrees-row depth _ _ (held_in gather_mode_broadcast) _ _ (agrees-as depth _ _ _ (agrees-handle depth))
    (agrees-row depth _ _ (held_in gather_mode_shuffle) _ _ (agrees-as depth _ _ _ (agrees-handle depth))
    (agrees-row depth _ _ (held_in gather_mode_shuffle_down) _ _ (agrees-as depth _ _ _ (agrees-handle depth))
    (agrees-row depth _ _ (held_in gather_mode_shuffle_up) _ _ (agrees-as depth _ _ _ (agrees-handle depth))
    (agrees-row depth _ _ (held_in gather_mode_shuffle_xor) _ _ (agrees-as depth _ _ _ (agrees-handle depth))
    (agrees-row depth _ _ (held_in gather_mode_quad_broadcast) _ _ (agrees-as depth _ _ _ (agrees-handle depth))
    (agrees-row depth _ _ (held_in gather_mode_quad_swap) _ _ (agrees-as depth _ _ _ (agrees-direction depth))
    (agrees-no_rows depth))))))))

pub agrees-CooperativeData : (depth : ℕ) → Agrees depth type.CooperativeData cooperative_data_codec.decode
unfolding shape_of
agrees-CooperativeData depth =
    agrees-struct depth type.CooperativeData _ cooperative_data_fields _ refl refl
    (agrees-field depth _ _ handle_codec _ _ (agrees-handle depth)
    (agrees-field depth _ _ handle_codec _ _ (agrees-handle depth)
    (agrees-field depth _ _ boolean_codec _ _ (agrees-boolean depth)
    (agrees-none depth))))

pub agrees-Handles : (depth : ℕ) → Agrees depth type.Handles (list_codec handle_codec).decode
unfolding shape_of
agrees-Handles depth = agrees-list depth type.Handles _ handle_codec.decode refl (agrees-handle depth)

pub agrees-SwizzlePattern : (depth : ℕ) → Agrees depth type.SwizzlePattern (array_codec 4 swizzle_component_codec).decode
unfolding shape_of
agrees-SwizzlePattern depth = agrees-array depth type.SwizzlePattern _ 4 swizzle_component_codec.decode refl (agrees-swizzle_component depth)

pub agrees-ExpressionCompose : (depth : ℕ) → Agrees depth type.ExpressionCompose (held_in expression_compose)
unfolding shape_of
agrees-ExpressionCompose depth =
    agrees-struct depth type.ExpressionCompose _ _ _ refl refl
    (agrees-field depth _ _ handle_codec _ _ (agrees-handle depth)
    (agrees-field depth _ _ (list_codec handle_codec) _ _ (agrees-Handles depth)
    (agrees-none depth)))

pub agrees-ExpressionAccess : (depth : ℕ) → Agrees depth type.ExpressionAccess (held_in expression_access)
unfolding shape_of
agrees-ExpressionAccess depth =
    agrees-struct depth type.ExpressionAccess _ _ _ refl refl
    (agrees-field depth _ _ handle_codec _ _ (agrees-handle depth)
    (agrees-field depth _ _ handle_codec _ _ (agrees-handle depth)
    (agrees-none depth)))

pub agrees-ExpressionAccessIndex : (depth : ℕ) → Agrees depth type.ExpressionAccessIndex (held_in expression_access_index)
unfolding shape_of
agrees-ExpressionAccessIndex depth =
    agrees-struct depth type.ExpressionAccessIndex _ _ _ refl refl
    (agrees-field depth _ _ handle_codec _ _ (agrees-handle depth)
    (agrees-field depth _ _ word_codec _ _ (agrees-word depth)
    (agrees-none depth)))

pub agrees-ExpressionSplat : (depth : ℕ) → Agrees depth type.ExpressionSplat (held_in expression_splat)
unfolding shape_of
agrees-ExpressionSplat depth =
    agrees-struct depth type.ExpressionSplat _ _ _ refl refl
    (agrees-field depth _ _ vector_size_codec _ _ (agrees-vector_size depth)
    (agrees-field depth _ _ handle_codec _ _ (agrees-handle depth)
    (agrees-none depth)))

pub agrees-ExpressionSwizzle : (depth : ℕ) → Agrees depth type.ExpressionSwizzle (held_in expression_swizzle)
unfolding shape_of
agrees-ExpressionSwizzle depth =
    agrees-struct depth type.ExpressionSwizzle _ _ _ refl refl
    (agrees-field depth _ _ vector_size_codec _ _ (agrees-vector_size depth)
    (agrees-field depth _ _ handle_codec _ _ (agrees-handle depth)
    (agrees-field depth _ _ (array_codec 4 swizzle_component_codec) _ _ (agrees-SwizzlePattern depth)
    (agrees-none depth))))

pub agrees-ExpressionLoad : (depth : ℕ) → Agrees depth type.ExpressionLoad (held_in expression_load)
unfolding shape_of
agrees-ExpressionLoad depth =
    agrees-struct depth type.ExpressionLoad _ _ _ refl refl
    (agrees-field depth _ _ handle_codec _ _ (agrees-handle depth)
    (agrees-none depth))

pub agrees-ExpressionImageSample : (depth : ℕ) → Agrees depth type.ExpressionImageSample (held_in expression_image_sample)
unfolding shape_of
agrees-ExpressionImageSample depth =
    agrees-struct depth type.ExpressionImageSample _ _ _ refl refl
    (agrees-field depth _ _ handle_codec _ _ (agrees-handle depth)
    (agrees-field depth _ _ handle_codec _ _ (agrees-handle depth)
    (agrees-optional_field depth _ _ swizzle_component_codec _ _ (agrees-swizzle_component depth)
    (agrees-field depth _ _ handle_codec _ _ (agrees-handle depth)
    (agrees-optional_field depth _ _ handle_codec _ _ (agrees-handle depth)
    (agrees-optional_field depth _ _ handle_codec _ _ (agrees-handle depth)
    (agrees-field depth _ _ sample_level_codec _ _ (agrees-SampleLevel depth)
    (agrees-optional_field depth _ _ handle_codec _ _ (agrees-handle depth)
    (agrees-field depth _ _ boolean_codec _ _ (agrees-boolean depth)
    (agrees-none depth))))))))))

pub agrees-ExpressionImageLoad : (depth : ℕ) → Agrees depth type.ExpressionImageLoad (held_in expression_image_load)
unfolding shape_of
agrees-ExpressionImageLoad depth =
    agrees-struct depth type.ExpressionImageLoad _ _ _ refl refl
    (agrees-field depth _ _ handle_codec _ _ (agrees-handle depth)
    (agrees-field depth _ _ handle_codec _ _ (agrees-handle depth)
    (agrees-optional_field depth _ _ handle_codec _ _ (agrees-handle depth)
    (agrees-optional_field depth _ _ handle_codec _ _ (agrees-handle depth)
    (agrees-optional_field depth _ _ handle_codec _ _ (agrees-handle depth)
    (agrees-none depth))))))

pub agrees-ExpressionImageQuery : (depth : ℕ) → Agrees depth type.ExpressionImageQuery (held_in expression_image_query)
unfolding shape_of
agrees-ExpressionImageQuery depth =
    agrees-struct depth type.ExpressionImageQuery _ _ _ refl refl
    (agrees-field depth _ _ handle_codec _ _ (agrees-handle depth)
    (agrees-field depth _ _ image_query_codec _ _ (agrees-ImageQuery depth)
    (agrees-none depth)))

pub agrees-ExpressionUnary : (depth : ℕ) → Agrees depth type.ExpressionUnary (held_in expression_unary)
unfolding shape_of
agrees-ExpressionUnary depth =
    agrees-struct depth type.ExpressionUnary _ _ _ refl refl
    (agrees-field depth _ _ unary_operator_codec _ _ (agrees-unary_operator depth)
    (agrees-field depth _ _ handle_codec _ _ (agrees-handle depth)
    (agrees-none depth)))

pub agrees-ExpressionBinary : (depth : ℕ) → Agrees depth type.ExpressionBinary (held_in expression_binary)
unfolding shape_of
agrees-ExpressionBinary depth =
    agrees-struct depth type.ExpressionBinary _ _ _ refl refl
    (agrees-field depth _ _ binary_operator_codec _ _ (agrees-binary_operator depth)
    (agrees-field depth _ _ handle_codec _ _ (agrees-handle depth)
    (agrees-field depth _ _ handle_codec _ _ (agrees-handle depth)
    (agrees-none depth))))

pub agrees-ExpressionSelect : (depth : ℕ) → Agrees depth type.ExpressionSelect (held_in expression_select)
unfolding shape_of
agrees-ExpressionSelect depth =
    agrees-struct depth type.ExpressionSelect _ _ _ refl refl
    (agrees-field depth _ _ handle_codec _ _ (agrees-handle depth)
    (agrees-field depth _ _ handle_codec _ _ (agrees-handle depth)
    (agrees-field depth _ _ handle_codec _ _ (agrees-handle depth)
    (agrees-none depth))))

pub agrees-ExpressionDerivative : (depth : ℕ) → Agrees depth type.ExpressionDerivative (held_in expression_derivative)
unfolding shape_of
agrees-ExpressionDerivative depth =
    agrees-struct depth type.ExpressionDerivative _ _ _ refl refl
    (agrees-field depth _ _ derivative_axis_codec _ _ (agrees-derivative_axis depth)
    (agrees-field depth _ _ derivative_control_codec _ _ (agrees-derivative_control depth)
    (agrees-field depth _ _ handle_codec _ _ (agrees-handle depth)
    (agrees-none depth))))

pub agrees-ExpressionRelational : (depth : ℕ) → Agrees depth type.ExpressionRelational (held_in expression_relational)
unfolding shape_of
agrees-ExpressionRelational depth =
    agrees-struct depth type.ExpressionRelational _ _ _ refl refl
    (agrees-field depth _ _ relational_function_codec _ _ (agrees-relational_function depth)
    (agrees-field depth _ _ handle_codec _ _ (agrees-handle depth)
    (agrees-none depth)))

pub agrees-ExpressionMath : (depth : ℕ) → Agrees depth type.ExpressionMath (held_in expression_math)
unfolding shape_of
agrees-ExpressionMath depth =
    agrees-struct depth type.ExpressionMath _ _ _ refl refl
    (agrees-field depth _ _ math_function_codec _ _ (agrees-math_function depth)
    (agrees-field depth _ _ handle_codec _ _ (agrees-handle depth)
    (agrees-optional_field depth _ _ handle_codec _ _ (agrees-handle depth)
    (agrees-optional_field depth _ _ handle_codec _ _ (agrees-handle depth)
    (agrees-optional_field depth _ _ handle_codec _ _ (agrees-handle depth)
    (agrees-none depth))))))

pub agrees-ExpressionAs : (depth : ℕ) → Agrees depth type.ExpressionAs (held_in expression_as)
unfolding shape_of
agrees-ExpressionAs depth =
    agrees-struct depth type.ExpressionAs _ _ _ refl refl
    (agrees-field depth _ _ handle_codec _ _ (agrees-handle depth)
    (agrees-field depth _ _ scalar_kind_codec _ _ (agrees-scalar_kind depth)
    (agrees-optional_field depth _ _ byte_codec _ _ (agrees-byte depth)
    (agrees-none depth))))

pub agrees-ExpressionAtomicResult : (depth : ℕ) → Agrees depth type.ExpressionAtomicResult (held_in expression_atomic_result)
unfolding shape_of
agrees-ExpressionAtomicResult depth =
    agrees-struct depth type.ExpressionAtomicResult _ _ _ refl refl
    (agrees-field depth _ _ handle_codec _ _ (agrees-handle depth)
    (agrees-field depth _ _ boolean_codec _ _ (agrees-boolean depth)
    (agrees-none depth)))

pub agrees-ExpressionWorkGroupUniformLoadResult : (depth : ℕ) → Agrees depth type.ExpressionWorkGroupUniformLoadResult (held_in expression_work_group_uniform_load_result)
unfolding shape_of
agrees-ExpressionWorkGroupUniformLoadResult depth =
    agrees-struct depth type.ExpressionWorkGroupUniformLoadResult _ _ _ refl refl
    (agrees-field depth _ _ handle_codec _ _ (agrees-handle depth)
    (agrees-none depth))

pub agrees-ExpressionRayQueryVertexPositions : (depth : ℕ) → Agrees depth type.ExpressionRayQueryVertexPositions (held_in expression_ray_query_vertex_positions)
unfolding shape_of
agrees-ExpressionRayQueryVertexPositions depth =
    agrees-struct depth type.ExpressionRayQueryVertexPositions _ _ _ refl refl
    (agrees-field depth _ _ handle_codec _ _ (agrees-handle depth)
    (agrees-field depth _ _ boolean_codec _ _ (agrees-boolean depth)
    (agrees-none depth)))

pub agrees-ExpressionRayQueryGetIntersection : (depth : ℕ) → Agrees depth type.ExpressionRayQueryGetIntersection (held_in expression_ray_query_get_intersection)
unfolding shape_of
agrees-ExpressionRayQueryGetIntersection depth =
    agrees-struct depth type.ExpressionRayQueryGetIntersection _ _ _ refl refl
    (agrees-field depth _ _ handle_codec _ _ (agrees-handle depth)
    (agrees-field depth _ _ boolean_codec _ _ (agrees-boolean depth)
    (agrees-none depth)))

pub agrees-ExpressionSubgroupOperationResult : (depth : ℕ) → Agrees depth type.ExpressionSubgroupOperationResult (held_in expression_subgroup_operation_result)
unfolding shape_of
agrees-ExpressionSubgroupOperationResult depth =
    agrees-struct depth type.ExpressionSubgroupOperationResult _ _ _ refl refl
    (agrees-field depth _ _ handle_codec _ _ (agrees-handle depth)
    (agrees-none depth))

pub agrees-ExpressionCooperativeLoad : (depth : ℕ) → Agrees depth type.ExpressionCooperativeLoad (held_in expression_cooperative_load)
unfolding shape_of
agrees-ExpressionCooperativeLoad depth =
    agrees-struct depth type.ExpressionCooperativeLoad _ _ _ refl refl
    (agrees-field depth _ _ cooperative_size_codec _ _ (agrees-cooperative_size depth)
    (agrees-field depth _ _ cooperative_size_codec _ _ (agrees-cooperative_size depth)
    (agrees-field depth _ _ cooperative_role_codec _ _ (agrees-cooperative_role depth)
    (agrees-field depth _ _ cooperative_data_codec _ _ (agrees-CooperativeData depth)
    (agrees-none depth)))))

pub agrees-ExpressionCooperativeMultiplyAdd : (depth : ℕ) → Agrees depth type.ExpressionCooperativeMultiplyAdd (held_in expression_cooperative_multiply_add)
unfolding shape_of
agrees-ExpressionCooperativeMultiplyAdd depth =
    agrees-struct depth type.ExpressionCooperativeMultiplyAdd _ _ _ refl refl
    (agrees-field depth _ _ handle_codec _ _ (agrees-handle depth)
    (agrees-field depth _ _ handle_codec _ _ (agrees-handle depth)
    (agrees-field depth _ _ handle_codec _ _ (agrees-handle depth)
    (agrees-none depth))))

pub agrees-Expression : (depth : ℕ) → Agrees depth type.Expression expression_form.decode
unfolding shape_of
agrees-Expression depth =
    agrees-enum depth type.Expression _ _ expression_names expression_rows refl refl
    (agrees-row depth _ _ (λ held. (form_row expression_literal held).1) _ _ (agrees-as depth _ _ _ (agrees-Literal depth))
    (agrees-row depth _ _ (held_in expression_constant) _ _ (agrees-as depth _ _ _ (agrees-handle depth))
    (agrees-row depth _ _ (held_in expression_override) _ _ (agrees-as depth _ _ _ (agrees-handle depth))
    (agrees-row depth _ _ (held_in expression_zero_value) _ _ (agrees-as depth _ _ _ (agrees-handle depth))
    (agrees-row depth _ _ (held_in expression_compose) _ _ (agrees-ExpressionCompose depth)
    (agrees-row depth _ _ (held_in expression_access) _ _ (agrees-ExpressionAccess depth)
    (agrees-row depth _ _ (held_in expression_access_index) _ _ (agrees-ExpressionAccessIndex depth)
    (agrees-row depth _ _ (held_in expression_splat) _ _ (agrees-ExpressionSplat depth)
    (agrees-row depth _ _ (held_in expression_swizzle) _ _ (agrees-ExpressionSwizzle depth)
    (agrees-row depth _ _ (held_in expression_function_argument) _ _ (agrees-as depth _ _ _ (agrees-word depth))
    (agrees-row depth _ _ (held_in expression_global_variable) _ _ (agrees-as depth _ _ _ (agrees-handle depth))
    (agrees-row depth _ _ (held_in expression_local_variable) _ _ (agrees-as depth _ _ _ (agrees-handle depth))
    (agrees-row depth _ _ (held_in expression_load) _ _ (agrees-ExpressionLoad depth)
    (agrees-row depth _ _ (held_in expression_image_sample) _ _ (agrees-ExpressionImageSample depth)
    (agrees-row depth _ _ (held_in expression_image_load) _ _ (agrees-ExpressionImageLoad depth)
    (agrees-row depth _ _ (held_in expression_image_query) _ _ (agrees-ExpressionImageQuery depth)
    (agrees-row depth _ _ (held_in expression_unary) _ _ (agrees-ExpressionUnary depth)
    (agrees-row depth _ _ (held_in expression_binary) _ _ (agrees-ExpressionBinary depth)
    (agrees-row depth _ _ (held_in expression_select) _ _ (agrees-ExpressionSelect depth)
    (agrees-row depth _ _ (held_in expression_derivative) _ _ (agrees-ExpressionDerivative depth)
    (agrees-row depth _ _ (held_in expression_relational) _ _ (agrees-ExpressionRelational depth)
    (agrees-row depth _ _ (held_in expression_math) _ _ (agrees-ExpressionMath depth)
    (agrees-row depth _ _ (held_in expression_as) _ _ (agrees-ExpressionAs depth)
    (agrees-row depth _ _ (held_in expression_call_result) _ _ (agrees-as depth _ _ _ (agrees-handle depth))
    (agrees-row depth _ _ (held_in expression_atomic_result) _ _ (agrees-ExpressionAtomicResult depth)
    (agrees-row depth _ _ (held_in expression_work_group_uniform_load_result) _ _ (agrees-ExpressionWorkGroupUniformLoadResult depth)
    (agrees-row depth _ _ (held_in expression_array_length) _ _ (agrees-as depth _ _ _ (agrees-handle depth))
    (agrees-row depth _ _ (held_in expression_ray_query_vertex_positions) _ _ (agrees-ExpressionRayQueryVertexPositions depth)
    (agrees-row depth _ _ (held_in expression_ray_query_get_intersection) _ _ (agrees-ExpressionRayQueryGetIntersection depth)
    (agrees-row depth _ _ (held_in expression_subgroup_operation_result) _ _ (agrees-ExpressionSubgroupOperationResult depth)
    (agrees-row depth _ _ (held_in expression_cooperative_load) _ _ (agrees-ExpressionCooperativeLoad depth)
    (agrees-row depth _ _ (held_in expression_cooperative_multiply_add) _ _ (agrees-ExpressionCooperativeMultiplyAdd depth)
    (agrees-no_rows depth)))))))))))))))))))))))))))))))))
