-- Made by tests/derive from the declarations of naga_kinds and naga_ir.
-- Values whose types are declared in the module `expression` are read as they are written.
use Rattle.std.proofs.Common.{refl}
use Rattle.std.specs.List.{AllByRecursion}
use Rattle.json.specs.Json.{Json}
use Rattle.naga_json.specs.Form.{LawfulForm}
use Rattle.naga_json.specs.Lawful.{Gives, IsRead, Lawful}
use Rattle.naga_json.proofs.CodecLemmas.{lawful-boolean, lawful-byte, lawful-handle, lawful-word}
use Rattle.naga_json.proofs.FieldsLemmas.{contains, distinct, lawful-field, lawful-no_fields, lawful-optional_field, lawful-struct, LawfulFields}
use Rattle.naga_json.proofs.FormLemmas.{lawful-holds_form, LawfulFormVariant}
use Rattle.naga_json.proofs.ListsLemmas.{lawful-array, lawful-list}
use Rattle.naga_json.proofs.VariantsLemmas.{gives-enum, is_word, lawful-holds, lawful-holds_fields, LawfulVariant}
use Rattle.naga_ir.specs.declared.expression.AtomicFunction.{AtomicFunction}
use Rattle.naga_ir.specs.declared.expression.AtomicFunction.TheVariants as atomic_function
use Rattle.naga_ir.specs.declared.expression.SampleLevel.{SampleLevel}
use Rattle.naga_ir.specs.declared.expression.SampleLevel.TheVariants as sample_level
use Rattle.naga_ir.specs.declared.expression.ImageQuery.{ImageQuery}
use Rattle.naga_ir.specs.declared.expression.ImageQuery.TheVariants as image_query
use Rattle.naga_ir.specs.declared.expression.GatherMode.{GatherMode}
use Rattle.naga_ir.specs.declared.expression.GatherMode.TheVariants as gather_mode
use Rattle.naga_json.specs.Expression.{compose, ExpressionValue, plain}
use Rattle.naga_ir.specs.declared.expression.Expression.TheVariants as expression
use Rattle.naga_json.specs.derived.Expression.{atomic_function_codec, atomic_function_exchange, atomic_function_names, atomic_function_rows, cooperative_data_codec, cooperative_data_fields, expression_access, expression_access_index, expression_array_length, expression_as, expression_atomic_result, expression_binary, expression_call_result, expression_compose, expression_constant, expression_cooperative_load, expression_cooperative_multiply_add, expression_derivative, expression_form, expression_function_argument, expression_global_variable, expression_image_load, expression_image_query, expression_image_sample, expression_literal, expression_load, expression_local_variable, expression_math, expression_names, expression_override, expression_ray_query_get_intersection, expression_ray_query_vertex_positions, expression_relational, expression_rows, expression_select, expression_splat, expression_subgroup_operation_result, expression_swizzle, expression_unary, expression_work_group_uniform_load_result, expression_zero_value, gather_mode_broadcast, gather_mode_codec, gather_mode_names, gather_mode_quad_broadcast, gather_mode_quad_swap, gather_mode_rows, gather_mode_shuffle, gather_mode_shuffle_down, gather_mode_shuffle_up, gather_mode_shuffle_xor, image_query_codec, image_query_names, image_query_rows, image_query_size, sample_level_bias, sample_level_codec, sample_level_exact, sample_level_gradient, sample_level_names, sample_level_rows}
use Rattle.naga_json.proofs.derived.LiteralLemmas.{lawful-literal}
use Rattle.naga_json.proofs.derived.KindsLemmas.{lawful-binary_operator, lawful-cooperative_role, lawful-cooperative_size, lawful-derivative_axis, lawful-derivative_control, lawful-direction, lawful-math_function, lawful-relational_function, lawful-scalar_kind, lawful-swizzle_component, lawful-unary_operator, lawful-vector_size}

lawful-atomic_function_exchange : LawfulVariant atomic_function_exchange
unfolding distinct contains
lawful-atomic_function_exchange = lawful-holds_fields _ _ _ (lawful-optional_field _ _ _ lawful-handle lawful-no_fields) refl

pub lawful-atomic_function : Lawful atomic_function_codec
lawful-atomic_function = record { reads = reads; gives = gives-enum atomic_function_codec.Fits atomic_function_names atomic_function_rows (search) each }
  where
    reads : (value : AtomicFunction) → atomic_function_codec.Fits value → IsRead atomic_function_codec.decode value (atomic_function_codec.encode value)
    reads atomic_function.Add fits = is_word refl
    reads atomic_function.Subtract fits = is_word refl
    reads atomic_function.And fits = is_word refl
    reads atomic_function.ExclusiveOr fits = is_word refl
    reads atomic_function.InclusiveOr fits = is_word refl
    reads atomic_function.Min fits = is_word refl
    reads atomic_function.Max fits = is_word refl
    reads (atomic_function.Exchange compare) fits = lawful-atomic_function_exchange.reads (compare, tt) fits atomic_function_codec.decode (λ held. refl)

    each : (held : Json) → AllByRecursion (λ row. Gives atomic_function_codec.Fits row.1) (atomic_function_rows held)
    each held = (lawful-atomic_function_exchange.gives atomic_function_codec.Fits (λ parts fits. fits) held, tt)

lawful-sample_level_exact : LawfulVariant sample_level_exact
lawful-sample_level_exact = lawful-holds _ _ _ lawful-handle

lawful-sample_level_bias : LawfulVariant sample_level_bias
lawful-sample_level_bias = lawful-holds _ _ _ lawful-handle

lawful-sample_level_gradient : LawfulVariant sample_level_gradient
unfolding distinct contains
lawful-sample_level_gradient = lawful-holds_fields _ _ _ (lawful-field _ _ _ lawful-handle (lawful-field _ _ _ lawful-handle lawful-no_fields)) refl

pub lawful-sample_level : Lawful sample_level_codec
lawful-sample_level = record { reads = reads; gives = gives-enum sample_level_codec.Fits sample_level_names sample_level_rows (search) each }
  where
    reads : (value : SampleLevel) → sample_level_codec.Fits value → IsRead sample_level_codec.decode value (sample_level_codec.encode value)
    reads sample_level.Auto fits = is_word refl
    reads sample_level.Zero fits = is_word refl
    reads (sample_level.Exact value) fits = lawful-sample_level_exact.reads value fits sample_level_codec.decode (λ held. refl)
    reads (sample_level.Bias value) fits = lawful-sample_level_bias.reads value fits sample_level_codec.decode (λ held. refl)
    reads (sample_level.Gradient x y) fits = lawful-sample_level_gradient.reads (x, (y, tt)) fits sample_level_codec.decode (λ held. refl)

    each : (held : Json) → AllByRecursion (λ row. Gives sample_level_codec.Fits row.1) (sample_level_rows held)
    each held = (lawful-sample_level_exact.gives sample_level_codec.Fits (λ parts fits. fits) held, (lawful-sample_level_bias.gives sample_level_codec.Fits (λ parts fits. fits) held, (lawful-sample_level_gradient.gives sample_level_codec.Fits (λ parts fits. fits) held, tt)))

lawful-image_query_size : LawfulVariant image_query_size
unfolding distinct contains
lawful-image_query_size = lawful-holds_fields _ _ _ (lawful-optional_field _ _ _ lawful-handle lawful-no_fields) refl

pub lawful-image_query : Lawful image_query_codec
lawful-image_query = record { reads = reads; gives = gives-enum image_query_codec.Fits image_query_names image_query_rows (search) each }
  where
    reads : (value : ImageQuery) → image_query_codec.Fits value → IsRead image_query_codec.decode value (image_query_codec.encode value)
    reads (image_query.Size level) fits = lawful-image_query_size.reads (level, tt) fits image_query_codec.decode (λ held. refl)
    reads image_query.NumLevels fits = is_word refl
    reads image_query.NumLayers fits = is_word refl
    reads image_query.NumSamples fits = is_word refl

    each : (held : Json) → AllByRecursion (λ row. Gives image_query_codec.Fits row.1) (image_query_rows held)
    each held = (lawful-image_query_size.gives image_query_codec.Fits (λ parts fits. fits) held, tt)

lawful-gather_mode_broadcast : LawfulVariant gather_mode_broadcast
lawful-gather_mode_broadcast = lawful-holds _ _ _ lawful-handle

lawful-gather_mode_shuffle : LawfulVariant gather_mode_shuffle
lawful-gather_mode_shuffle = lawful-holds _ _ _ lawful-handle

lawful-gather_mode_shuffle_down : LawfulVariant gather_mode_shuffle_down
lawful-gather_mode_shuffle_down = lawful-holds _ _ _ lawful-handle

lawful-gather_mode_shuffle_up : LawfulVariant gather_mode_shuffle_up
lawful-gather_mode_shuffle_up = lawful-holds _ _ _ lawful-handle

lawful-gather_mode_shuffle_xor : LawfulVariant gather_mode_shuffle_xor
lawful-gather_mode_shuffle_xor = lawful-holds _ _ _ lawful-handle

lawful-gather_mode_quad_broadcast : LawfulVariant gather_mode_quad_broadcast
lawful-gather_mode_quad_broadcast = lawful-holds _ _ _ lawful-handle

lawful-gather_mode_quad_swap : LawfulVariant gather_mode_quad_swap
lawful-gather_mode_quad_swap = lawful-holds _ _ _ lawful-direction

pub lawful-gather_mode : Lawful gather_mode_codec
lawful-gather_mode = record { reads = reads; gives = gives-enum gather_mode_codec.Fits gather_mode_names gather_mode_rows (search) each }
  where
    reads : (value : GatherMode) → gather_mode_codec.Fits value → IsRead gather_mode_codec.decode value (gather_mode_codec.encode value)
    reads gather_mode.BroadcastFirst fits = is_word refl
    reads (gather_mode.Broadcast value) fits = lawful-gather_mode_broadcast.reads value fits gather_mode_codec.decode (λ held. refl)
    reads (gather_mode.Shuffle value) fits = lawful-gather_mode_shuffle.reads value fits gather_mode_codec.decode (λ held. refl)
    reads (gather_mode.ShuffleDown value) fits = lawful-gather_mode_shuffle_down.reads value fits gather_mode_codec.decode (λ held. refl)
    reads (gather_mode.ShuffleUp value) fits = lawful-gather_mode_shuffle_up.reads value fits gather_mode_codec.decode (λ held. refl)
    reads (gather_mode.ShuffleXor value) fits = lawful-gather_mode_shuffle_xor.reads value fits gather_mode_codec.decode (λ held. refl)
    reads (gather_mode.QuadBroadcast value) fits = lawful-gather_mode_quad_broadcast.reads value fits gather_mode_codec.decode (λ held. refl)
    reads (gather_mode.QuadSwap value) fits = lawful-gather_mode_quad_swap.reads value fits gather_mode_codec.decode (λ held. refl)

    each : (held : Json) → AllByRecursion (λ row. Gives gather_mode_codec.Fits row.1) (gather_mode_rows held)
    each held = (lawful-gather_mode_broadcast.gives gather_mode_codec.Fits (λ parts fits. fits) held, (lawful-gather_mode_shuffle.gives gather_mode_codec.Fits (λ parts fits. fits) held, (lawful-gather_mode_shuffle_down.gives gather_mode_codec.Fits (λ parts fits. fits) held, (lawful-gather_mode_shuffle_up.gives gather_mode_codec.Fits (λ parts fits. fits) held, (lawful-gather_mode_shuffle_xor.gives gather_mode_codec.Fits (λ parts fits. fits) held, (lawful-gather_mode_quad_broadcast.gives gather_mode_codec.Fits (λ parts fits. fits) held, (lawful-gather_mode_quad_swap.gives gather_mode_codec.Fits (λ parts fits. fits) held, tt)))))))

lawful-cooperative_data_fields : LawfulFields cooperative_data_fields
lawful-cooperative_data_fields = lawful-field _ _ _ lawful-handle (lawful-field _ _ _ lawful-handle (lawful-field _ _ _ lawful-boolean lawful-no_fields))

pub lawful-cooperative_data : Lawful cooperative_data_codec
unfolding distinct contains
lawful-cooperative_data = lawful-struct cooperative_data_fields lawful-cooperative_data_fields _ _ (λ value. refl) (λ parts. refl) refl

lawful-expression_literal : LawfulFormVariant expression_literal
lawful-expression_literal = lawful-holds_form _ _ _ lawful-literal

lawful-expression_constant : LawfulVariant expression_constant
lawful-expression_constant = lawful-holds _ _ _ lawful-handle

lawful-expression_override : LawfulVariant expression_override
lawful-expression_override = lawful-holds _ _ _ lawful-handle

lawful-expression_zero_value : LawfulVariant expression_zero_value
lawful-expression_zero_value = lawful-holds _ _ _ lawful-handle

lawful-expression_compose : LawfulVariant expression_compose
unfolding distinct contains
lawful-expression_compose = lawful-holds_fields _ _ _ (lawful-field _ _ _ lawful-handle (lawful-field _ _ _ (lawful-list _ lawful-handle) lawful-no_fields)) refl

lawful-expression_access : LawfulVariant expression_access
unfolding distinct contains
lawful-expression_access = lawful-holds_fields _ _ _ (lawful-field _ _ _ lawful-handle (lawful-field _ _ _ lawful-handle lawful-no_fields)) refl

lawful-expression_access_index : LawfulVariant expression_access_index
unfolding distinct contains
lawful-expression_access_index = lawful-holds_fields _ _ _ (lawful-field _ _ _ lawful-handle (lawful-field _ _ _ lawful-word lawful-no_fields)) refl

lawful-expression_splat : LawfulVariant expression_splat
unfolding distinct contains
lawful-expression_splat = lawful-holds_fields _ _ _ (lawful-field _ _ _ lawful-vector_size (lawful-field _ _ _ lawful-handle lawful-no_fields)) refl

lawful-expression_swizzle : LawfulVariant expression_swizzle
unfolding distinct contains
lawful-expression_swizzle = lawful-holds_fields _ _ _ (lawful-field _ _ _ lawful-vector_size (lawful-field _ _ _ lawful-handle (lawful-field _ _ _ (lawful-array 4 _ lawful-swizzle_component) lawful-no_fields))) refl

lawful-expression_function_argument : LawfulVariant expression_function_argument
lawful-expression_function_argument = lawful-holds _ _ _ lawful-word

lawful-expression_global_variable : LawfulVariant expression_global_variable
lawful-expression_global_variable = lawful-holds _ _ _ lawful-handle

lawful-expression_local_variable : LawfulVariant expression_local_variable
lawful-expression_local_variable = lawful-holds _ _ _ lawful-handle

lawful-expression_load : LawfulVariant expression_load
unfolding distinct contains
lawful-expression_load = lawful-holds_fields _ _ _ (lawful-field _ _ _ lawful-handle lawful-no_fields) refl

lawful-expression_image_sample : LawfulVariant expression_image_sample
unfolding distinct contains
lawful-expression_image_sample = lawful-holds_fields _ _ _ (lawful-field _ _ _ lawful-handle (lawful-field _ _ _ lawful-handle (lawful-optional_field _ _ _ lawful-swizzle_component (lawful-field _ _ _ lawful-handle (lawful-optional_field _ _ _ lawful-handle (lawful-optional_field _ _ _ lawful-handle (lawful-field _ _ _ lawful-sample_level (lawful-optional_field _ _ _ lawful-handle (lawful-field _ _ _ lawful-boolean lawful-no_fields))))))))) refl

lawful-expression_image_load : LawfulVariant expression_image_load
unfolding distinct contains
lawful-expression_image_load = lawful-holds_fields _ _ _ (lawful-field _ _ _ lawful-handle (lawful-field _ _ _ lawful-handle (lawful-optional_field _ _ _ lawful-handle (lawful-optional_field _ _ _ lawful-handle (lawful-optional_field _ _ _ lawful-handle lawful-no_fields))))) refl

lawful-expression_image_query : LawfulVariant expression_image_query
unfolding distinct contains
lawful-expression_image_query = lawful-holds_fields _ _ _ (lawful-field _ _ _ lawful-handle (lawful-field _ _ _ lawful-image_query lawful-no_fields)) refl

lawful-expression_unary : LawfulVariant expression_unary
unfolding distinct contains
lawful-expression_unary = lawful-holds_fields _ _ _ (lawful-field _ _ _ lawful-unary_operator (lawful-field _ _ _ lawful-handle lawful-no_fields)) refl

lawful-expression_binary : LawfulVariant expression_binary
unfolding distinct contains
lawful-expression_binary = lawful-holds_fields _ _ _ (lawful-field _ _ _ lawful-binary_operator (lawful-field _ _ _ lawful-handle (lawful-field _ _ _ lawful-handle lawful-no_fields))) refl

lawful-expression_select : LawfulVariant expression_select
unfolding distinct contains
lawful-expression_select = lawful-holds_fields _ _ _ (lawful-field _ _ _ lawful-handle (lawful-field _ _ _ lawful-handle (lawful-field _ _ _ lawful-handle lawful-no_fields))) refl

lawful-expression_derivative : LawfulVariant expression_derivative
unfolding distinct contains
lawful-expression_derivative = lawful-holds_fields _ _ _ (lawful-field _ _ _ lawful-derivative_axis (lawful-field _ _ _ lawful-derivative_control (lawful-field _ _ _ lawful-handle lawful-no_fields))) refl

lawful-expression_relational : LawfulVariant expression_relational
unfolding distinct contains
lawful-expression_relational = lawful-holds_fields _ _ _ (lawful-field _ _ _ lawful-relational_function (lawful-field _ _ _ lawful-handle lawful-no_fields)) refl

lawful-expression_math : LawfulVariant expression_math
unfolding distinct contains
lawful-expression_math = lawful-holds_fields _ _ _ (lawful-field _ _ _ lawful-math_function (lawful-field _ _ _ lawful-handle (lawful-optional_field _ _ _ lawful-handle (lawful-optional_field _ _ _ lawful-handle (lawful-optional_field _ _ _ lawful-handle lawful-no_fields))))) refl

lawful-expression_as : LawfulVariant expression_as
unfolding distinct contains
lawful-expression_as = lawful-holds_fields _ _ _ (lawful-field _ _ _ lawful-handle (lawful-field _ _ _ lawful-scalar_kind (lawful-optional_field _ _ _ lawful-byte lawful-no_fields))) refl

lawful-expression_call_result : LawfulVariant expression_call_result
lawful-expression_call_result = lawful-holds _ _ _ lawful-handle

lawful-expression_atomic_result : LawfulVariant expression_atomic_result
unfolding distinct contains
lawful-expression_atomic_result = lawful-holds_fields _ _ _ (lawful-field _ _ _ lawful-handle (lawful-field _ _ _ lawful-boolean lawful-no_fields)) refl

lawful-expression_work_group_uniform_load_result : LawfulVariant expression_work_group_uniform_load_result
unfolding distinct contains
lawful-expression_work_group_uniform_load_result = lawful-holds_fields _ _ _ (lawful-field _ _ _ lawful-handle lawful-no_fields) refl

lawful-expression_array_length : LawfulVariant expression_array_length
lawful-expression_array_length = lawful-holds _ _ _ lawful-handle

lawful-expression_ray_query_vertex_positions : LawfulVariant expression_ray_query_vertex_positions
unfolding distinct contains
lawful-expression_ray_query_vertex_positions = lawful-holds_fields _ _ _ (lawful-field _ _ _ lawful-handle (lawful-field _ _ _ lawful-boolean lawful-no_fields)) refl

lawful-expression_ray_query_get_intersection : LawfulVariant expression_ray_query_get_intersection
unfolding distinct contains
lawful-expression_ray_query_get_intersection = lawful-holds_fields _ _ _ (lawful-field _ _ _ lawful-handle (lawful-field _ _ _ lawful-boolean lawful-no_fields)) refl

lawful-expression_subgroup_operation_result : LawfulVariant expression_subgroup_operation_result
unfolding distinct contains
lawful-expression_subgroup_operation_result = lawful-holds_fields _ _ _ (lawful-field _ _ _ lawful-handle lawful-no_fields) refl

lawful-expression_cooperative_load : LawfulVariant expression_cooperative_load
unfolding distinct contains
lawful-expression_cooperative_load = lawful-holds_fields _ _ _ (lawful-field _ _ _ lawful-cooperative_size (lawful-field _ _ _ lawful-cooperative_size (lawful-field _ _ _ lawful-cooperative_role (lawful-field _ _ _ lawful-cooperative_data lawful-no_fields)))) refl

lawful-expression_cooperative_multiply_add : LawfulVariant expression_cooperative_multiply_add
unfolding distinct contains
lawful-expression_cooperative_multiply_add = lawful-holds_fields _ _ _ (lawful-field _ _ _ lawful-handle (lawful-field _ _ _ lawful-handle (lawful-field _ _ _ lawful-handle lawful-no_fields))) refl

pub lawful-expression : LawfulForm expression_form
lawful-expression = record { reads = reads; gives = gives-enum expression_form.Fits expression_names expression_rows (search) each }
  where
    reads : (value : ExpressionValue) (j : Json) → expression_form.Fits value → expression_form.Writes value j → IsRead expression_form.decode value j
    reads (plain (expression.Literal value)) j fits is = lawful-expression_literal.reads value j fits is expression_form.decode (λ held. refl)
    reads (plain (expression.Constant value)) j fits is = rw is (lawful-expression_constant.reads value fits expression_form.decode (λ held. refl))
    reads (plain (expression.Override value)) j fits is = rw is (lawful-expression_override.reads value fits expression_form.decode (λ held. refl))
    reads (plain (expression.ZeroValue value)) j fits is = rw is (lawful-expression_zero_value.reads value fits expression_form.decode (λ held. refl))
    reads (compose ty components) j fits is = rw is (lawful-expression_compose.reads (ty, (components, tt)) fits expression_form.decode (λ held. refl))
    reads (plain (expression.Access base index)) j fits is = rw is (lawful-expression_access.reads (base, (index, tt)) fits expression_form.decode (λ held. refl))
    reads (plain (expression.AccessIndex base index)) j fits is = rw is (lawful-expression_access_index.reads (base, (index, tt)) fits expression_form.decode (λ held. refl))
    reads (plain (expression.Splat size value)) j fits is = rw is (lawful-expression_splat.reads (size, (value, tt)) fits expression_form.decode (λ held. refl))
    reads (plain (expression.Swizzle size vector pattern)) j fits is = rw is (lawful-expression_swizzle.reads (size, (vector, (pattern, tt))) fits expression_form.decode (λ held. refl))
    reads (plain (expression.FunctionArgument value)) j fits is = rw is (lawful-expression_function_argument.reads value fits expression_form.decode (λ held. refl))
    reads (plain (expression.GlobalVariable value)) j fits is = rw is (lawful-expression_global_variable.reads value fits expression_form.decode (λ held. refl))
    reads (plain (expression.LocalVariable value)) j fits is = rw is (lawful-expression_local_variable.reads value fits expression_form.decode (λ held. refl))
    reads (plain (expression.Load pointer)) j fits is = rw is (lawful-expression_load.reads (pointer, tt) fits expression_form.decode (λ held. refl))
    reads (plain (expression.ImageSample image sampler gather coordinate array_index offset level depth_ref clamp_to_edge)) j fits is = rw is (lawful-expression_image_sample.reads (image, (sampler, (gather, (coordinate, (array_index, (offset, (level, (depth_ref, (clamp_to_edge, tt))))))))) fits expression_form.decode (λ held. refl))
    reads (plain (expression.ImageLoad image coordinate array_index sample level)) j fits is = rw is (lawful-expression_image_load.reads (image, (coordinate, (array_index, (sample, (level, tt))))) fits expression_form.decode (λ held. refl))
    reads (plain (expression.ImageQuery image query)) j fits is = rw is (lawful-expression_image_query.reads (image, (query, tt)) fits expression_form.decode (λ held. refl))
    reads (plain (expression.Unary op expr)) j fits is = rw is (lawful-expression_unary.reads (op, (expr, tt)) fits expression_form.decode (λ held. refl))
    reads (plain (expression.Binary op left right)) j fits is = rw is (lawful-expression_binary.reads (op, (left, (right, tt))) fits expression_form.decode (λ held. refl))
    reads (plain (expression.Select condition accept reject)) j fits is = rw is (lawful-expression_select.reads (condition, (accept, (reject, tt))) fits expression_form.decode (λ held. refl))
    reads (plain (expression.Derivative axis ctrl expr)) j fits is = rw is (lawful-expression_derivative.reads (axis, (ctrl, (expr, tt))) fits expression_form.decode (λ held. refl))
    reads (plain (expression.Relational fun argument)) j fits is = rw is (lawful-expression_relational.reads (fun, (argument, tt)) fits expression_form.decode (λ held. refl))
    reads (plain (expression.Math fun arg arg1 arg2 arg3)) j fits is = rw is (lawful-expression_math.reads (fun, (arg, (arg1, (arg2, (arg3, tt))))) fits expression_form.decode (λ held. refl))
    reads (plain (expression.As expr kind convert)) j fits is = rw is (lawful-expression_as.reads (expr, (kind, (convert, tt))) fits expression_form.decode (λ held. refl))
    reads (plain (expression.CallResult value)) j fits is = rw is (lawful-expression_call_result.reads value fits expression_form.decode (λ held. refl))
    reads (plain (expression.AtomicResult ty comparison)) j fits is = rw is (lawful-expression_atomic_result.reads (ty, (comparison, tt)) fits expression_form.decode (λ held. refl))
    reads (plain (expression.WorkGroupUniformLoadResult ty)) j fits is = rw is (lawful-expression_work_group_uniform_load_result.reads (ty, tt) fits expression_form.decode (λ held. refl))
    reads (plain (expression.ArrayLength value)) j fits is = rw is (lawful-expression_array_length.reads value fits expression_form.decode (λ held. refl))
    reads (plain (expression.RayQueryVertexPositions query committed)) j fits is = rw is (lawful-expression_ray_query_vertex_positions.reads (query, (committed, tt)) fits expression_form.decode (λ held. refl))
    reads (plain expression.RayQueryProceedResult) j fits is = rw is (is_word refl)
    reads (plain (expression.RayQueryGetIntersection query committed)) j fits is = rw is (lawful-expression_ray_query_get_intersection.reads (query, (committed, tt)) fits expression_form.decode (λ held. refl))
    reads (plain expression.SubgroupBallotResult) j fits is = rw is (is_word refl)
    reads (plain (expression.SubgroupOperationResult ty)) j fits is = rw is (lawful-expression_subgroup_operation_result.reads (ty, tt) fits expression_form.decode (λ held. refl))
    reads (plain (expression.CooperativeLoad columns rows role data')) j fits is = rw is (lawful-expression_cooperative_load.reads (columns, (rows, (role, (data', tt)))) fits expression_form.decode (λ held. refl))
    reads (plain (expression.CooperativeMultiplyAdd a b c)) j fits is = rw is (lawful-expression_cooperative_multiply_add.reads (a, (b, (c, tt))) fits expression_form.decode (λ held. refl))
    reads other j fits is = absurd fits

    each : (held : Json) → AllByRecursion (λ row. Gives expression_form.Fits row.1) (expression_rows held)
    each held = (lawful-expression_literal.gives expression_form.Fits (λ parts fits. fits) held, (lawful-expression_constant.gives expression_form.Fits (λ parts fits. fits) held, (lawful-expression_override.gives expression_form.Fits (λ parts fits. fits) held, (lawful-expression_zero_value.gives expression_form.Fits (λ parts fits. fits) held, (lawful-expression_compose.gives expression_form.Fits (λ parts fits. fits) held, (lawful-expression_access.gives expression_form.Fits (λ parts fits. fits) held, (lawful-expression_access_index.gives expression_form.Fits (λ parts fits. fits) held, (lawful-expression_splat.gives expression_form.Fits (λ parts fits. fits) held, (lawful-expression_swizzle.gives expression_form.Fits (λ parts fits. fits) held, (lawful-expression_function_argument.gives expression_form.Fits (λ parts fits. fits) held, (lawful-expression_global_variable.gives expression_form.Fits (λ parts fits. fits) held, (lawful-expression_local_variable.gives expression_form.Fits (λ parts fits. fits) held, (lawful-expression_load.gives expression_form.Fits (λ parts fits. fits) held, (lawful-expression_image_sample.gives expression_form.Fits (λ parts fits. fits) held, (lawful-expression_image_load.gives expression_form.Fits (λ parts fits. fits) held, (lawful-expression_image_query.gives expression_form.Fits (λ parts fits. fits) held, (lawful-expression_unary.gives expression_form.Fits (λ parts fits. fits) held, (lawful-expression_binary.gives expression_form.Fits (λ parts fits. fits) held, (lawful-expression_select.gives expression_form.Fits (λ parts fits. fits) held, (lawful-expression_derivative.gives expression_form.Fits (λ parts fits. fits) held, (lawful-expression_relational.gives expression_form.Fits (λ parts fits. fits) held, (lawful-expression_math.gives expression_form.Fits (λ parts fits. fits) held, (lawful-expression_as.gives expression_form.Fits (λ parts fits. fits) held, (lawful-expression_call_result.gives expression_form.Fits (λ parts fits. fits) held, (lawful-expression_atomic_result.gives expression_form.Fits (λ parts fits. fits) held, (lawful-expression_work_group_uniform_load_result.gives expression_form.Fits (λ parts fits. fits) held, (lawful-expression_array_length.gives expression_form.Fits (λ parts fits. fits) held, (lawful-expression_ray_query_vertex_positions.gives expression_form.Fits (λ parts fits. fits) held, (lawful-expression_ray_query_get_intersection.gives expression_form.Fits (λ parts fits. fits) held, (lawful-expression_subgroup_operation_result.gives expression_form.Fits (λ parts fits. fits) held, (lawful-expression_cooperative_load.gives expression_form.Fits (λ parts fits. fits) held, (lawful-expression_cooperative_multiply_add.gives expression_form.Fits (λ parts fits. fits) held, tt))))))))))))))))))))))))))))))))
