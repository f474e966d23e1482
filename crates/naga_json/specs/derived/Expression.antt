-- Made by tests/derive from the declarations of naga_kinds and naga_ir.
-- How values are written and read whose types are declared in the module `expression`.
use Rattle.std.specs.Prelude.{[], Bool, codes, List, Option, ℕ, ⊤, ◌∷◌}
use Rattle.json.specs.Json.{Json}
use Rattle.naga_json.specs.Codec.{boolean_codec, byte_codec, Codec, handle_codec, word_codec}
use Rattle.naga_json.specs.Fields.{field, Fields, no_fields, optional_field, struct_codec}
use Rattle.naga_json.specs.Form.{enum_form, Form, form_row, FormPayload, FormVariant, holding_form, holds_form, written}
use Rattle.naga_json.specs.Lists.{array_codec, list_codec}
use Rattle.naga_json.specs.Variants.{enum_codec, holding, holds, holds_fields, Payload, row, unwritten, Variant, word}
use Rattle.naga_ir.specs.declared.expression.AtomicFunction.{AtomicFunction}
use Rattle.naga_ir.specs.declared.expression.AtomicFunction.TheVariants as atomic_function
use Rattle.naga_ir.specs.declared.expression.SampleLevel.{SampleLevel}
use Rattle.naga_ir.specs.declared.expression.SampleLevel.TheVariants as sample_level
use Rattle.naga_ir.specs.declared.expression.ImageQuery.{ImageQuery}
use Rattle.naga_ir.specs.declared.expression.ImageQuery.TheVariants as image_query
use Rattle.naga_ir.specs.declared.expression.GatherMode.{GatherMode}
use Rattle.naga_ir.specs.declared.expression.GatherMode.TheVariants as gather_mode
use Rattle.naga_ir.specs.declared.expression.CooperativeData.{CooperativeData}
use Rattle.naga_json.specs.Expression.{compose, ExpressionValue, plain}
use Rattle.naga_ir.specs.declared.expression.Expression.TheVariants as expression
use Rattle.naga_json.specs.derived.Literal.{literal_form}
use Rattle.naga_json.specs.derived.Kinds.{binary_operator_codec, cooperative_role_codec, cooperative_size_codec, derivative_axis_codec, derivative_control_codec, direction_codec, math_function_codec, relational_function_codec, scalar_kind_codec, swizzle_component_codec, unary_operator_codec, vector_size_codec}

-- an `Exchange`
abbrev pub atomic_function_exchange : Variant AtomicFunction
atomic_function_exchange =
    holds_fields (codes "Exchange")
    (optional_field (codes "compare") handle_codec no_fields)
    (λ parts. atomic_function.Exchange parts.0)

-- the variants of `AtomicFunction` that are names alone
abbrev pub atomic_function_names : List (List ℕ × AtomicFunction)
atomic_function_names =
    (codes "Add", atomic_function.Add) ∷
    (codes "Subtract", atomic_function.Subtract) ∷
    (codes "And", atomic_function.And) ∷
    (codes "ExclusiveOr", atomic_function.ExclusiveOr) ∷
    (codes "InclusiveOr", atomic_function.InclusiveOr) ∷
    (codes "Min", atomic_function.Min) ∷
    (codes "Max", atomic_function.Max) ∷
    []

-- the variants of `AtomicFunction` that contain data
abbrev pub atomic_function_rows : Json → List (List ℕ × Option AtomicFunction)
atomic_function_rows held =
    row atomic_function_exchange held ∷
    []

-- how an `AtomicFunction` is written
abbrev pub atomic_function_payload : AtomicFunction → Payload
atomic_function_payload atomic_function.Add = word (codes "Add")
atomic_function_payload atomic_function.Subtract = word (codes "Subtract")
atomic_function_payload atomic_function.And = word (codes "And")
atomic_function_payload atomic_function.ExclusiveOr = word (codes "ExclusiveOr")
atomic_function_payload atomic_function.InclusiveOr = word (codes "InclusiveOr")
atomic_function_payload atomic_function.Min = word (codes "Min")
atomic_function_payload atomic_function.Max = word (codes "Max")
atomic_function_payload (atomic_function.Exchange compare) = holding atomic_function_exchange (compare, tt)

-- an `AtomicFunction`
abbrev pub atomic_function_codec : Codec AtomicFunction
atomic_function_codec = enum_codec atomic_function_names atomic_function_rows atomic_function_payload

-- an `Exact`
abbrev pub sample_level_exact : Variant SampleLevel
sample_level_exact = holds (codes "Exact") handle_codec sample_level.Exact

-- a `Bias`
abbrev pub sample_level_bias : Variant SampleLevel
sample_level_bias = holds (codes "Bias") handle_codec sample_level.Bias

-- a `Gradient`
abbrev pub sample_level_gradient : Variant SampleLevel
sample_level_gradient =
    holds_fields (codes "Gradient")
    (field (codes "x") handle_codec (field (codes "y") handle_codec no_fields))
    (λ parts. sample_level.Gradient parts.0 parts.1.0)

-- the variants of `SampleLevel` that are names alone
abbrev pub sample_level_names : List (List ℕ × SampleLevel)
sample_level_names =
    (codes "Auto", sample_level.Auto) ∷
    (codes "Zero", sample_level.Zero) ∷
    []

-- the variants of `SampleLevel` that contain data
abbrev pub sample_level_rows : Json → List (List ℕ × Option SampleLevel)
sample_level_rows held =
    row sample_level_exact held ∷
    row sample_level_bias held ∷
    row sample_level_gradient held ∷
    []

-- how a `SampleLevel` is written
abbrev pub sample_level_payload : SampleLevel → Payload
sample_level_payload sample_level.Auto = word (codes "Auto")
sample_level_payload sample_level.Zero = word (codes "Zero")
sample_level_payload (sample_level.Exact value) = holding sample_level_exact value
sample_level_payload (sample_level.Bias value) = holding sample_level_bias value
sample_level_payload (sample_level.Gradient x y) = holding sample_level_gradient (x, (y, tt))

-- a `SampleLevel`
abbrev pub sample_level_codec : Codec SampleLevel
sample_level_codec = enum_codec sample_level_names sample_level_rows sample_level_payload

-- a `Size`
abbrev pub image_query_size : Variant ImageQuery
image_query_size =
    holds_fields (codes "Size")
    (optional_field (codes "level") handle_codec no_fields)
    (λ parts. image_query.Size parts.0)

-- the variants of `ImageQuery` that are names alone
abbrev pub image_query_names : List (List ℕ × ImageQuery)
image_query_names =
    (codes "NumLevels", image_query.NumLevels) ∷
    (codes "NumLayers", image_query.NumLayers) ∷
    (codes "NumSamples", image_query.NumSamples) ∷
    []

-- the variants of `ImageQuery` that contain data
abbrev pub image_query_rows : Json → List (List ℕ × Option ImageQuery)
image_query_rows held =
    row image_query_size held ∷
    []

-- how an `ImageQuery` is written
abbrev pub image_query_payload : ImageQuery → Payload
image_query_payload (image_query.Size level) = holding image_query_size (level, tt)
image_query_payload image_query.NumLevels = word (codes "NumLevels")
image_query_payload image_query.NumLayers = word (codes "NumLayers")
image_query_payload image_query.NumSamples = word (codes "NumSamples")

-- an `ImageQuery`
abbrev pub image_query_codec : Codec ImageQuery
image_query_codec = enum_codec image_query_names image_query_rows image_query_payload

-- a `Broadcast`
abbrev pub gather_mode_broadcast : Variant GatherMode
gather_mode_broadcast = holds (codes "Broadcast") handle_codec gather_mode.Broadcast

-- a `Shuffle`
abbrev pub gather_mode_shuffle : Variant GatherMode
gather_mode_shuffle = holds (codes "Shuffle") handle_codec gather_mode.Shuffle

-- a `ShuffleDown`
abbrev pub gather_mode_shuffle_down : Variant GatherMode
gather_mode_shuffle_down = holds (codes "ShuffleDown") handle_codec gather_mode.ShuffleDown

-- a `ShuffleUp`
abbrev pub gather_mode_shuffle_up : Variant GatherMode
gather_mode_shuffle_up = holds (codes "ShuffleUp") handle_codec gather_mode.ShuffleUp

-- a `ShuffleXor`
abbrev pub gather_mode_shuffle_xor : Variant GatherMode
gather_mode_shuffle_xor = holds (codes "ShuffleXor") handle_codec gather_mode.ShuffleXor

-- a `QuadBroadcast`
abbrev pub gather_mode_quad_broadcast : Variant GatherMode
gather_mode_quad_broadcast = holds (codes "QuadBroadcast") handle_codec gather_mode.QuadBroadcast

-- a `QuadSwap`
abbrev pub gather_mode_quad_swap : Variant GatherMode
gather_mode_quad_swap = holds (codes "QuadSwap") direction_codec gather_mode.QuadSwap

-- the variants of `GatherMode` that are names alone
abbrev pub gather_mode_names : List (List ℕ × GatherMode)
gather_mode_names =
    (codes "BroadcastFirst", gather_mode.BroadcastFirst) ∷
    []

-- the variants of `GatherMode` that contain data
abbrev pub gather_mode_rows : Json → List (List ℕ × Option GatherMode)
gather_mode_rows held =
    row gather_mode_broadcast held ∷
    row gather_mode_shuffle held ∷
    row gather_mode_shuffle_down held ∷
    row gather_mode_shuffle_up held ∷
    row gather_mode_shuffle_xor held ∷
    row gather_mode_quad_broadcast held ∷
    row gather_mode_quad_swap held ∷
    []

-- how a `GatherMode` is written
abbrev pub gather_mode_payload : GatherMode → Payload
gather_mode_payload gather_mode.BroadcastFirst = word (codes "BroadcastFirst")
gather_mode_payload (gather_mode.Broadcast value) = holding gather_mode_broadcast value
gather_mode_payload (gather_mode.Shuffle value) = holding gather_mode_shuffle value
gather_mode_payload (gather_mode.ShuffleDown value) = holding gather_mode_shuffle_down value
gather_mode_payload (gather_mode.ShuffleUp value) = holding gather_mode_shuffle_up value
gather_mode_payload (gather_mode.ShuffleXor value) = holding gather_mode_shuffle_xor value
gather_mode_payload (gather_mode.QuadBroadcast value) = holding gather_mode_quad_broadcast value
gather_mode_payload (gather_mode.QuadSwap value) = holding gather_mode_quad_swap value

-- a `GatherMode`
abbrev pub gather_mode_codec : Codec GatherMode
gather_mode_codec = enum_codec gather_mode_names gather_mode_rows gather_mode_payload

-- the fields of a `CooperativeData`
abbrev pub cooperative_data_fields : Fields (ℕ × (ℕ × (Bool × ⊤)))
cooperative_data_fields =
    field (codes "pointer") handle_codec (
    field (codes "stride") handle_codec (
    field (codes "row_major") boolean_codec no_fields))

-- a `CooperativeData`
abbrev pub cooperative_data_codec : Codec CooperativeData
cooperative_data_codec =
    struct_codec cooperative_data_fields
    (λ parts. record { pointer = parts.0; stride = parts.1.0; row_major = parts.1.1.0 })
    (λ value. (value.pointer, (value.stride, (value.row_major, tt))))

-- a `Literal`
abbrev pub expression_literal : FormVariant ExpressionValue
expression_literal = holds_form (codes "Literal") literal_form (λ value. plain (expression.Literal value))

-- a `Constant`
abbrev pub expression_constant : Variant ExpressionValue
expression_constant = holds (codes "Constant") handle_codec (λ value. plain (expression.Constant value))

-- an `Override`
abbrev pub expression_override : Variant ExpressionValue
expression_override = holds (codes "Override") handle_codec (λ value. plain (expression.Override value))

-- a `ZeroValue`
abbrev pub expression_zero_value : Variant ExpressionValue
expression_zero_value = holds (codes "ZeroValue") handle_codec (λ value. plain (expression.ZeroValue value))

-- a `Compose`
abbrev pub expression_compose : Variant ExpressionValue
expression_compose =
    holds_fields (codes "Compose")
    (field (codes "ty") handle_codec (field (codes "components") (list_codec handle_codec) no_fields))
    (λ parts. compose parts.0 parts.1.0)

-- an `Access`
abbrev pub expression_access : Variant ExpressionValue
expression_access =
    holds_fields (codes "Access")
    (field (codes "base") handle_codec (field (codes "index") handle_codec no_fields))
    (λ parts. plain (expression.Access parts.0 parts.1.0))

-- an `AccessIndex`
abbrev pub expression_access_index : Variant ExpressionValue
expression_access_index =
    holds_fields (codes "AccessIndex")
    (field (codes "base") handle_codec (field (codes "index") word_codec no_fields))
    (λ parts. plain (expression.AccessIndex parts.0 parts.1.0))

-- a `Splat`
abbrev pub expression_splat : Variant ExpressionValue
expression_splat =
    holds_fields (codes "Splat")
    (field (codes "size") vector_size_codec (field (codes "value") handle_codec no_fields))
    (λ parts. plain (expression.Splat parts.0 parts.1.0))

-- a `Swizzle`
abbrev pub expression_swizzle : Variant ExpressionValue
expression_swizzle =
    holds_fields (codes "Swizzle")
    (field (codes "size") vector_size_codec (
    field (codes "vector") handle_codec (
    field (codes "pattern") (array_codec 4 swizzle_component_codec) no_fields)))
    (λ parts. plain (expression.Swizzle parts.0 parts.1.0 parts.1.1.0))

-- a `FunctionArgument`
abbrev pub expression_function_argument : Variant ExpressionValue
expression_function_argument =
    holds (codes "FunctionArgument") word_codec (λ value. plain (expression.FunctionArgument value))

-- a `GlobalVariable`
abbrev pub expression_global_variable : Variant ExpressionValue
expression_global_variable =
    holds (codes "GlobalVariable") handle_codec (λ value. plain (expression.GlobalVariable value))

-- a `LocalVariable`
abbrev pub expression_local_variable : Variant ExpressionValue
expression_local_variable = holds (codes "LocalVariable") handle_codec (λ value. plain (expression.LocalVariable value))

-- a `Load`
abbrev pub expression_load : Variant ExpressionValue
expression_load =
    holds_fields (codes "Load")
    (field (codes "pointer") handle_codec no_fields)
    (λ parts. plain (expression.Load parts.0))

-- an `ImageSample`
abbrev pub expression_image_sample : Variant ExpressionValue
expression_image_sample =
    holds_fields (codes "ImageSample")
    (field (codes "image") handle_codec (
    field (codes "sampler") handle_codec (
    optional_field (codes "gather") swizzle_component_codec (
    field (codes "coordinate") handle_codec (
    optional_field (codes "array_index") handle_codec (
    optional_field (codes "offset") handle_codec (
    field (codes "level") sample_level_codec (
    optional_field (codes "depth_ref") handle_codec (
    field (codes "clamp_to_edge") boolean_codec no_fields)))))))))
    (λ parts. plain (expression.ImageSample parts.0 parts.1.0 parts.1.1.0 parts.1.1.1.0 parts.1.1.1.1.0 parts.1.1.1.1.1.0 parts.1.1.1.1.1.1.0 parts.1.1.1.1.1.1.1.0 parts.1.1.1.1.1.1.1.1.0))

-- an `ImageLoad`
abbrev pub expression_image_load : Variant ExpressionValue
expression_image_load =
    holds_fields (codes "ImageLoad")
    (field (codes "image") handle_codec (
    field (codes "coordinate") handle_codec (
    optional_field (codes "array_index") handle_codec (
    optional_field (codes "sample") handle_codec (
    optional_field (codes "level") handle_codec no_fields)))))
    (λ parts. plain (expression.ImageLoad parts.0 parts.1.0 parts.1.1.0 parts.1.1.1.0 parts.1.1.1.1.0))

-- an `ImageQuery`
abbrev pub expression_image_query : Variant ExpressionValue
expression_image_query =
    holds_fields (codes "ImageQuery")
    (field (codes "image") handle_codec (field (codes "query") image_query_codec no_fields))
    (λ parts. plain (expression.ImageQuery parts.0 parts.1.0))

-- an `Unary`
abbrev pub expression_unary : Variant ExpressionValue
expression_unary =
    holds_fields (codes "Unary")
    (field (codes "op") unary_operator_codec (field (codes "expr") handle_codec no_fields))
    (λ parts. plain (expression.Unary parts.0 parts.1.0))

-- a `Binary`
abbrev pub expression_binary : Variant ExpressionValue
expression_binary =
    holds_fields (codes "Binary")
    (field (codes "op") binary_operator_codec (
    field (codes "left") handle_codec (
    field (codes "right") handle_codec no_fields)))
    (λ parts. plain (expression.Binary parts.0 parts.1.0 parts.1.1.0))

-- a `Select`
abbrev pub expression_select : Variant ExpressionValue
expression_select =
    holds_fields (codes "Select")
    (field (codes "condition") handle_codec (
    field (codes "accept") handle_codec (
    field (codes "reject") handle_codec no_fields)))
    (λ parts. plain (expression.Select parts.0 parts.1.0 parts.1.1.0))

-- a `Derivative`
abbrev pub expression_derivative : Variant ExpressionValue
expression_derivative =
    holds_fields (codes "Derivative")
    (field (codes "axis") derivative_axis_codec (
    field (codes "ctrl") derivative_control_codec (
    field (codes "expr") handle_codec no_fields)))
    (λ parts. plain (expression.Derivative parts.0 parts.1.0 parts.1.1.0))

-- a `Relational`
abbrev pub expression_relational : Variant ExpressionValue
expression_relational =
    holds_fields (codes "Relational")
    (field (codes "fun") relational_function_codec (field (codes "argument") handle_codec no_fields))
    (λ parts. plain (expression.Relational parts.0 parts.1.0))

-- a `Math`
abbrev pub expression_math : Variant ExpressionValue
expression_math =
    holds_fields (codes "Math")
    (field (codes "fun") math_function_codec (
    field (codes "arg") handle_codec (
    optional_field (codes "arg1") handle_codec (
    optional_field (codes "arg2") handle_codec (
    optional_field (codes "arg3") handle_codec no_fields)))))
    (λ parts. plain (expression.Math parts.0 parts.1.0 parts.1.1.0 parts.1.1.1.0 parts.1.1.1.1.0))

-- an `As`
abbrev pub expression_as : Variant ExpressionValue
expression_as =
    holds_fields (codes "As")
    (field (codes "expr") handle_codec (
    field (codes "kind") scalar_kind_codec (
    optional_field (codes "convert") byte_codec no_fields)))
    (λ parts. plain (expression.As parts.0 parts.1.0 parts.1.1.0))

-- a `CallResult`
abbrev pub expression_call_result : Variant ExpressionValue
expression_call_result = holds (codes "CallResult") handle_codec (λ value. plain (expression.CallResult value))

-- an `AtomicResult`
abbrev pub expression_atomic_result : Variant ExpressionValue
expression_atomic_result =
    holds_fields (codes "AtomicResult")
    (field (codes "ty") handle_codec (field (codes "comparison") boolean_codec no_fields))
    (λ parts. plain (expression.AtomicResult parts.0 parts.1.0))

-- a `WorkGroupUniformLoadResult`
abbrev pub expression_work_group_uniform_load_result : Variant ExpressionValue
expression_work_group_uniform_load_result =
    holds_fields (codes "WorkGroupUniformLoadResult")
    (field (codes "ty") handle_codec no_fields)
    (λ parts. plain (expression.WorkGroupUniformLoadResult parts.0))

-- an `ArrayLength`
abbrev pub expression_array_length : Variant ExpressionValue
expression_array_length = holds (codes "ArrayLength") handle_codec (λ value. plain (expression.ArrayLength value))

-- a `RayQueryVertexPositions`
abbrev pub expression_ray_query_vertex_positions : Variant ExpressionValue
expression_ray_query_vertex_positions =
    holds_fields (codes "RayQueryVertexPositions")
    (field (codes "query") handle_codec (field (codes "committed") boolean_codec no_fields))
    (λ parts. plain (expression.RayQueryVertexPositions parts.0 parts.1.0))

-- a `RayQueryGetIntersection`
abbrev pub expression_ray_query_get_intersection : Variant ExpressionValue
expression_ray_query_get_intersection =
    holds_fields (codes "RayQueryGetIntersection")
    (field (codes "query") handle_codec (field (codes "committed") boolean_codec no_fields))
    (λ parts. plain (expression.RayQueryGetIntersection parts.0 parts.1.0))

-- a `SubgroupOperationResult`
abbrev pub expression_subgroup_operation_result : Variant ExpressionValue
expression_subgroup_operation_result =
    holds_fields (codes "SubgroupOperationResult")
    (field (codes "ty") handle_codec no_fields)
    (λ parts. plain (expression.SubgroupOperationResult parts.0))

-- a `CooperativeLoad`
abbrev pub expression_cooperative_load : Variant ExpressionValue
expression_cooperative_load =
    holds_fields (codes "CooperativeLoad")
    (field (codes "columns") cooperative_size_codec (
    field (codes "rows") cooperative_size_codec (
    field (codes "role") cooperative_role_codec (
    field (codes "data") cooperative_data_codec no_fields))))
    (λ parts. plain (expression.CooperativeLoad parts.0 parts.1.0 parts.1.1.0 parts.1.1.1.0))

-- a `CooperativeMultiplyAdd`
abbrev pub expression_cooperative_multiply_add : Variant ExpressionValue
expression_cooperative_multiply_add =
    holds_fields (codes "CooperativeMultiplyAdd")
    (field (codes "a") handle_codec (field (codes "b") handle_codec (field (codes "c") handle_codec no_fields)))
    (λ parts. plain (expression.CooperativeMultiplyAdd parts.0 parts.1.0 parts.1.1.0))

-- the variants of `Expression` that are names alone
abbrev pub expression_names : List (List ℕ × ExpressionValue)
expression_names =
    (codes "RayQueryProceedResult", plain expression.RayQueryProceedResult) ∷
    (codes "SubgroupBallotResult", plain expression.SubgroupBallotResult) ∷
    []

-- the variants of `Expression` that contain data
abbrev pub expression_rows : Json → List (List ℕ × Option ExpressionValue)
expression_rows held =
    form_row expression_literal held ∷
    row expression_constant held ∷
    row expression_override held ∷
    row expression_zero_value held ∷
    row expression_compose held ∷
    row expression_access held ∷
    row expression_access_index held ∷
    row expression_splat held ∷
    row expression_swizzle held ∷
    row expression_function_argument held ∷
    row expression_global_variable held ∷
    row expression_local_variable held ∷
    row expression_load held ∷
    row expression_image_sample held ∷
    row expression_image_load held ∷
    row expression_image_query held ∷
    row expression_unary held ∷
    row expression_binary held ∷
    row expression_select held ∷
    row expression_derivative held ∷
    row expression_relational held ∷
    row expression_math held ∷
    row expression_as held ∷
    row expression_call_result held ∷
    row expression_atomic_result held ∷
    row expression_work_group_uniform_load_result held ∷
    row expression_array_length held ∷
    row expression_ray_query_vertex_positions held ∷
    row expression_ray_query_get_intersection held ∷
    row expression_subgroup_operation_result held ∷
    row expression_cooperative_load held ∷
    row expression_cooperative_multiply_add held ∷
    []

-- how an `Expression` that is written in one way is written
abbrev pub expression_payload : ExpressionValue → Payload
expression_payload (plain (expression.Constant value)) = holding expression_constant value
expression_payload (plain (expression.Override value)) = holding expression_override value
expression_payload (plain (expression.ZeroValue value)) = holding expression_zero_value value
expression_payload (compose ty components) = holding expression_compose (ty, (components, tt))
expression_payload (plain (expression.Access base index)) = holding expression_access (base, (index, tt))
expression_payload (plain (expression.AccessIndex base index)) = holding expression_access_index (base, (index, tt))
expression_payload (plain (expression.Splat size value)) = holding expression_splat (size, (value, tt))
expression_payload (plain (expression.Swizzle size vector pattern)) =
    holding expression_swizzle (size, (vector, (pattern, tt)))
expression_payload (plain (expression.FunctionArgument value)) = holding expression_function_argument value
expression_payload (plain (expression.GlobalVariable value)) = holding expression_global_variable value
expression_payload (plain (expression.LocalVariable value)) = holding expression_local_variable value
expression_payload (plain (expression.Load pointer)) = holding expression_load (pointer, tt)
expression_payload (plain (expression.ImageSample image sampler gather coordinate array_index offset level depth_ref clamp_to_edge)) =
    holding expression_image_sample (image, (sampler, (gather, (coordinate, (array_index, (offset, (level, (depth_ref, (clamp_to_edge, tt)))))))))
expression_payload (plain (expression.ImageLoad image coordinate array_index sample level)) =
    holding expression_image_load (image, (coordinate, (array_index, (sample, (level, tt)))))
expression_payload (plain (expression.ImageQuery image query)) = holding expression_image_query (image, (query, tt))
expression_payload (plain (expression.Unary op expr)) = holding expression_unary (op, (expr, tt))
expression_payload (plain (expression.Binary op left right)) = holding expression_binary (op, (left, (right, tt)))
expression_payload (plain (expression.Select condition accept reject)) =
    holding expression_select (condition, (accept, (reject, tt)))
expression_payload (plain (expression.Derivative axis ctrl expr)) =
    holding expression_derivative (axis, (ctrl, (expr, tt)))
expression_payload (plain (expression.Relational fun argument)) = holding expression_relational (fun, (argument, tt))
expression_payload (plain (expression.Math fun arg arg1 arg2 arg3)) =
    holding expression_math (fun, (arg, (arg1, (arg2, (arg3, tt)))))
expression_payload (plain (expression.As expr kind convert)) = holding expression_as (expr, (kind, (convert, tt)))
expression_payload (plain (expression.CallResult value)) = holding expression_call_result value
expression_payload (plain (expression.AtomicResult ty comparison)) =
    holding expression_atomic_result (ty, (comparison, tt))
expression_payload (plain (expression.WorkGroupUniformLoadResult ty)) =
    holding expression_work_group_uniform_load_result (ty, tt)
expression_payload (plain (expression.ArrayLength value)) = holding expression_array_length value
expression_payload (plain (expression.RayQueryVertexPositions query committed)) =
    holding expression_ray_query_vertex_positions (query, (committed, tt))
expression_payload (plain expression.RayQueryProceedResult) = word (codes "RayQueryProceedResult")
expression_payload (plain (expression.RayQueryGetIntersection query committed)) =
    holding expression_ray_query_get_intersection (query, (committed, tt))
expression_payload (plain expression.SubgroupBallotResult) = word (codes "SubgroupBallotResult")
expression_payload (plain (expression.SubgroupOperationResult ty)) =
    holding expression_subgroup_operation_result (ty, tt)
expression_payload (plain (expression.CooperativeLoad columns rows role data')) =
    holding expression_cooperative_load (columns, (rows, (role, (data', tt))))
expression_payload (plain (expression.CooperativeMultiplyAdd a b c)) =
    holding expression_cooperative_multiply_add (a, (b, (c, tt)))
expression_payload other = unwritten

-- how an `Expression` may be written
abbrev pub expression_forms : ExpressionValue → FormPayload
expression_forms (plain (expression.Literal value)) = holding_form expression_literal value
expression_forms other = written (expression_payload other)

-- an `Expression`
abbrev pub expression_form : Form ExpressionValue
expression_form = enum_form expression_names expression_rows expression_forms
