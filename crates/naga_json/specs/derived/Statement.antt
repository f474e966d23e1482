-- Made by tests/derive from the declarations of naga_kinds and naga_ir.
-- How values are written and read whose types are declared in the module `statement`.
use Rattle.std.specs.Prelude.{[], codes, List, Option, ℕ, ◌∷◌}
use Rattle.json.specs.Json.{Json}
use Rattle.naga_json.specs.Codec.{Codec, handle_codec}
use Rattle.naga_json.specs.Fields.{field, no_fields, optional_field}
use Rattle.naga_json.specs.FlagSets.{barrier_codec}
use Rattle.naga_json.specs.Lists.{list_codec}
use Rattle.naga_json.specs.Range.{range_codec}
use Rattle.naga_json.specs.Variants.{data_enum_codec, enum_codec, holding, holds, holds_fields, Payload, row, unwritten, Variant, word}
use Rattle.naga_ir.specs.declared.statement.RayQueryFunction.{RayQueryFunction}
use Rattle.naga_ir.specs.declared.statement.RayQueryFunction.TheVariants as ray_query_function
use Rattle.naga_ir.specs.declared.statement.RayPipelineFunction.{RayPipelineFunction}
use Rattle.naga_ir.specs.declared.statement.RayPipelineFunction.TheVariants as ray_pipeline_function
use Rattle.naga_json.specs.StatementValue.{call, jump, plain, StatementValue}
use Rattle.naga_ir.specs.Tree.{break, continue, kill, return}
use Rattle.naga_ir.specs.declared.statement.Statement.TheVariants as statement
use Rattle.naga_json.specs.derived.Expression.{atomic_function_codec, cooperative_data_codec, gather_mode_codec}
use Rattle.naga_json.specs.derived.Kinds.{collective_operation_codec, subgroup_operation_codec}

-- an `Initialize`
abbrev pub ray_query_function_initialize : Variant RayQueryFunction
ray_query_function_initialize =
    holds_fields (codes "Initialize")
    (field (codes "acceleration_structure") handle_codec (field (codes "descriptor") handle_codec no_fields))
    (λ parts. ray_query_function.Initialize parts.0 parts.1.0)

-- a `Proceed`
abbrev pub ray_query_function_proceed : Variant RayQueryFunction
ray_query_function_proceed =
    holds_fields (codes "Proceed")
    (field (codes "result") handle_codec no_fields)
    (λ parts. ray_query_function.Proceed parts.0)

-- a `GenerateIntersection`
abbrev pub ray_query_function_generate_intersection : Variant RayQueryFunction
ray_query_function_generate_intersection =
    holds_fields (codes "GenerateIntersection")
    (field (codes "hit_t") handle_codec no_fields)
    (λ parts. ray_query_function.GenerateIntersection parts.0)

-- the variants of `RayQueryFunction` that are names alone
abbrev pub ray_query_function_names : List (List ℕ × RayQueryFunction)
ray_query_function_names =
    (codes "ConfirmIntersection", ray_query_function.ConfirmIntersection) ∷
    (codes "Terminate", ray_query_function.Terminate) ∷
    []

-- the variants of `RayQueryFunction` that contain data
abbrev pub ray_query_function_rows : Json → List (List ℕ × Option RayQueryFunction)
ray_query_function_rows held =
    row ray_query_function_initialize held ∷
    row ray_query_function_proceed held ∷
    row ray_query_function_generate_intersection held ∷
    []

-- how a `RayQueryFunction` is written
abbrev pub ray_query_function_payload : RayQueryFunction → Payload
ray_query_function_payload (ray_query_function.Initialize acceleration_structure descriptor) =
    holding ray_query_function_initialize (acceleration_structure, (descriptor, tt))
ray_query_function_payload (ray_query_function.Proceed result) = holding ray_query_function_proceed (result, tt)
ray_query_function_payload (ray_query_function.GenerateIntersection hit_t) =
    holding ray_query_function_generate_intersection (hit_t, tt)
ray_query_function_payload ray_query_function.ConfirmIntersection = word (codes "ConfirmIntersection")
ray_query_function_payload ray_query_function.Terminate = word (codes "Terminate")

-- a `RayQueryFunction`
abbrev pub ray_query_function_codec : Codec RayQueryFunction
ray_query_function_codec = enum_codec ray_query_function_names ray_query_function_rows ray_query_function_payload

-- a `TraceRay`
abbrev pub ray_pipeline_function_trace_ray : Variant RayPipelineFunction
ray_pipeline_function_trace_ray =
    holds_fields (codes "TraceRay")
    (field (codes "acceleration_structure") handle_codec (
    field (codes "descriptor") handle_codec (
    field (codes "payload") handle_codec no_fields)))
    (λ parts. ray_pipeline_function.TraceRay parts.0 parts.1.0 parts.1.1.0)

-- the variants of `RayPipelineFunction` that contain data
abbrev pub ray_pipeline_function_rows : Json → List (List ℕ × Option RayPipelineFunction)
ray_pipeline_function_rows held =
    row ray_pipeline_function_trace_ray held ∷
    []

-- how a `RayPipelineFunction` is written
abbrev pub ray_pipeline_function_payload : RayPipelineFunction → Payload
ray_pipeline_function_payload (ray_pipeline_function.TraceRay acceleration_structure descriptor payload) =
    holding ray_pipeline_function_trace_ray (acceleration_structure, (descriptor, (payload, tt)))

-- a `RayPipelineFunction`
abbrev pub ray_pipeline_function_codec : Codec RayPipelineFunction
ray_pipeline_function_codec = data_enum_codec ray_pipeline_function_rows ray_pipeline_function_payload

-- an `Emit`
abbrev pub statement_emit : Variant StatementValue
statement_emit = holds (codes "Emit") range_codec (λ value. plain (statement.Emit value))

-- a `Return`
abbrev pub statement_return : Variant StatementValue
statement_return =
    holds_fields (codes "Return")
    (optional_field (codes "value") handle_codec no_fields)
    (λ parts. jump (return parts.0))

-- a `ControlBarrier`
abbrev pub statement_control_barrier : Variant StatementValue
statement_control_barrier =
    holds (codes "ControlBarrier") barrier_codec (λ value. plain (statement.ControlBarrier value))

-- a `MemoryBarrier`
abbrev pub statement_memory_barrier : Variant StatementValue
statement_memory_barrier = holds (codes "MemoryBarrier") barrier_codec (λ value. plain (statement.MemoryBarrier value))

-- a `Store`
abbrev pub statement_store : Variant StatementValue
statement_store =
    holds_fields (codes "Store")
    (field (codes "pointer") handle_codec (field (codes "value") handle_codec no_fields))
    (λ parts. plain (statement.Store parts.0 parts.1.0))

-- an `ImageStore`
abbrev pub statement_image_store : Variant StatementValue
statement_image_store =
    holds_fields (codes "ImageStore")
    (field (codes "image") handle_codec (
    field (codes "coordinate") handle_codec (
    optional_field (codes "array_index") handle_codec (
    field (codes "value") handle_codec no_fields))))
    (λ parts. plain (statement.ImageStore parts.0 parts.1.0 parts.1.1.0 parts.1.1.1.0))

-- an `Atomic`
abbrev pub statement_atomic : Variant StatementValue
statement_atomic =
    holds_fields (codes "Atomic")
    (field (codes "pointer") handle_codec (
    field (codes "fun") atomic_function_codec (
    field (codes "value") handle_codec (
    optional_field (codes "result") handle_codec no_fields))))
    (λ parts. plain (statement.Atomic parts.0 parts.1.0 parts.1.1.0 parts.1.1.1.0))

-- an `ImageAtomic`
abbrev pub statement_image_atomic : Variant StatementValue
statement_image_atomic =
    holds_fields (codes "ImageAtomic")
    (field (codes "image") handle_codec (
    field (codes "coordinate") handle_codec (
    optional_field (codes "array_index") handle_codec (
    field (codes "fun") atomic_function_codec (
    field (codes "value") handle_codec no_fields)))))
    (λ parts. plain (statement.ImageAtomic parts.0 parts.1.0 parts.1.1.0 parts.1.1.1.0 parts.1.1.1.1.0))

-- a `WorkGroupUniformLoad`
abbrev pub statement_work_group_uniform_load : Variant StatementValue
statement_work_group_uniform_load =
    holds_fields (codes "WorkGroupUniformLoad")
    (field (codes "pointer") handle_codec (field (codes "result") handle_codec no_fields))
    (λ parts. plain (statement.WorkGroupUniformLoad parts.0 parts.1.0))

-- a `Call`
abbrev pub statement_call : Variant StatementValue
statement_call =
    holds_fields (codes "Call")
    (field (codes "function") handle_codec (
    field (codes "arguments") (list_codec handle_codec) (
    optional_field (codes "result") handle_codec no_fields)))
    (λ parts. call parts.0 parts.1.0 parts.1.1.0)

-- a `RayQuery`
abbrev pub statement_ray_query : Variant StatementValue
statement_ray_query =
    holds_fields (codes "RayQuery")
    (field (codes "query") handle_codec (field (codes "fun") ray_query_function_codec no_fields))
    (λ parts. plain (statement.RayQuery parts.0 parts.1.0))

-- a `RayPipelineFunction`
abbrev pub statement_ray_pipeline_function : Variant StatementValue
statement_ray_pipeline_function =
    holds (codes "RayPipelineFunction") ray_pipeline_function_codec (λ value. plain (statement.RayPipelineFunction value))

-- a `SubgroupBallot`
abbrev pub statement_subgroup_ballot : Variant StatementValue
statement_subgroup_ballot =
    holds_fields (codes "SubgroupBallot")
    (field (codes "result") handle_codec (optional_field (codes "predicate") handle_codec no_fields))
    (λ parts. plain (statement.SubgroupBallot parts.0 parts.1.0))

-- a `SubgroupGather`
abbrev pub statement_subgroup_gather : Variant StatementValue
statement_subgroup_gather =
    holds_fields (codes "SubgroupGather")
    (field (codes "mode") gather_mode_codec (
    field (codes "argument") handle_codec (
    field (codes "result") handle_codec no_fields)))
    (λ parts. plain (statement.SubgroupGather parts.0 parts.1.0 parts.1.1.0))

-- a `SubgroupCollectiveOperation`
abbrev pub statement_subgroup_collective_operation : Variant StatementValue
statement_subgroup_collective_operation =
    holds_fields (codes "SubgroupCollectiveOperation")
    (field (codes "op") subgroup_operation_codec (
    field (codes "collective_op") collective_operation_codec (
    field (codes "argument") handle_codec (
    field (codes "result") handle_codec no_fields))))
    (λ parts. plain (statement.SubgroupCollectiveOperation parts.0 parts.1.0 parts.1.1.0 parts.1.1.1.0))

-- a `CooperativeStore`
abbrev pub statement_cooperative_store : Variant StatementValue
statement_cooperative_store =
    holds_fields (codes "CooperativeStore")
    (field (codes "target") handle_codec (field (codes "data") cooperative_data_codec no_fields))
    (λ parts. plain (statement.CooperativeStore parts.0 parts.1.0))

-- the variants of `Statement` that are names alone
abbrev pub statement_names : List (List ℕ × StatementValue)
statement_names =
    (codes "Break", jump break) ∷
    (codes "Continue", jump continue) ∷
    (codes "Kill", jump kill) ∷
    []

-- the variants of `Statement` that contain data and no block
abbrev pub simple_statement_rows : Json → List (List ℕ × Option StatementValue)
simple_statement_rows held =
    row statement_emit held ∷
    row statement_return held ∷
    row statement_control_barrier held ∷
    row statement_memory_barrier held ∷
    row statement_store held ∷
    row statement_image_store held ∷
    row statement_atomic held ∷
    row statement_image_atomic held ∷
    row statement_work_group_uniform_load held ∷
    row statement_call held ∷
    row statement_ray_query held ∷
    row statement_ray_pipeline_function held ∷
    row statement_subgroup_ballot held ∷
    row statement_subgroup_gather held ∷
    row statement_subgroup_collective_operation held ∷
    row statement_cooperative_store held ∷
    []

-- how a `Statement` is written
abbrev pub simple_statement_payload : StatementValue → Payload
simple_statement_payload (plain (statement.Emit value)) = holding statement_emit value
simple_statement_payload (jump break) = word (codes "Break")
simple_statement_payload (jump continue) = word (codes "Continue")
simple_statement_payload (jump (return value)) = holding statement_return (value, tt)
simple_statement_payload (jump kill) = word (codes "Kill")
simple_statement_payload (plain (statement.ControlBarrier value)) = holding statement_control_barrier value
simple_statement_payload (plain (statement.MemoryBarrier value)) = holding statement_memory_barrier value
simple_statement_payload (plain (statement.Store pointer value)) = holding statement_store (pointer, (value, tt))
simple_statement_payload (plain (statement.ImageStore image coordinate array_index value)) =
    holding statement_image_store (image, (coordinate, (array_index, (value, tt))))
simple_statement_payload (plain (statement.Atomic pointer fun value result)) =
    holding statement_atomic (pointer, (fun, (value, (result, tt))))
simple_statement_payload (plain (statement.ImageAtomic image coordinate array_index fun value)) =
    holding statement_image_atomic (image, (coordinate, (array_index, (fun, (value, tt)))))
simple_statement_payload (plain (statement.WorkGroupUniformLoad pointer result)) =
    holding statement_work_group_uniform_load (pointer, (result, tt))
simple_statement_payload (call function arguments result) = holding statement_call (function, (arguments, (result, tt)))
simple_statement_payload (plain (statement.RayQuery query fun)) = holding statement_ray_query (query, (fun, tt))
simple_statement_payload (plain (statement.RayPipelineFunction value)) = holding statement_ray_pipeline_function value
simple_statement_payload (plain (statement.SubgroupBallot result predicate)) =
    holding statement_subgroup_ballot (result, (predicate, tt))
simple_statement_payload (plain (statement.SubgroupGather mode argument result)) =
    holding statement_subgroup_gather (mode, (argument, (result, tt)))
simple_statement_payload (plain (statement.SubgroupCollectiveOperation op collective_op argument result)) =
    holding statement_subgroup_collective_operation (op, (collective_op, (argument, (result, tt))))
simple_statement_payload (plain (statement.CooperativeStore target data')) =
    holding statement_cooperative_store (target, (data', tt))
simple_statement_payload other = unwritten
