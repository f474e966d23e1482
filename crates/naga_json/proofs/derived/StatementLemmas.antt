-- Made by tests/derive from the declarations of naga_kinds and naga_ir.
-- Values whose types are declared in the module `statement` are read as they are written.
use Rattle.std.proofs.Common.{refl}
use Rattle.std.specs.List.{AllByRecursion}
use Rattle.json.specs.Json.{Json}
use Rattle.naga_json.specs.Block.{statement_codec}
use Rattle.naga_json.specs.Codec.{Codec}
use Rattle.naga_json.specs.Lawful.{Gives, IsRead, Lawful}
use Rattle.naga_json.specs.StatementValue.{BlockValue, call, jump, plain, StatementValue}
use Rattle.naga_json.proofs.CodecLemmas.{lawful-handle}
use Rattle.naga_json.proofs.FieldsLemmas.{contains, distinct, lawful-field, lawful-no_fields, lawful-optional_field}
use Rattle.naga_json.proofs.FlagSetsLemmas.{lawful-barrier}
use Rattle.naga_json.proofs.ListsLemmas.{lawful-list}
use Rattle.naga_json.proofs.RangeLemmas.{lawful-range}
use Rattle.naga_json.proofs.VariantsLemmas.{gives-data_enum, gives-enum, is_word, lawful-holds, lawful-holds_fields, LawfulVariant}
use Rattle.naga_ir.specs.declared.statement.RayQueryFunction.{RayQueryFunction}
use Rattle.naga_ir.specs.declared.statement.RayQueryFunction.TheVariants as ray_query_function
use Rattle.naga_ir.specs.declared.statement.RayPipelineFunction.{RayPipelineFunction}
use Rattle.naga_ir.specs.declared.statement.RayPipelineFunction.TheVariants as ray_pipeline_function
use Rattle.naga_ir.specs.Tree.{break, continue, kill, return}
use Rattle.naga_ir.specs.declared.statement.Statement.TheVariants as statement
use Rattle.naga_json.specs.derived.Statement.{ray_pipeline_function_codec, ray_pipeline_function_rows, ray_pipeline_function_trace_ray, ray_query_function_codec, ray_query_function_generate_intersection, ray_query_function_initialize, ray_query_function_names, ray_query_function_proceed, ray_query_function_rows, simple_statement_payload, simple_statement_rows, statement_atomic, statement_call, statement_control_barrier, statement_cooperative_store, statement_emit, statement_image_atomic, statement_image_store, statement_memory_barrier, statement_ray_pipeline_function, statement_ray_query, statement_return, statement_store, statement_subgroup_ballot, statement_subgroup_collective_operation, statement_subgroup_gather, statement_work_group_uniform_load}
use Rattle.naga_json.proofs.derived.ExpressionLemmas.{lawful-atomic_function, lawful-cooperative_data, lawful-gather_mode}
use Rattle.naga_json.proofs.derived.KindsLemmas.{lawful-collective_operation, lawful-subgroup_operation}

lawful-ray_query_function_initialize : LawfulVariant ray_query_function_initialize
unfolding distinct contains
lawful-ray_query_function_initialize = lawful-holds_fields _ _ _ (lawful-field _ _ _ lawful-handle (lawful-field _ _ _ lawful-handle lawful-no_fields)) refl

lawful-ray_query_function_proceed : LawfulVariant ray_query_function_proceed
unfolding distinct contains
lawful-ray_query_function_proceed = lawful-holds_fields _ _ _ (lawful-field _ _ _ lawful-handle lawful-no_fields) refl

lawful-ray_query_function_generate_intersection : LawfulVariant ray_query_function_generate_intersection
unfolding distinct contains
lawful-ray_query_function_generate_intersection = lawful-holds_fields _ _ _ (lawful-field _ _ _ lawful-handle lawful-no_fields) refl

pub lawful-ray_query_function : Lawful ray_query_function_codec
lawful-ray_query_function = record { reads = reads; gives = gives-enum ray_query_function_codec.Fits ray_query_function_names ray_query_function_rows (search) each }
  where
    reads : (value : RayQueryFunction) → ray_query_function_codec.Fits value → IsRead ray_query_function_codec.decode value (ray_query_function_codec.encode value)
    reads (ray_query_function.Initialize acceleration_structure descriptor) fits = lawful-ray_query_function_initialize.reads (acceleration_structure, (descriptor, tt)) fits ray_query_function_codec.decode (λ held. refl)
    reads (ray_query_function.Proceed result) fits = lawful-ray_query_function_proceed.reads (result, tt) fits ray_query_function_codec.decode (λ held. refl)
    reads (ray_query_function.GenerateIntersection hit_t) fits = lawful-ray_query_function_generate_intersection.reads (hit_t, tt) fits ray_query_function_codec.decode (λ held. refl)
    reads ray_query_function.ConfirmIntersection fits = is_word refl
    reads ray_query_function.Terminate fits = is_word refl

    each : (held : Json) → AllByRecursion (λ row. Gives ray_query_function_codec.Fits row.1) (ray_query_function_rows held)
    each held = (lawful-ray_query_function_initialize.gives ray_query_function_codec.Fits (λ parts fits. fits) held, (lawful-ray_query_function_proceed.gives ray_query_function_codec.Fits (λ parts fits. fits) held, (lawful-ray_query_function_generate_intersection.gives ray_query_function_codec.Fits (λ parts fits. fits) held, tt)))

lawful-ray_pipeline_function_trace_ray : LawfulVariant ray_pipeline_function_trace_ray
unfolding distinct contains
lawful-ray_pipeline_function_trace_ray = lawful-holds_fields _ _ _ (lawful-field _ _ _ lawful-handle (lawful-field _ _ _ lawful-handle (lawful-field _ _ _ lawful-handle lawful-no_fields))) refl

pub lawful-ray_pipeline_function : Lawful ray_pipeline_function_codec
lawful-ray_pipeline_function = record { reads = reads; gives = gives-data_enum ray_pipeline_function_codec.Fits ray_pipeline_function_rows each }
  where
    reads : (value : RayPipelineFunction) → ray_pipeline_function_codec.Fits value → IsRead ray_pipeline_function_codec.decode value (ray_pipeline_function_codec.encode value)
    reads (ray_pipeline_function.TraceRay acceleration_structure descriptor payload) fits = lawful-ray_pipeline_function_trace_ray.reads (acceleration_structure, (descriptor, (payload, tt))) fits ray_pipeline_function_codec.decode (λ held. refl)

    each : (held : Json) → AllByRecursion (λ row. Gives ray_pipeline_function_codec.Fits row.1) (ray_pipeline_function_rows held)
    each held = (lawful-ray_pipeline_function_trace_ray.gives ray_pipeline_function_codec.Fits (λ parts fits. fits) held, tt)

lawful-statement_emit : LawfulVariant statement_emit
lawful-statement_emit = lawful-holds _ _ _ lawful-range

lawful-statement_return : LawfulVariant statement_return
unfolding distinct contains
lawful-statement_return = lawful-holds_fields _ _ _ (lawful-optional_field _ _ _ lawful-handle lawful-no_fields) refl

lawful-statement_control_barrier : LawfulVariant statement_control_barrier
lawful-statement_control_barrier = lawful-holds _ _ _ lawful-barrier

lawful-statement_memory_barrier : LawfulVariant statement_memory_barrier
lawful-statement_memory_barrier = lawful-holds _ _ _ lawful-barrier

lawful-statement_store : LawfulVariant statement_store
unfolding distinct contains
lawful-statement_store = lawful-holds_fields _ _ _ (lawful-field _ _ _ lawful-handle (lawful-field _ _ _ lawful-handle lawful-no_fields)) refl

lawful-statement_image_store : LawfulVariant statement_image_store
unfolding distinct contains
lawful-statement_image_store = lawful-holds_fields _ _ _ (lawful-field _ _ _ lawful-handle (lawful-field _ _ _ lawful-handle (lawful-optional_field _ _ _ lawful-handle (lawful-field _ _ _ lawful-handle lawful-no_fields)))) refl

lawful-statement_atomic : LawfulVariant statement_atomic
unfolding distinct contains
lawful-statement_atomic = lawful-holds_fields _ _ _ (lawful-field _ _ _ lawful-handle (lawful-field _ _ _ lawful-atomic_function (lawful-field _ _ _ lawful-handle (lawful-optional_field _ _ _ lawful-handle lawful-no_fields)))) refl

lawful-statement_image_atomic : LawfulVariant statement_image_atomic
unfolding distinct contains
lawful-statement_image_atomic = lawful-holds_fields _ _ _ (lawful-field _ _ _ lawful-handle (lawful-field _ _ _ lawful-handle (lawful-optional_field _ _ _ lawful-handle (lawful-field _ _ _ lawful-atomic_function (lawful-field _ _ _ lawful-handle lawful-no_fields))))) refl

lawful-statement_work_group_uniform_load : LawfulVariant statement_work_group_uniform_load
unfolding distinct contains
lawful-statement_work_group_uniform_load = lawful-holds_fields _ _ _ (lawful-field _ _ _ lawful-handle (lawful-field _ _ _ lawful-handle lawful-no_fields)) refl

lawful-statement_call : LawfulVariant statement_call
unfolding distinct contains
lawful-statement_call = lawful-holds_fields _ _ _ (lawful-field _ _ _ lawful-handle (lawful-field _ _ _ (lawful-list _ lawful-handle) (lawful-optional_field _ _ _ lawful-handle lawful-no_fields))) refl

lawful-statement_ray_query : LawfulVariant statement_ray_query
unfolding distinct contains
lawful-statement_ray_query = lawful-holds_fields _ _ _ (lawful-field _ _ _ lawful-handle (lawful-field _ _ _ lawful-ray_query_function lawful-no_fields)) refl

lawful-statement_ray_pipeline_function : LawfulVariant statement_ray_pipeline_function
lawful-statement_ray_pipeline_function = lawful-holds _ _ _ lawful-ray_pipeline_function

lawful-statement_subgroup_ballot : LawfulVariant statement_subgroup_ballot
unfolding distinct contains
lawful-statement_subgroup_ballot = lawful-holds_fields _ _ _ (lawful-field _ _ _ lawful-handle (lawful-optional_field _ _ _ lawful-handle lawful-no_fields)) refl

lawful-statement_subgroup_gather : LawfulVariant statement_subgroup_gather
unfolding distinct contains
lawful-statement_subgroup_gather = lawful-holds_fields _ _ _ (lawful-field _ _ _ lawful-gather_mode (lawful-field _ _ _ lawful-handle (lawful-field _ _ _ lawful-handle lawful-no_fields))) refl

lawful-statement_subgroup_collective_operation : LawfulVariant statement_subgroup_collective_operation
unfolding distinct contains
lawful-statement_subgroup_collective_operation = lawful-holds_fields _ _ _ (lawful-field _ _ _ lawful-subgroup_operation (lawful-field _ _ _ lawful-collective_operation (lawful-field _ _ _ lawful-handle (lawful-field _ _ _ lawful-handle lawful-no_fields)))) refl

lawful-statement_cooperative_store : LawfulVariant statement_cooperative_store
unfolding distinct contains
lawful-statement_cooperative_store = lawful-holds_fields _ _ _ (lawful-field _ _ _ lawful-handle (lawful-field _ _ _ lawful-cooperative_data lawful-no_fields)) refl

module _ (block : Codec BlockValue) where
  pub reads-simple_statement : (value : StatementValue) → (simple_statement_payload value).fits → IsRead (statement_codec block).decode value (simple_statement_payload value).json
  reads-simple_statement (plain (statement.Emit value)) fits = lawful-statement_emit.reads value fits (statement_codec block).decode (λ held. refl)
  reads-simple_statement (jump break) fits = is_word refl
  reads-simple_statement (jump continue) fits = is_word refl
  reads-simple_statement (jump (return value)) fits = lawful-statement_return.reads (value, tt) fits (statement_codec block).decode (λ held. refl)
  reads-simple_statement (jump kill) fits = is_word refl
  reads-simple_statement (plain (statement.ControlBarrier value)) fits = lawful-statement_control_barrier.reads value fits (statement_codec block).decode (λ held. refl)
  reads-simple_statement (plain (statement.MemoryBarrier value)) fits = lawful-statement_memory_barrier.reads value fits (statement_codec block).decode (λ held. refl)
  reads-simple_statement (plain (statement.Store pointer value)) fits = lawful-statement_store.reads (pointer, (value, tt)) fits (statement_codec block).decode (λ held. refl)
  reads-simple_statement (plain (statement.ImageStore image coordinate array_index value)) fits = lawful-statement_image_store.reads (image, (coordinate, (array_index, (value, tt)))) fits (statement_codec block).decode (λ held. refl)
  reads-simple_statement (plain (statement.Atomic pointer fun value result)) fits = lawful-statement_atomic.reads (pointer, (fun, (value, (result, tt)))) fits (statement_codec block).decode (λ held. refl)
  reads-simple_statement (plain (statement.ImageAtomic image coordinate array_index fun value)) fits = lawful-statement_image_atomic.reads (image, (coordinate, (array_index, (fun, (value, tt))))) fits (statement_codec block).decode (λ held. refl)
  reads-simple_statement (plain (statement.WorkGroupUniformLoad pointer result)) fits = lawful-statement_work_group_uniform_load.reads (pointer, (result, tt)) fits (statement_codec block).decode (λ held. refl)
  reads-simple_statement (call function arguments result) fits = lawful-statement_call.reads (function, (arguments, (result, tt))) fits (statement_codec block).decode (λ held. refl)
  reads-simple_statement (plain (statement.RayQuery query fun)) fits = lawful-statement_ray_query.reads (query, (fun, tt)) fits (statement_codec block).decode (λ held. refl)
  reads-simple_statement (plain (statement.RayPipelineFunction value)) fits = lawful-statement_ray_pipeline_function.reads value fits (statement_codec block).decode (λ held. refl)
  reads-simple_statement (plain (statement.SubgroupBallot result predicate)) fits = lawful-statement_subgroup_ballot.reads (result, (predicate, tt)) fits (statement_codec block).decode (λ held. refl)
  reads-simple_statement (plain (statement.SubgroupGather mode argument result)) fits = lawful-statement_subgroup_gather.reads (mode, (argument, (result, tt))) fits (statement_codec block).decode (λ held. refl)
  reads-simple_statement (plain (statement.SubgroupCollectiveOperation op collective_op argument result)) fits = lawful-statement_subgroup_collective_operation.reads (op, (collective_op, (argument, (result, tt)))) fits (statement_codec block).decode (λ held. refl)
  reads-simple_statement (plain (statement.CooperativeStore target data')) fits = lawful-statement_cooperative_store.reads (target, (data', tt)) fits (statement_codec block).decode (λ held. refl)
  reads-simple_statement other fits = absurd fits

  pub each-simple_statement : (held : Json) → AllByRecursion (λ row. Gives (statement_codec block).Fits row.1) (simple_statement_rows held)
  each-simple_statement held = (lawful-statement_emit.gives (statement_codec block).Fits (λ parts fits. fits) held, (lawful-statement_return.gives (statement_codec block).Fits (λ parts fits. fits) held, (lawful-statement_control_barrier.gives (statement_codec block).Fits (λ parts fits. fits) held, (lawful-statement_memory_barrier.gives (statement_codec block).Fits (λ parts fits. fits) held, (lawful-statement_store.gives (statement_codec block).Fits (λ parts fits. fits) held, (lawful-statement_image_store.gives (statement_codec block).Fits (λ parts fits. fits) held, (lawful-statement_atomic.gives (statement_codec block).Fits (λ parts fits. fits) held, (lawful-statement_image_atomic.gives (statement_codec block).Fits (λ parts fits. fits) held, (lawful-statement_work_group_uniform_load.gives (statement_codec block).Fits (λ parts fits. fits) held, (lawful-statement_call.gives (statement_codec block).Fits (λ parts fits. fits) held, (lawful-statement_ray_query.gives (statement_codec block).Fits (λ parts fits. fits) held, (lawful-statement_ray_pipeline_function.gives (statement_codec block).Fits (λ parts fits. fits) held, (lawful-statement_subgroup_ballot.gives (statement_codec block).Fits (λ parts fits. fits) held, (lawful-statement_subgroup_gather.gives (statement_codec block).Fits (λ parts fits. fits) held, (lawful-statement_subgroup_collective_operation.gives (statement_codec block).Fits (λ parts fits. fits) held, (lawful-statement_cooperative_store.gives (statement_codec block).Fits (λ parts fits. fits) held, tt))))))))))))))))
