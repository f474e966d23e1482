-- Made by tests/derive from the declarations of naga_kinds and naga_ir.
use Rattle.std.proofs.Common.{drop, map, refl, ℕ}
use Rattle.naga_json.specs.Codec.{handle_codec}
use Rattle.naga_json.specs.Lists.{list_codec}
use Rattle.naga_json.specs.Variants.{held_in}
use Rattle.naga_schema.specs.derived.Types.{shape_of}
use Rattle.naga_schema.specs.Tables.{variant_of}
use Rattle.naga_schema.specs.declared.derived.statement.TheConstants.{STATEMENT_VARIANTS}
use Rattle.naga_schema.specs.declared.derived.type_name.TypeName.TheVariants as type
use Rattle.naga_schema.proofs.AgreesLemmas.{Agrees, agrees-as, agrees-data_enum, agrees-enum, agrees-field, agrees-no_rows, agrees-none, agrees-optional_field, agrees-row, agrees-struct, AgreesRows}
use Rattle.naga_schema.proofs.RangeAgree.{agrees-Range}
use Rattle.naga_json.specs.derived.Expression.{atomic_function_codec, cooperative_data_codec, gather_mode_codec}
use Rattle.naga_json.specs.derived.Statement.{ray_pipeline_function_codec, ray_pipeline_function_rows, ray_pipeline_function_trace_ray, ray_query_function_codec, ray_query_function_generate_intersection, ray_query_function_initialize, ray_query_function_names, ray_query_function_proceed, ray_query_function_rows, simple_statement_rows, statement_atomic, statement_call, statement_control_barrier, statement_cooperative_store, statement_emit, statement_image_atomic, statement_image_store, statement_memory_barrier, statement_ray_pipeline_function, statement_ray_query, statement_return, statement_store, statement_subgroup_ballot, statement_subgroup_collective_operation, statement_subgroup_gather, statement_work_group_uniform_load}
use Rattle.naga_json.specs.derived.Kinds.{collective_operation_codec, subgroup_operation_codec}
use Rattle.naga_schema.proofs.LeavesAgree.{agrees-barrier, agrees-handle}
use Rattle.naga_schema.proofs.derived_lemmas.KindLeavesAgree.{agrees-collective_operation, agrees-subgroup_operation}
use Rattle.naga_schema.proofs.derived_lemmas.ExpressionAgree.{agrees-AtomicFunction, agrees-CooperativeData, agrees-GatherMode, agrees-Handles}

pub agrees-RayQueryFunctionInitialize : (depth : ℕ) → Agrees depth type.RayQueryFunctionInitialize (held_in ray_query_function_initialize)
unfolding shape_of
agrees-RayQueryFunctionInitialize depth =
    agrees-struct depth type.RayQueryFunctionInitialize _ _ _ refl refl
    (agrees-field depth _ _ handle_codec _ _ (agrees-handle depth)
    (agrees-field depth _ _ handle_codec _ _ (agrees-handle depth)
    (agrees-none depth)))

pub agrees-RayQueryFunctionProceed : (depth : ℕ) → Agrees depth type.RayQueryFunctionProceed (held_in ray_query_function_proceed)
unfolding shape_of
agrees-RayQueryFunctionProceed depth =
    agrees-struct depth type.RayQueryFunctionProceed _ _ _ refl refl
    (agrees-field depth _ _ handle_codec _ _ (agrees-handle depth)
    (agrees-none depth))

pub agrees-RayQueryFunctionGenerateIntersection : (depth : ℕ) → Agrees depth type.RayQueryFunctionGenerateIntersection (held_in ray_query_function_generate_intersection)
unfolding shape_of
agrees-RayQueryFunctionGenerateIntersection depth =
    agrees-struct depth type.RayQueryFunctionGenerateIntersection _ _ _ refl refl
    (agrees-field depth _ _ handle_codec _ _ (agrees-handle depth)
    (agrees-none depth))

pub agrees-RayQueryFunction : (depth : ℕ) → Agrees depth type.RayQueryFunction ray_query_function_codec.decode
unfolding shape_of
agrees-RayQueryFunction depth =
    agrees-enum depth type.RayQueryFunction _ _ ray_query_function_names ray_query_function_rows refl refl
    (agrees-row depth _ _ (held_in ray_query_function_initialize) _ _ (agrees-RayQueryFunctionInitialize depth)
    (agrees-row depth _ _ (held_in ray_query_function_proceed) _ _ (agrees-RayQueryFunctionProceed depth)
    (agrees-row depth _ _ (held_in ray_query_function_generate_intersection) _ _ (agrees-RayQueryFunctionGenerateIntersection depth)
    (agrees-no_rows depth))))

pub agrees-RayPipelineFunctionTraceRay : (depth : ℕ) → Agrees depth type.RayPipelineFunctionTraceRay (held_in ray_pipeline_function_trace_ray)
unfolding shape_of
agrees-RayPipelineFunctionTraceRay depth =
    agrees-struct depth type.RayPipelineFunctionTraceRay _ _ _ refl refl
    (agrees-field depth _ _ handle_codec _ _ (agrees-handle depth)
    (agrees-field depth _ _ handle_codec _ _ (agrees-handle depth)
    (agrees-field depth _ _ handle_codec _ _ (agrees-handle depth)
    (agrees-none depth))))

pub agrees-RayPipelineFunction : (depth : ℕ) → Agrees depth type.RayPipelineFunction ray_pipeline_function_codec.decode
unfolding shape_of
agrees-RayPipelineFunction depth =
    agrees-data_enum depth type.RayPipelineFunction _ ray_pipeline_function_rows refl
    (agrees-row depth _ _ (held_in ray_pipeline_function_trace_ray) _ _ (agrees-RayPipelineFunctionTraceRay depth)
    (agrees-no_rows depth))

pub agrees-StatementReturn : (depth : ℕ) → Agrees depth type.StatementReturn (held_in statement_return)
unfolding shape_of
agrees-StatementReturn depth =
    agrees-struct depth type.StatementReturn _ _ _ refl refl
    (agrees-optional_field depth _ _ handle_codec _ _ (agrees-handle depth)
    (agrees-none depth))

pub agrees-StatementStore : (depth : ℕ) → Agrees depth type.StatementStore (held_in statement_store)
unfolding shape_of
agrees-StatementStore depth =
    agrees-struct depth type.StatementStore _ _ _ refl refl
    (agrees-field depth _ _ handle_codec _ _ (agrees-handle depth)
    (agrees-field depth _ _ handle_codec _ _ (agrees-handle depth)
    (agrees-none depth)))

pub agrees-StatementImageStore : (depth : ℕ) → Agrees depth type.StatementImageStore (held_in statement_image_store)
unfolding shape_of
agrees-StatementImageStore depth =
    agrees-struct depth type.StatementImageStore _ _ _ refl refl
    (agrees-field depth _ _ handle_codec _ _ (agrees-handle depth)
    (agrees-field depth _ _ handle_codec _ _ (agrees-handle depth)
    (agrees-optional_field depth _ _ handle_codec _ _ (agrees-handle depth)
    (agrees-field depth _ _ handle_codec _ _ (agrees-handle depth)
    (agrees-none depth)))))

pub agrees-StatementAtomic : (depth : ℕ) → Agrees depth type.StatementAtomic (held_in statement_atomic)
unfolding shape_of
agrees-StatementAtomic depth =
    agrees-struct depth type.StatementAtomic _ _ _ refl refl
    (agrees-field depth _ _ handle_codec _ _ (agrees-handle depth)
    (agrees-field depth _ _ atomic_function_codec _ _ (agrees-AtomicFunction depth)
    (agrees-field depth _ _ handle_codec _ _ (agrees-handle depth)
    (agrees-optional_field depth _ _ handle_codec _ _ (agrees-handle depth)
    (agrees-none depth)))))

pub agrees-StatementImageAtomic : (depth : ℕ) → Agrees depth type.StatementImageAtomic (held_in statement_image_atomic)
unfolding shape_of
agrees-StatementImageAtomic depth =
    agrees-struct depth type.StatementImageAtomic _ _ _ refl refl
    (agrees-field depth _ _ handle_codec _ _ (agrees-handle depth)
    (agrees-field depth _ _ handle_codec _ _ (agrees-handle depth)
    (agrees-optional_field depth _ _ handle_codec _ _ (agrees-handle depth)
    (agrees-field depth _ _ atomic_function_codec _ _ (agrees-AtomicFunction depth)
    (agrees-field depth _ _ handle_codec _ _ (agrees-handle depth)
    (agrees-none depth))))))

pub agrees-StatementWorkGroupUniformLoad : (depth : ℕ) → Agrees depth type.StatementWorkGroupUniformLoad (held_in statement_work_group_uniform_load)
unfolding shape_of
agrees-StatementWorkGroupUniformLoad depth =
    agrees-struct depth type.StatementWorkGroupUniformLoad _ _ _ refl refl
    (agrees-field depth _ _ handle_codec _ _ (agrees-handle depth)
    (agrees-field depth _ _ handle_codec _ _ (agrees-handle depth)
    (agrees-none depth)))

pub agrees-StatementCall : (depth : ℕ) → Agrees depth type.StatementCall (held_in statement_call)
unfolding shape_of
agrees-StatementCall depth =
    agrees-struct depth type.StatementCall _ _ _ refl refl
    (agrees-field depth _ _ handle_codec _ _ (agrees-handle depth)
    (agrees-field depth _ _ (list_codec handle_codec) _ _ (agrees-Handles depth)
    (agrees-optional_field depth _ _ handle_codec _ _ (agrees-handle depth)
    (agrees-none depth))))

pub agrees-StatementRayQuery : (depth : ℕ) → Agrees depth type.StatementRayQuery (held_in statement_ray_query)
unfolding shape_of
agrees-StatementRayQuery depth =
    agrees-struct depth type.StatementRayQuery _ _ _ refl refl
    (agrees-field depth _ _ handle_codec _ _ (agrees-handle depth)
    (agrees-field depth _ _ ray_query_function_codec _ _ (agrees-RayQueryFunction depth)
    (agrees-none depth)))

pub agrees-StatementSubgroupBallot : (depth : ℕ) → Agrees depth type.StatementSubgroupBallot (held_in statement_subgroup_ballot)
unfolding shape_of
agrees-StatementSubgroupBallot depth =
    agrees-struct depth type.StatementSubgroupBallot _ _ _ refl refl
    (agrees-field depth _ _ handle_codec _ _ (agrees-handle depth)
    (agrees-optional_field depth _ _ handle_codec _ _ (agrees-handle depth)
    (agrees-none depth)))

pub agrees-StatementSubgroupGather : (depth : ℕ) → Agrees depth type.StatementSubgroupGather (held_in statement_subgroup_gather)
unfolding shape_of
agrees-StatementSubgroupGather depth =
    agrees-struct depth type.StatementSubgroupGather _ _ _ refl refl
    (agrees-field depth _ _ gather_mode_codec _ _ (agrees-GatherMode depth)
    (agrees-field depth _ _ handle_codec _ _ (agrees-handle depth)
    (agrees-field depth _ _ handle_codec _ _ (agrees-handle depth)
    (agrees-none depth))))

pub agrees-StatementSubgroupCollectiveOperation : (depth : ℕ) → Agrees depth type.StatementSubgroupCollectiveOperation (held_in statement_subgroup_collective_operation)
unfolding shape_of
agrees-StatementSubgroupCollectiveOperation depth =
    agrees-struct depth type.StatementSubgroupCollectiveOperation _ _ _ refl refl
    (agrees-field depth _ _ subgroup_operation_codec _ _ (agrees-subgroup_operation depth)
    (agrees-field depth _ _ collective_operation_codec _ _ (agrees-collective_operation depth)
    (agrees-field depth _ _ handle_codec _ _ (agrees-handle depth)
    (agrees-field depth _ _ handle_codec _ _ (agrees-handle depth)
    (agrees-none depth)))))

pub agrees-StatementCooperativeStore : (depth : ℕ) → Agrees depth type.StatementCooperativeStore (held_in statement_cooperative_store)
unfolding shape_of
agrees-StatementCooperativeStore depth =
    agrees-struct depth type.StatementCooperativeStore _ _ _ refl refl
    (agrees-field depth _ _ handle_codec _ _ (agrees-handle depth)
    (agrees-field depth _ _ cooperative_data_codec _ _ (agrees-CooperativeData depth)
    (agrees-none depth)))

-- the variants of `Statement` that contain data and no block
pub agrees-simple_statement : (depth : ℕ) → AgreesRows depth (drop 4 (map variant_of STATEMENT_VARIANTS)) simple_statement_rows
agrees-simple_statement depth =
    (agrees-row depth _ _ (held_in statement_emit) _ _ (agrees-as depth _ _ _ (agrees-Range depth))
    (agrees-row depth _ _ (held_in statement_return) _ _ (agrees-StatementReturn depth)
    (agrees-row depth _ _ (held_in statement_control_barrier) _ _ (agrees-as depth _ _ _ (agrees-barrier depth))
    (agrees-row depth _ _ (held_in statement_memory_barrier) _ _ (agrees-as depth _ _ _ (agrees-barrier depth))
    (agrees-row depth _ _ (held_in statement_store) _ _ (agrees-StatementStore depth)
    (agrees-row depth _ _ (held_in statement_image_store) _ _ (agrees-StatementImageStore depth)
    (agrees-row depth _ _ (held_in statement_atomic) _ _ (agrees-StatementAtomic depth)
    (agrees-row depth _ _ (held_in statement_image_atomic) _ _ (agrees-StatementImageAtomic depth)
    (agrees-row depth _ _ (held_in statement_work_group_uniform_load) _ _ (agrees-StatementWorkGroupUniformLoad depth)
    (agrees-row depth _ _ (held_in statement_call) _ _ (agrees-StatementCall depth)
    (agrees-row depth _ _ (held_in statement_ray_query) _ _ (agrees-StatementRayQuery depth)
    (agrees-row depth _ _ (held_in statement_ray_pipeline_function) _ _ (agrees-as depth _ _ _ (agrees-RayPipelineFunction depth))
    (agrees-row depth _ _ (held_in statement_subgroup_ballot) _ _ (agrees-StatementSubgroupBallot depth)
    (agrees-row depth _ _ (held_in statement_subgroup_gather) _ _ (agrees-StatementSubgroupGather depth)
    (agrees-row depth _ _ (held_in statement_subgroup_collective_operation) _ _ (agrees-StatementSubgroupCollectiveOperation depth)
    (agrees-row depth _ _ (held_in statement_cooperative_store) _ _ (agrees-StatementCooperativeStore depth)
    (agrees-no_rows depth)))))))))))))))))
