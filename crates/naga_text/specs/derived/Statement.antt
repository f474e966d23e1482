-- Made by tests/derive from the declarations of naga_kinds and naga_ir.
-- The texts of the enums of `statement`.
use Rattle.std.specs.Prelude.{codes, List, ℕ, ◌++◌}
use Rattle.naga_text.specs.Parts.{barrier_text, loop_words}
use Rattle.naga_text.specs.Words.{flag, word}
use Rattle.naga_kinds.specs.derived.Names.{collective_operation_name, subgroup_operation_name}
use Rattle.naga_text.specs.derived.Expression.{atomic_function_text, gather_mode_text}
use Rattle.naga_ir.specs.declared.statement.RayQueryFunction.{RayQueryFunction}
use Rattle.naga_ir.specs.declared.statement.RayQueryFunction.TheVariants as ray_query_function
use Rattle.naga_ir.specs.declared.statement.Statement.{Statement}
use Rattle.naga_ir.specs.declared.statement.Statement as statement

-- a `RayQueryFunction`, with a space before it
abbrev pub ray_query_function_text : RayQueryFunction → List ℕ
ray_query_function_text (ray_query_function.Initialize acceleration_structure descriptor) = codes " Initialize"
ray_query_function_text (ray_query_function.Proceed result) = codes " Proceed"
ray_query_function_text (ray_query_function.GenerateIntersection hit_t) = codes " GenerateIntersection"
ray_query_function_text ray_query_function.ConfirmIntersection = codes " ConfirmIntersection"
ray_query_function_text ray_query_function.Terminate = codes " Terminate"

-- the name of a statement, and its fields that are neither handles nor blocks
abbrev pub action_text : Statement → List ℕ
action_text (statement.Emit range) = codes "emit"
action_text (statement.Block' shape value) = codes "block"
action_text (statement.If' condition shape accept shape' reject) = codes "if"
action_text (statement.Switch' selector shape cases) = codes "switch"
action_text (statement.Loop' shape body shape' continuing break_if) = loop_words break_if
action_text statement.Break = codes "break"
action_text statement.Continue = codes "continue"
action_text (statement.Return value) = codes "return"
action_text statement.Kill = codes "kill"
action_text (statement.ControlBarrier barrier) = codes "control_barrier" ++ barrier_text barrier
action_text (statement.MemoryBarrier barrier) = codes "memory_barrier" ++ barrier_text barrier
action_text (statement.Store pointer value) = codes "store"
action_text (statement.ImageStore image coordinate array_index value) = codes "image_store"
action_text (statement.Atomic pointer fun value result) = codes "atomic" ++ atomic_function_text fun
action_text (statement.ImageAtomic image coordinate array_index fun value) =
    codes "image_atomic" ++ atomic_function_text fun
action_text (statement.WorkGroupUniformLoad pointer result) = codes "workgroup_uniform_load"
action_text (statement.Call function arguments result) = codes "call"
action_text (statement.RayQuery query fun) = codes "ray_query" ++ ray_query_function_text fun
action_text (statement.RayPipelineFunction ray_pipeline_function) = codes "trace_ray"
action_text (statement.SubgroupBallot result predicate) = codes "subgroup_ballot"
action_text (statement.SubgroupGather mode argument result) = codes "subgroup_gather" ++ gather_mode_text mode
action_text (statement.SubgroupCollectiveOperation op collective_op argument result) =
    codes "subgroup_collective" ++ (word (subgroup_operation_name op) ++ word (collective_operation_name collective_op))
action_text (statement.CooperativeStore target data') =
    codes "cooperative_store" ++ flag data'.row_major (codes "row_major")
