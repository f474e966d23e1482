-- Made by tests/derive from the declarations of naga_kinds and naga_ir.
use Rattle.naga_text.proofs.PiecesLemmas.{OnOk-variant}
use Rattle.naga_text.specs.derived.Statement.{action_text}
use Rattle.naga_text.proofs.derived.statement.push_action.Goals as goal

pub returns-in-Emit : goal.returns-in-Emit
returns-in-Emit c = OnOk-variant action_text c.push.result c.args.text.now c.push.new.self c.args.statement.now _ c.in-Emit.is c.push.ensures

pub returns-in-Block : goal.returns-in-Block
returns-in-Block c = OnOk-variant action_text c.push-in-Block.result c.args.text.now c.push-in-Block.new.self c.args.statement.now _ c.in-Block.is c.push-in-Block.ensures

pub returns-in-If : goal.returns-in-If
returns-in-If c = OnOk-variant action_text c.push-in-If.result c.args.text.now c.push-in-If.new.self c.args.statement.now _ c.in-If.is c.push-in-If.ensures

pub returns-in-Switch : goal.returns-in-Switch
returns-in-Switch c = OnOk-variant action_text c.push-in-Switch.result c.args.text.now c.push-in-Switch.new.self c.args.statement.now _ c.in-Switch.is c.push-in-Switch.ensures

pub returns-in-Loop : goal.returns-in-Loop
returns-in-Loop c = OnOk-variant action_text c.push_loop.result c.args.text.now c.push_loop.new.text c.args.statement.now _ c.in-Loop.is c.push_loop.ensures

pub returns-in-Break : goal.returns-in-Break
returns-in-Break c = OnOk-variant action_text c.push-in-Break.result c.args.text.now c.push-in-Break.new.self c.args.statement.now _ c.in-Break.is c.push-in-Break.ensures

pub returns-in-Continue : goal.returns-in-Continue
returns-in-Continue c = OnOk-variant action_text c.push-in-Continue.result c.args.text.now c.push-in-Continue.new.self c.args.statement.now _ c.in-Continue.is c.push-in-Continue.ensures

pub returns-in-Return : goal.returns-in-Return
returns-in-Return c = OnOk-variant action_text c.push-in-Return.result c.args.text.now c.push-in-Return.new.self c.args.statement.now _ c.in-Return.is c.push-in-Return.ensures

pub returns-in-Kill : goal.returns-in-Kill
returns-in-Kill c = OnOk-variant action_text c.push-in-Kill.result c.args.text.now c.push-in-Kill.new.self c.args.statement.now _ c.in-Kill.is c.push-in-Kill.ensures

pub returns-in-ControlBarrier : goal.returns-in-ControlBarrier
returns-in-ControlBarrier c = OnOk-variant action_text c.push_statement_control_barrier.result c.args.text.now c.push_statement_control_barrier.new.text c.args.statement.now _ c.in-ControlBarrier.is c.push_statement_control_barrier.ensures

pub returns-in-MemoryBarrier : goal.returns-in-MemoryBarrier
returns-in-MemoryBarrier c = OnOk-variant action_text c.push_statement_memory_barrier.result c.args.text.now c.push_statement_memory_barrier.new.text c.args.statement.now _ c.in-MemoryBarrier.is c.push_statement_memory_barrier.ensures

pub returns-in-Store : goal.returns-in-Store
returns-in-Store c = OnOk-variant action_text c.push-in-Store.result c.args.text.now c.push-in-Store.new.self c.args.statement.now _ c.in-Store.is c.push-in-Store.ensures

pub returns-in-ImageStore : goal.returns-in-ImageStore
returns-in-ImageStore c = OnOk-variant action_text c.push-in-ImageStore.result c.args.text.now c.push-in-ImageStore.new.self c.args.statement.now _ c.in-ImageStore.is c.push-in-ImageStore.ensures

pub returns-in-Atomic : goal.returns-in-Atomic
returns-in-Atomic c = OnOk-variant action_text c.push_statement_atomic.result c.args.text.now c.push_statement_atomic.new.text c.args.statement.now _ c.in-Atomic.is c.push_statement_atomic.ensures

pub returns-in-ImageAtomic : goal.returns-in-ImageAtomic
returns-in-ImageAtomic c = OnOk-variant action_text c.push_statement_image_atomic.result c.args.text.now c.push_statement_image_atomic.new.text c.args.statement.now _ c.in-ImageAtomic.is c.push_statement_image_atomic.ensures

pub returns-in-WorkGroupUniformLoad : goal.returns-in-WorkGroupUniformLoad
returns-in-WorkGroupUniformLoad c = OnOk-variant action_text c.push-in-WorkGroupUniformLoad.result c.args.text.now c.push-in-WorkGroupUniformLoad.new.self c.args.statement.now _ c.in-WorkGroupUniformLoad.is c.push-in-WorkGroupUniformLoad.ensures

pub returns-in-Call : goal.returns-in-Call
returns-in-Call c = OnOk-variant action_text c.push-in-Call.result c.args.text.now c.push-in-Call.new.self c.args.statement.now _ c.in-Call.is c.push-in-Call.ensures

pub returns-in-RayQuery : goal.returns-in-RayQuery
returns-in-RayQuery c = OnOk-variant action_text c.push_statement_ray_query.result c.args.text.now c.push_statement_ray_query.new.text c.args.statement.now _ c.in-RayQuery.is c.push_statement_ray_query.ensures

pub returns-in-RayPipelineFunction : goal.returns-in-RayPipelineFunction
returns-in-RayPipelineFunction c = OnOk-variant action_text c.push-in-RayPipelineFunction.result c.args.text.now c.push-in-RayPipelineFunction.new.self c.args.statement.now _ c.in-RayPipelineFunction.is c.push-in-RayPipelineFunction.ensures

pub returns-in-SubgroupBallot : goal.returns-in-SubgroupBallot
returns-in-SubgroupBallot c = OnOk-variant action_text c.push-in-SubgroupBallot.result c.args.text.now c.push-in-SubgroupBallot.new.self c.args.statement.now _ c.in-SubgroupBallot.is c.push-in-SubgroupBallot.ensures

pub returns-in-SubgroupGather : goal.returns-in-SubgroupGather
returns-in-SubgroupGather c = OnOk-variant action_text c.push_statement_subgroup_gather.result c.args.text.now c.push_statement_subgroup_gather.new.text c.args.statement.now _ c.in-SubgroupGather.is c.push_statement_subgroup_gather.ensures

pub returns-in-SubgroupCollectiveOperation : goal.returns-in-SubgroupCollectiveOperation
returns-in-SubgroupCollectiveOperation c = OnOk-variant action_text c.push_statement_subgroup_collective_operation.result c.args.text.now c.push_statement_subgroup_collective_operation.new.text c.args.statement.now _ c.in-SubgroupCollectiveOperation.is c.push_statement_subgroup_collective_operation.ensures

pub returns-in-CooperativeStore : goal.returns-in-CooperativeStore
returns-in-CooperativeStore c = OnOk-variant action_text c.push_flagged.result c.args.text.now c.push_flagged.new.text c.args.statement.now _ c.in-CooperativeStore.is c.push_flagged.ensures
