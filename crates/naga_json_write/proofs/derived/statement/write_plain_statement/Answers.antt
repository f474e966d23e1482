-- Made by tests/derive from the declarations of naga_kinds and naga_ir.
use Rattle.naga_json_write.proofs.derived.statement.write_plain_statement.Goals as goal

pub returns-in-Emit-clause-tokens : goal.returns-in-Emit-clause-tokens
returns-in-Emit-clause-tokens c = rw c.in-Emit.is c.write_holder.ensures.tokens

pub returns-in-ControlBarrier-clause-tokens : goal.returns-in-ControlBarrier-clause-tokens
returns-in-ControlBarrier-clause-tokens c = rw c.in-ControlBarrier.is c.write_holder-in-ControlBarrier.ensures.tokens

pub returns-in-MemoryBarrier-clause-tokens : goal.returns-in-MemoryBarrier-clause-tokens
returns-in-MemoryBarrier-clause-tokens c = rw c.in-MemoryBarrier.is c.write_holder-in-MemoryBarrier.ensures.tokens

pub returns-in-Store-clause-tokens : goal.returns-in-Store-clause-tokens
returns-in-Store-clause-tokens c = rw c.in-Store.is c.write_struct_variant.ensures.tokens

pub returns-in-ImageStore-clause-tokens : goal.returns-in-ImageStore-clause-tokens
returns-in-ImageStore-clause-tokens c = rw c.in-ImageStore.is c.write_struct_variant-in-ImageStore.ensures.tokens

pub returns-in-Atomic-clause-tokens : goal.returns-in-Atomic-clause-tokens
returns-in-Atomic-clause-tokens c = rw c.in-Atomic.is c.write_struct_variant-in-Atomic.ensures.tokens

pub returns-in-ImageAtomic-clause-tokens : goal.returns-in-ImageAtomic-clause-tokens
returns-in-ImageAtomic-clause-tokens c = rw c.in-ImageAtomic.is c.write_struct_variant-in-ImageAtomic.ensures.tokens

pub returns-in-WorkGroupUniformLoad-clause-tokens : goal.returns-in-WorkGroupUniformLoad-clause-tokens
returns-in-WorkGroupUniformLoad-clause-tokens c = rw c.in-WorkGroupUniformLoad.is c.write_struct_variant-in-WorkGroupUniformLoad.ensures.tokens

pub returns-in-Call-clause-tokens : goal.returns-in-Call-clause-tokens
returns-in-Call-clause-tokens c = rw c.in-Call.is c.write_struct_variant-in-Call.ensures.tokens

pub returns-in-RayQuery-clause-tokens : goal.returns-in-RayQuery-clause-tokens
returns-in-RayQuery-clause-tokens c = rw c.in-RayQuery.is c.write_struct_variant-in-RayQuery.ensures.tokens

pub returns-in-RayPipelineFunction-clause-tokens : goal.returns-in-RayPipelineFunction-clause-tokens
returns-in-RayPipelineFunction-clause-tokens c = rw c.in-RayPipelineFunction.is c.write_holder-in-RayPipelineFunction.ensures.tokens

pub returns-in-SubgroupBallot-clause-tokens : goal.returns-in-SubgroupBallot-clause-tokens
returns-in-SubgroupBallot-clause-tokens c = rw c.in-SubgroupBallot.is c.write_struct_variant-in-SubgroupBallot.ensures.tokens

pub returns-in-SubgroupGather-clause-tokens : goal.returns-in-SubgroupGather-clause-tokens
returns-in-SubgroupGather-clause-tokens c = rw c.in-SubgroupGather.is c.write_struct_variant-in-SubgroupGather.ensures.tokens

pub returns-in-SubgroupCollectiveOperation-clause-tokens : goal.returns-in-SubgroupCollectiveOperation-clause-tokens
returns-in-SubgroupCollectiveOperation-clause-tokens c = rw c.in-SubgroupCollectiveOperation.is c.write_struct_variant-in-SubgroupCollectiveOperation.ensures.tokens

pub returns-in-CooperativeStore-clause-tokens : goal.returns-in-CooperativeStore-clause-tokens
returns-in-CooperativeStore-clause-tokens c = rw c.in-CooperativeStore.is c.write_struct_variant-in-CooperativeStore.ensures.tokens
