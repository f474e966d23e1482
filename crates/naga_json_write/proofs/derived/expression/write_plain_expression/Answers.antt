-- Made by tests/derive from the declarations of naga_kinds and naga_ir.
use Rattle.naga_json_write.proofs.derived.expression.write_plain_expression.Goals as goal

pub returns-in-Constant-clause-tokens : goal.returns-in-Constant-clause-tokens
returns-in-Constant-clause-tokens c = rw c.in-Constant.is c.write_holder.ensures.tokens

pub returns-in-Override-clause-tokens : goal.returns-in-Override-clause-tokens
returns-in-Override-clause-tokens c = rw c.in-Override.is c.write_holder-in-Override.ensures.tokens

pub returns-in-ZeroValue-clause-tokens : goal.returns-in-ZeroValue-clause-tokens
returns-in-ZeroValue-clause-tokens c = rw c.in-ZeroValue.is c.write_holder-in-ZeroValue.ensures.tokens

pub returns-in-Compose-clause-tokens : goal.returns-in-Compose-clause-tokens
returns-in-Compose-clause-tokens c = rw c.in-Compose.is c.write_struct_variant.ensures.tokens

pub returns-in-Access-clause-tokens : goal.returns-in-Access-clause-tokens
returns-in-Access-clause-tokens c = rw c.in-Access.is c.write_struct_variant-in-Access.ensures.tokens

pub returns-in-AccessIndex-clause-tokens : goal.returns-in-AccessIndex-clause-tokens
returns-in-AccessIndex-clause-tokens c = rw c.in-AccessIndex.is c.write_struct_variant-in-AccessIndex.ensures.tokens

pub returns-in-Splat-clause-tokens : goal.returns-in-Splat-clause-tokens
returns-in-Splat-clause-tokens c = rw c.in-Splat.is c.write_struct_variant-in-Splat.ensures.tokens

pub returns-in-Swizzle-clause-tokens : goal.returns-in-Swizzle-clause-tokens
returns-in-Swizzle-clause-tokens c = rw c.in-Swizzle.is c.write_struct_variant-in-Swizzle.ensures.tokens

pub returns-in-FunctionArgument-clause-tokens : goal.returns-in-FunctionArgument-clause-tokens
returns-in-FunctionArgument-clause-tokens c = rw c.in-FunctionArgument.is c.write_holder-in-FunctionArgument.ensures.tokens

pub returns-in-GlobalVariable-clause-tokens : goal.returns-in-GlobalVariable-clause-tokens
returns-in-GlobalVariable-clause-tokens c = rw c.in-GlobalVariable.is c.write_holder-in-GlobalVariable.ensures.tokens

pub returns-in-LocalVariable-clause-tokens : goal.returns-in-LocalVariable-clause-tokens
returns-in-LocalVariable-clause-tokens c = rw c.in-LocalVariable.is c.write_holder-in-LocalVariable.ensures.tokens

pub returns-in-Load-clause-tokens : goal.returns-in-Load-clause-tokens
returns-in-Load-clause-tokens c = rw c.in-Load.is c.write_struct_variant-in-Load.ensures.tokens

pub returns-in-ImageSample-clause-tokens : goal.returns-in-ImageSample-clause-tokens
returns-in-ImageSample-clause-tokens c = rw c.in-ImageSample.is c.write_struct_variant-in-ImageSample.ensures.tokens

pub returns-in-ImageLoad-clause-tokens : goal.returns-in-ImageLoad-clause-tokens
returns-in-ImageLoad-clause-tokens c = rw c.in-ImageLoad.is c.write_struct_variant-in-ImageLoad.ensures.tokens

pub returns-in-ImageQuery-clause-tokens : goal.returns-in-ImageQuery-clause-tokens
returns-in-ImageQuery-clause-tokens c = rw c.in-ImageQuery.is c.write_struct_variant-in-ImageQuery.ensures.tokens

pub returns-in-Unary-clause-tokens : goal.returns-in-Unary-clause-tokens
returns-in-Unary-clause-tokens c = rw c.in-Unary.is c.write_struct_variant-in-Unary.ensures.tokens

pub returns-in-Binary-clause-tokens : goal.returns-in-Binary-clause-tokens
returns-in-Binary-clause-tokens c = rw c.in-Binary.is c.write_struct_variant-in-Binary.ensures.tokens

pub returns-in-Select-clause-tokens : goal.returns-in-Select-clause-tokens
returns-in-Select-clause-tokens c = rw c.in-Select.is c.write_struct_variant-in-Select.ensures.tokens

pub returns-in-Derivative-clause-tokens : goal.returns-in-Derivative-clause-tokens
returns-in-Derivative-clause-tokens c = rw c.in-Derivative.is c.write_struct_variant-in-Derivative.ensures.tokens

pub returns-in-Relational-clause-tokens : goal.returns-in-Relational-clause-tokens
returns-in-Relational-clause-tokens c = rw c.in-Relational.is c.write_struct_variant-in-Relational.ensures.tokens

pub returns-in-Math-clause-tokens : goal.returns-in-Math-clause-tokens
returns-in-Math-clause-tokens c = rw c.in-Math.is c.write_struct_variant-in-Math.ensures.tokens

pub returns-in-As-clause-tokens : goal.returns-in-As-clause-tokens
returns-in-As-clause-tokens c = rw c.in-As.is c.write_struct_variant-in-As.ensures.tokens

pub returns-in-CallResult-clause-tokens : goal.returns-in-CallResult-clause-tokens
returns-in-CallResult-clause-tokens c = rw c.in-CallResult.is c.write_holder-in-CallResult.ensures.tokens

pub returns-in-AtomicResult-clause-tokens : goal.returns-in-AtomicResult-clause-tokens
returns-in-AtomicResult-clause-tokens c = rw c.in-AtomicResult.is c.write_struct_variant-in-AtomicResult.ensures.tokens

pub returns-in-WorkGroupUniformLoadResult-clause-tokens : goal.returns-in-WorkGroupUniformLoadResult-clause-tokens
returns-in-WorkGroupUniformLoadResult-clause-tokens c = rw c.in-WorkGroupUniformLoadResult.is c.write_struct_variant-in-WorkGroupUniformLoadResult.ensures.tokens

pub returns-in-ArrayLength-clause-tokens : goal.returns-in-ArrayLength-clause-tokens
returns-in-ArrayLength-clause-tokens c = rw c.in-ArrayLength.is c.write_holder-in-ArrayLength.ensures.tokens

pub returns-in-RayQueryVertexPositions-clause-tokens : goal.returns-in-RayQueryVertexPositions-clause-tokens
returns-in-RayQueryVertexPositions-clause-tokens c = rw c.in-RayQueryVertexPositions.is c.write_struct_variant-in-RayQueryVertexPositions.ensures.tokens

pub returns-in-RayQueryGetIntersection-clause-tokens : goal.returns-in-RayQueryGetIntersection-clause-tokens
returns-in-RayQueryGetIntersection-clause-tokens c = rw c.in-RayQueryGetIntersection.is c.write_struct_variant-in-RayQueryGetIntersection.ensures.tokens

pub returns-in-SubgroupOperationResult-clause-tokens : goal.returns-in-SubgroupOperationResult-clause-tokens
returns-in-SubgroupOperationResult-clause-tokens c = rw c.in-SubgroupOperationResult.is c.write_struct_variant-in-SubgroupOperationResult.ensures.tokens

pub returns-in-CooperativeLoad-clause-tokens : goal.returns-in-CooperativeLoad-clause-tokens
returns-in-CooperativeLoad-clause-tokens c = rw c.in-CooperativeLoad.is c.write_struct_variant-in-CooperativeLoad.ensures.tokens

pub returns-in-CooperativeMultiplyAdd-clause-tokens : goal.returns-in-CooperativeMultiplyAdd-clause-tokens
returns-in-CooperativeMultiplyAdd-clause-tokens c = rw c.in-CooperativeMultiplyAdd.is c.write_struct_variant-in-CooperativeMultiplyAdd.ensures.tokens
