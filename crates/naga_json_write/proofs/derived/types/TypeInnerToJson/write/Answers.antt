-- Made by tests/derive from the declarations of naga_kinds and naga_ir.
use Rattle.naga_json_write.proofs.derived.types.TypeInnerToJson.write.Goals as goal

pub returns-in-Scalar-clause-tokens : goal.returns-in-Scalar-clause-tokens
returns-in-Scalar-clause-tokens c = rw c.in-Scalar.is c.write_holder.ensures.tokens

pub returns-in-Vector-clause-tokens : goal.returns-in-Vector-clause-tokens
returns-in-Vector-clause-tokens c = rw c.in-Vector.is c.write_struct_variant.ensures.tokens

pub returns-in-Matrix-clause-tokens : goal.returns-in-Matrix-clause-tokens
returns-in-Matrix-clause-tokens c = rw c.in-Matrix.is c.write_struct_variant-in-Matrix.ensures.tokens

pub returns-in-CooperativeMatrix-clause-tokens : goal.returns-in-CooperativeMatrix-clause-tokens
returns-in-CooperativeMatrix-clause-tokens c = rw c.in-CooperativeMatrix.is c.write_struct_variant-in-CooperativeMatrix.ensures.tokens

pub returns-in-Atomic-clause-tokens : goal.returns-in-Atomic-clause-tokens
returns-in-Atomic-clause-tokens c = rw c.in-Atomic.is c.write_holder-in-Atomic.ensures.tokens

pub returns-in-Pointer-clause-tokens : goal.returns-in-Pointer-clause-tokens
returns-in-Pointer-clause-tokens c = rw c.in-Pointer.is c.write_struct_variant-in-Pointer.ensures.tokens

pub returns-in-ValuePointer-clause-tokens : goal.returns-in-ValuePointer-clause-tokens
returns-in-ValuePointer-clause-tokens c = rw c.in-ValuePointer.is c.write_struct_variant-in-ValuePointer.ensures.tokens

pub returns-in-Array-clause-tokens : goal.returns-in-Array-clause-tokens
returns-in-Array-clause-tokens c = rw c.in-Array.is c.write_struct_variant-in-Array.ensures.tokens

pub returns-in-Struct-clause-tokens : goal.returns-in-Struct-clause-tokens
returns-in-Struct-clause-tokens c = rw c.in-Struct.is c.write_struct_variant-in-Struct.ensures.tokens

pub returns-in-Image-clause-tokens : goal.returns-in-Image-clause-tokens
returns-in-Image-clause-tokens c = rw c.in-Image.is c.write_struct_variant-in-Image.ensures.tokens

pub returns-in-Sampler-clause-tokens : goal.returns-in-Sampler-clause-tokens
returns-in-Sampler-clause-tokens c = rw c.in-Sampler.is c.write_struct_variant-in-Sampler.ensures.tokens

pub returns-in-AccelerationStructure-clause-tokens : goal.returns-in-AccelerationStructure-clause-tokens
returns-in-AccelerationStructure-clause-tokens c = rw c.in-AccelerationStructure.is c.write_struct_variant-in-AccelerationStructure.ensures.tokens

pub returns-in-RayQuery-clause-tokens : goal.returns-in-RayQuery-clause-tokens
returns-in-RayQuery-clause-tokens c = rw c.in-RayQuery.is c.write_struct_variant-in-RayQuery.ensures.tokens

pub returns-in-BindingArray-clause-tokens : goal.returns-in-BindingArray-clause-tokens
returns-in-BindingArray-clause-tokens c = rw c.in-BindingArray.is c.write_struct_variant-in-BindingArray.ensures.tokens
