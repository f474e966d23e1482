-- Made by tests/derive from the declarations of naga_kinds and naga_ir.
use Rattle.naga_json_write.proofs.derived.statement.RayQueryFunctionToJson.write.Goals as goal

pub returns-in-Initialize-clause-tokens : goal.returns-in-Initialize-clause-tokens
returns-in-Initialize-clause-tokens c = rw c.in-Initialize.is c.write_struct_variant.ensures.tokens

pub returns-in-Proceed-clause-tokens : goal.returns-in-Proceed-clause-tokens
returns-in-Proceed-clause-tokens c = rw c.in-Proceed.is c.write_struct_variant-in-Proceed.ensures.tokens

pub returns-in-GenerateIntersection-clause-tokens : goal.returns-in-GenerateIntersection-clause-tokens
returns-in-GenerateIntersection-clause-tokens c = rw c.in-GenerateIntersection.is c.write_struct_variant-in-GenerateIntersection.ensures.tokens
