-- Made by tests/derive from the declarations of naga_kinds and naga_ir.
use Rattle.naga_json_write.proofs.derived.kinds.BuiltInToJson.write.Goals as goal

pub returns-in-Position-clause-tokens : goal.returns-in-Position-clause-tokens
returns-in-Position-clause-tokens c = rw c.in-Position.is c.write_struct_variant.ensures.tokens

pub returns-in-Barycentric-clause-tokens : goal.returns-in-Barycentric-clause-tokens
returns-in-Barycentric-clause-tokens c = rw c.in-Barycentric.is c.write_struct_variant-in-Barycentric.ensures.tokens
