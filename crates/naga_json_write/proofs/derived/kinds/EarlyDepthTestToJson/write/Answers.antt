-- Made by tests/derive from the declarations of naga_kinds and naga_ir.
use Rattle.naga_json_write.proofs.derived.kinds.EarlyDepthTestToJson.write.Goals as goal

pub returns-in-Allow-clause-tokens : goal.returns-in-Allow-clause-tokens
returns-in-Allow-clause-tokens c = rw c.in-Allow.is c.write_struct_variant.ensures.tokens
