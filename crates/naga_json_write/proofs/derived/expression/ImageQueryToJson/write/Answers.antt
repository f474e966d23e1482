-- Made by tests/derive from the declarations of naga_kinds and naga_ir.
use Rattle.naga_json_write.proofs.derived.expression.ImageQueryToJson.write.Goals as goal

pub returns-in-Size-clause-tokens : goal.returns-in-Size-clause-tokens
returns-in-Size-clause-tokens c = rw c.in-Size.is c.write_struct_variant.ensures.tokens
