-- Made by tests/derive from the declarations of naga_kinds and naga_ir.
use Rattle.naga_json_write.proofs.derived.expression.AtomicFunctionToJson.write.Goals as goal

pub returns-in-Exchange-clause-tokens : goal.returns-in-Exchange-clause-tokens
returns-in-Exchange-clause-tokens c = rw c.in-Exchange.is c.write_struct_variant.ensures.tokens
