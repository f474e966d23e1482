-- Made by tests/derive from the declarations of naga_kinds and naga_ir.
use Rattle.naga_json_write.proofs.derived.kinds.SwitchValueToJson.write.Goals as goal

pub returns-in-I32-clause-tokens : goal.returns-in-I32-clause-tokens
returns-in-I32-clause-tokens c = rw c.in-I32.is c.write_holder.ensures.tokens

pub returns-in-U32-clause-tokens : goal.returns-in-U32-clause-tokens
returns-in-U32-clause-tokens c = rw c.in-U32.is c.write_holder-in-U32.ensures.tokens
