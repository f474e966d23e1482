-- Made by tests/derive from the declarations of naga_kinds and naga_ir.
use Rattle.naga_json_write.proofs.derived.types.ArraySizeToJson.write.Goals as goal

pub returns-in-Constant-clause-tokens : goal.returns-in-Constant-clause-tokens
returns-in-Constant-clause-tokens c = rw c.in-Constant.is c.write_holder.ensures.tokens

pub returns-in-Pending-clause-tokens : goal.returns-in-Pending-clause-tokens
returns-in-Pending-clause-tokens c = rw c.in-Pending.is c.write_holder-in-Pending.ensures.tokens
