-- Made by tests/derive from the declarations of naga_kinds and naga_ir.
use Rattle.naga_json_write.proofs.derived.kinds.AddressSpaceToJson.write.Goals as goal

pub returns-in-Storage-clause-tokens : goal.returns-in-Storage-clause-tokens
returns-in-Storage-clause-tokens c = rw c.in-Storage.is c.write_struct_variant.ensures.tokens
