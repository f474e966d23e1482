-- Made by tests/derive from the declarations of naga_kinds and naga_ir.
use Rattle.naga_json_write.proofs.derived.kinds.BindingToJson.write.Goals as goal

pub returns-in-BuiltIn-clause-tokens : goal.returns-in-BuiltIn-clause-tokens
returns-in-BuiltIn-clause-tokens c = rw c.in-BuiltIn.is c.write_holder.ensures.tokens

pub returns-in-Location-clause-tokens : goal.returns-in-Location-clause-tokens
returns-in-Location-clause-tokens c = rw c.in-Location.is c.write_struct_variant.ensures.tokens
