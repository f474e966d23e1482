-- Made by tests/derive from the declarations of naga_kinds and naga_ir.
use Rattle.naga_json_write.proofs.derived.kinds.ImageClassToJson.write.Goals as goal

pub returns-in-Sampled-clause-tokens : goal.returns-in-Sampled-clause-tokens
returns-in-Sampled-clause-tokens c = rw c.in-Sampled.is c.write_struct_variant.ensures.tokens

pub returns-in-Depth-clause-tokens : goal.returns-in-Depth-clause-tokens
returns-in-Depth-clause-tokens c = rw c.in-Depth.is c.write_struct_variant-in-Depth.ensures.tokens

pub returns-in-Storage-clause-tokens : goal.returns-in-Storage-clause-tokens
returns-in-Storage-clause-tokens c = rw c.in-Storage.is c.write_struct_variant-in-Storage.ensures.tokens
