-- Made by tests/derive from the declarations of naga_kinds and naga_ir.
use Rattle.naga_json_write.proofs.derived.expression.SampleLevelToJson.write.Goals as goal

pub returns-in-Exact-clause-tokens : goal.returns-in-Exact-clause-tokens
returns-in-Exact-clause-tokens c = rw c.in-Exact.is c.write_holder.ensures.tokens

pub returns-in-Bias-clause-tokens : goal.returns-in-Bias-clause-tokens
returns-in-Bias-clause-tokens c = rw c.in-Bias.is c.write_holder-in-Bias.ensures.tokens

pub returns-in-Gradient-clause-tokens : goal.returns-in-Gradient-clause-tokens
returns-in-Gradient-clause-tokens c = rw c.in-Gradient.is c.write_struct_variant.ensures.tokens
