-- Made by tests/derive from the declarations of naga_kinds and naga_ir.
use Rattle.naga_text.proofs.PiecesLemmas.{OnOk-variant}
use Rattle.naga_text.specs.derived.Expression.{sample_level_text}
use Rattle.naga_text.proofs.derived.expression.push_sample_level.Goals as goal

pub returns-in-Auto : goal.returns-in-Auto
returns-in-Auto c = OnOk-variant sample_level_text c.push.result c.args.text.now c.push.new.self c.args.sample_level.now _ c.in-Auto.is c.push.ensures

pub returns-in-Zero : goal.returns-in-Zero
returns-in-Zero c = OnOk-variant sample_level_text c.push-in-Zero.result c.args.text.now c.push-in-Zero.new.self c.args.sample_level.now _ c.in-Zero.is c.push-in-Zero.ensures

pub returns-in-Exact : goal.returns-in-Exact
returns-in-Exact c = OnOk-variant sample_level_text c.push-in-Exact.result c.args.text.now c.push-in-Exact.new.self c.args.sample_level.now _ c.in-Exact.is c.push-in-Exact.ensures

pub returns-in-Bias : goal.returns-in-Bias
returns-in-Bias c = OnOk-variant sample_level_text c.push-in-Bias.result c.args.text.now c.push-in-Bias.new.self c.args.sample_level.now _ c.in-Bias.is c.push-in-Bias.ensures

pub returns-in-Gradient : goal.returns-in-Gradient
returns-in-Gradient c = OnOk-variant sample_level_text c.push-in-Gradient.result c.args.text.now c.push-in-Gradient.new.self c.args.sample_level.now _ c.in-Gradient.is c.push-in-Gradient.ensures
