-- Made by tests/derive from the declarations of naga_kinds and naga_ir.
use Rattle.naga_text.proofs.PiecesLemmas.{OnOk-variant}
use Rattle.naga_text.specs.derived.Expression.{image_query_text}
use Rattle.naga_text.proofs.derived.expression.push_image_query.Goals as goal

pub returns-in-Size : goal.returns-in-Size
returns-in-Size c = OnOk-variant image_query_text c.push.result c.args.text.now c.push.new.self c.args.image_query.now _ c.in-Size.is c.push.ensures

pub returns-in-NumLevels : goal.returns-in-NumLevels
returns-in-NumLevels c = OnOk-variant image_query_text c.push-in-NumLevels.result c.args.text.now c.push-in-NumLevels.new.self c.args.image_query.now _ c.in-NumLevels.is c.push-in-NumLevels.ensures

pub returns-in-NumLayers : goal.returns-in-NumLayers
returns-in-NumLayers c = OnOk-variant image_query_text c.push-in-NumLayers.result c.args.text.now c.push-in-NumLayers.new.self c.args.image_query.now _ c.in-NumLayers.is c.push-in-NumLayers.ensures

pub returns-in-NumSamples : goal.returns-in-NumSamples
returns-in-NumSamples c = OnOk-variant image_query_text c.push-in-NumSamples.result c.args.text.now c.push-in-NumSamples.new.self c.args.image_query.now _ c.in-NumSamples.is c.push-in-NumSamples.ensures
