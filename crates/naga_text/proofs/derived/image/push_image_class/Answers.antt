-- Made by tests/derive from the declarations of naga_kinds and naga_ir.
use Rattle.naga_text.proofs.PiecesLemmas.{OnOk-variant}
use Rattle.naga_text.specs.derived.Image.{image_class_text}
use Rattle.naga_text.proofs.derived.image.push_image_class.Goals as goal

pub returns-in-Sampled : goal.returns-in-Sampled
returns-in-Sampled c = OnOk-variant image_class_text c.push_image_class_sampled.result c.args.text.now c.push_image_class_sampled.new.text c.args.image_class.now _ c.in-Sampled.is c.push_image_class_sampled.ensures

pub returns-in-Depth : goal.returns-in-Depth
returns-in-Depth c = OnOk-variant image_class_text c.push_flagged.result c.args.text.now c.push_flagged.new.text c.args.image_class.now _ c.in-Depth.is c.push_flagged.ensures

pub returns-in-External : goal.returns-in-External
returns-in-External c = OnOk-variant image_class_text c.push.result c.args.text.now c.push.new.self c.args.image_class.now _ c.in-External.is c.push.ensures

pub returns-in-Storage : goal.returns-in-Storage
returns-in-Storage c = OnOk-variant image_class_text c.push_image_class_storage.result c.args.text.now c.push_image_class_storage.new.text c.args.image_class.now _ c.in-Storage.is c.push_image_class_storage.ensures
