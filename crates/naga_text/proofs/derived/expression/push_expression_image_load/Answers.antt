-- Made by tests/derive from the declarations of naga_kinds and naga_ir.
use Rattle.std.specs.Prelude.{codes}
use Rattle.naga_text.proofs.PiecesLemmas.{OnOk-after}
use Rattle.naga_text.proofs.derived.expression.push_expression_image_load.Goals as goal

pub returns : goal.returns
returns c =
    OnOk-after c.push_presence-3.result c.args.text.now c.push.new.self c.push_presence-3.new.text (codes "ImageLoad") _ c.in_ok-push.ensures
    (OnOk-after c.push_presence-3.result c.push.new.self c.push_presence.new.text c.push_presence-3.new.text _ _ c.in_ok-push_presence.ensures
    (OnOk-after c.push_presence-3.result c.push_presence.new.text c.push_presence-2.new.text c.push_presence-3.new.text _ _ c.in_ok-push_presence-2.ensures
    c.push_presence-3.ensures))
