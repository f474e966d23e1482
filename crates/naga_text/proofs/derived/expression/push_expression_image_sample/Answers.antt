-- Made by tests/derive from the declarations of naga_kinds and naga_ir.
use Rattle.std.specs.Prelude.{codes}
use Rattle.naga_text.proofs.PiecesLemmas.{OnOk-after}
use Rattle.naga_text.proofs.derived.expression.push_expression_image_sample.Goals as goal

pub returns : goal.returns
returns c =
    OnOk-after c.push_flag.result c.args.text.now c.push.new.self c.push_flag.new.self (codes "ImageSample") _ c.in_ok-push.ensures
    (OnOk-after c.push_flag.result c.push.new.self c.push_optional_kind.new.text c.push_flag.new.self _ _ c.in_ok-push_optional_kind.ensures
    (OnOk-after c.push_flag.result c.push_optional_kind.new.text c.push_presence.new.text c.push_flag.new.self _ _ c.in_ok-push_presence.ensures
    (OnOk-after c.push_flag.result c.push_presence.new.text c.push_presence-2.new.text c.push_flag.new.self _ _ c.in_ok-push_presence-2.ensures
    (OnOk-after c.push_flag.result c.push_presence-2.new.text c.push_sample_level.new.text c.push_flag.new.self _ _ c.in_ok-push_sample_level.ensures
    (OnOk-after c.push_flag.result c.push_sample_level.new.text c.push_presence-3.new.text c.push_flag.new.self _ _ c.in_ok-push_presence-3.ensures
    c.push_flag.ensures)))))
