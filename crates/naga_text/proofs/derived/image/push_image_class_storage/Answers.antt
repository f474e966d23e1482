-- Made by tests/derive from the declarations of naga_kinds and naga_ir.
use Rattle.std.specs.Prelude.{codes}
use Rattle.naga_text.proofs.PiecesLemmas.{OnOk-after}
use Rattle.naga_text.proofs.derived.image.push_image_class_storage.Goals as goal

pub returns : goal.returns
returns c =
    OnOk-after c.push_access.result c.args.text.now c.push.new.self c.push_access.new.text (codes " Storage") _ c.in_ok-push.ensures
    (OnOk-after c.push_access.result c.push.new.self c.push_kind_name.new.text c.push_access.new.text _ _ c.in_ok-push_kind_name.ensures
    c.push_access.ensures)
