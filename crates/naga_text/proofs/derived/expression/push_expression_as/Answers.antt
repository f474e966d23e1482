-- Made by tests/derive from the declarations of naga_kinds and naga_ir.
use Rattle.std.specs.Prelude.{codes}
use Rattle.naga_text.proofs.PiecesLemmas.{OnOk-after}
use Rattle.naga_text.proofs.derived.expression.push_expression_as.Goals as goal

pub returns : goal.returns
returns c =
    OnOk-after c.push_optional_number.result c.args.text.now c.push.new.self c.push_optional_number.new.text (codes "As") _ c.in_ok-push.ensures
    (OnOk-after c.push_optional_number.result c.push.new.self c.push_kind_name.new.text c.push_optional_number.new.text _ _ c.in_ok-push_kind_name.ensures
    c.push_optional_number.ensures)
