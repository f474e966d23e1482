-- Made by tests/derive from the declarations of naga_kinds and naga_ir.
use Rattle.std.specs.Prelude.{codes}
use Rattle.naga_text.proofs.PiecesLemmas.{OnOk-after}
use Rattle.naga_text.proofs.derived.expression.push_expression_derivative.Goals as goal

pub returns : goal.returns
returns c =
    OnOk-after c.push_kind_name-2.result c.args.text.now c.push.new.self c.push_kind_name-2.new.text (codes "Derivative") _ c.in_ok-push.ensures
    (OnOk-after c.push_kind_name-2.result c.push.new.self c.push_kind_name.new.text c.push_kind_name-2.new.text _ _ c.in_ok-push_kind_name.ensures
    c.push_kind_name-2.ensures)
