-- Made by tests/derive from the declarations of naga_kinds and naga_ir.
use Rattle.std.specs.Prelude.{codes}
use Rattle.naga_text.proofs.PiecesLemmas.{OnOk-after}
use Rattle.naga_text.proofs.derived.expression.push_expression_literal.Goals as goal

pub returns : goal.returns
returns c =
    OnOk-after c.push_value.result c.args.text.now c.push.new.self c.push_value.new.text (codes "Literal") _ c.in_ok-push.ensures
    c.push_value.ensures
