-- Made by tests/derive from the declarations of naga_kinds and naga_ir.
use Rattle.std.specs.Prelude.{codes}
use Rattle.naga_text.proofs.PiecesLemmas.{OnOk-after}
use Rattle.naga_text.proofs.derived.expression.push_expression_cooperative_load.Goals as goal

pub returns : goal.returns
returns c =
    OnOk-after c.push_flag.result c.args.text.now c.push.new.self c.push_flag.new.self (codes "CooperativeLoad") _ c.in_ok-push.ensures
    (OnOk-after c.push_flag.result c.push.new.self c.push_kind_name.new.text c.push_flag.new.self _ _ c.in_ok-push_kind_name.ensures
    (OnOk-after c.push_flag.result c.push_kind_name.new.text c.push_kind_name-2.new.text c.push_flag.new.self _ _ c.in_ok-push_kind_name-2.ensures
    (OnOk-after c.push_flag.result c.push_kind_name-2.new.text c.push_kind_name-3.new.text c.push_flag.new.self _ _ c.in_ok-push_kind_name-3.ensures
    c.push_flag.ensures)))
