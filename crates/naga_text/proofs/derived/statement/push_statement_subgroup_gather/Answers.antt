-- Made by tests/derive from the declarations of naga_kinds and naga_ir.
use Rattle.std.specs.Prelude.{codes}
use Rattle.naga_text.proofs.PiecesLemmas.{OnOk-after}
use Rattle.naga_text.proofs.derived.statement.push_statement_subgroup_gather.Goals as goal

pub returns : goal.returns
returns c =
    OnOk-after c.push_gather_mode.result c.args.text.now c.push.new.self c.push_gather_mode.new.text (codes "subgroup_gather") _ c.in_ok-push.ensures
    c.push_gather_mode.ensures
