use Rattle.std.proofs.Common.{◌∙◌, codes, length, sym}
use Rattle.naga_ir.specs.Block.{pairs}
use Rattle.naga_valid.proofs.IsEmptyLemmas.{is_empty-false, is_empty-true}
use Rattle.naga_text.proofs.PiecesLemmas.{OnOk-after}
use Rattle.naga_look.proofs.FlowLemmas.{OnOk-same, point_text-empty, point_text-some}
use Rattle.naga_look.proofs.graph.statement.push_point.Goals as goal

pub returns-then-not-is_empty : goal.returns-then-not-is_empty
returns-then-not-is_empty c =
    point_text-some c.args.name.now c.args.block.now c.args.text.now (is_empty-false (length (pairs c.args.block.now)) (sym c.is_empty.ensures ∙ c.if-not-is_empty.true))

pub returns : goal.returns
returns c =
    let none = is_empty-true (length (pairs c.args.block.now)) (sym c.is_empty.ensures ∙ c.if-not-is_empty.false) in
    OnOk-same c.push-2.result c.args.text.now c.push-2.new.self _ _ (point_text-empty c.args.name.now c.args.block.now none)
    (OnOk-after c.push-2.result c.args.text.now c.push.new.self c.push-2.new.self (codes "        ") _ c.in_ok-push.ensures
    (OnOk-after c.push-2.result c.push.new.self c.push_text.new.self c.push-2.new.self _ _ c.in_ok-push_text.ensures c.push-2.ensures))
