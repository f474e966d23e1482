use Rattle.std.proofs.Common.{◌∙◌, ap, length, sym}
use Rattle.naga_ir.specs.Block.{pairs}
use Rattle.naga_valid.proofs.IsEmptyLemmas.{is_empty-false, is_empty-true}
use Rattle.naga_text.proofs.TreeTextLemmas.{OnOk-unless_empty, unless_empty-empty}
use Rattle.naga_look.specs.Graph.Flow.{edge_inward}
use Rattle.naga_look.proofs.FlowLemmas.{OnOk-same}
use Rattle.naga_look.proofs.graph.statement.push_edge_into.Goals as goal

pub returns-then-is_empty : goal.returns-then-is_empty
returns-then-is_empty c =
    unless_empty-empty c.args.block.now c.args.text.now _ (is_empty-true (length (pairs c.args.block.now)) (sym c.is_empty.ensures ∙ c.if-is_empty.true))

pub returns : goal.returns
returns c =
    OnOk-unless_empty c.push_edge_inward.result c.args.block.now c.args.text.now c.push_edge_inward.new.text _ (is_empty-false (length (pairs c.args.block.now)) (sym c.is_empty.ensures ∙ c.if-is_empty.false))
    (OnOk-same c.push_edge_inward.result c.args.text.now c.push_edge_inward.new.text _ _ (ap (λ first. edge_inward c.args.name.now first c.args.label.now) c.in_ok-first.ensures) c.push_edge_inward.ensures)
