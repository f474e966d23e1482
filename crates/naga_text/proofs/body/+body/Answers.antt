use Rattle.std.proofs.Common.{◌≡◌, ◌∙◌, ◌<◌, ◌++◌, ap, sym, subst, rules, length, codes}
use Rattle.std.specs.Prelude.{OnOk, flat_map, option_copied}
use Rattle.std.specs.Iterator.Adapters.{enumerate_count, enumerate_source}
use Rattle.std.specs.List.{enumerate_from}
use Rattle.naga_ir.specs.Block.{pairs, statements}
use Rattle.naga_ir.specs.Control.{node_of_control}
use Rattle.naga_ir.specs.View.{tree_of}
use Rattle.naga_ir.specs.declared.block.Block.{size-Block}
use Rattle.naga_ir.specs.declared.statement.Statement.{size-Statement}
use Rattle.naga_text.specs.Blocks.{deeper, part_text, return_text, tree_text, unless_empty}
use Rattle.naga_text.specs.Counterparts.{optional_tree}
use Rattle.naga_valid.proofs.IsEmptyLemmas.{is_empty-false, is_empty-true}
use Rattle.naga_text.proofs.PiecesLemmas.{OnOk-after, flat_map-next, flat_map-over}
use Rattle.naga_text.proofs.TreeTextLemmas.{AreLast-all, AreLast-lt, AreLast-next, OnOk-node, OnOk-unless_empty, cases_text-next, enumerate_from-ahead, statement_lines, tree_text-each, unless_empty-empty}
use Rattle.naga_text.proofs.body.+body.Goals as goal

-- ---- a block

pub push_block-loop-position-init : goal.push_block-loop-position-init
push_block-loop-position-init t c =
    let iterator = c.into_iter-position-iterator.result in
    let enumerated = c.enumerate-position-items.result in
    let are : enumerate_source iterator ≡ statements c.args.block.now =
    ap enumerate_source c.into_iter-position-iterator.ensures.into_iter_gives
    ∙ c.enumerate-position-items.ensures.source ∙ c.into_iter.ensures.into_iter_gives
    in
    let from : enumerate_count iterator ≡ 0 = ap enumerate_count c.into_iter-position-iterator.ensures.into_iter_gives ∙ c.enumerate-position-items.ensures.count in record {
      last = AreLast-all c.args.block.now (enumerate_source iterator) are;
      text = ap (λ xs. c.args.text.now ++ flat_map (statement_lines c.args.margin.now (optional_tree (option_copied c.args.old))) xs)
          (ap (λ n. enumerate_from n (enumerate_source iterator)) from ∙ ap (enumerate_from 0) are);
    }

pub push_block-push_node-requires : goal.push_block-push_node-requires
push_block-push_node-requires t c =
    let lt : size-Statement c.in-Some.statement.now < size-Block c.args.block.now =
    AreLast-lt c.args.block.now c.in-Some.statement.now (enumerate_source c.next.new.self) (enumerate_source c.loop-position.position-iterator) c.in-Some.ensures.steps.0 c.loop-position.invariant.last
    in
    (search (rules, lt), tt)

pub push_block-loop-position-preserved : goal.push_block-loop-position-preserved
push_block-loop-position-preserved t c =
    let before = c.loop-position.position-iterator in
    let after = c.next.new.self in
    let ahead = enumerate_from-ahead (enumerate_count before) c.in-Some.position (enumerate_count after) c.in-Some.statement.now (enumerate_source after) (enumerate_source before)
    c.in-Some.ensures.steps.0 c.in-Some.ensures.steps.1 c.in-Some.ensures.steps.2
    in record {
      last = AreLast-next c.args.block.now c.in-Some.statement.now (enumerate_source after) (enumerate_source before) c.in-Some.ensures.steps.0 c.loop-position.invariant.last;
      text = flat_map-next (statement_lines c.args.margin.now (optional_tree (option_copied c.args.old))) (c.in-Some.position, c.in-Some.statement.now)
          (enumerate_from (enumerate_count after) (enumerate_source after)) (enumerate_from (enumerate_count before) (enumerate_source before))
          c.loop-position.text c.push_node.new.text _ ahead c.in_ok-push_node.ensures c.loop-position.invariant.text;
    }

pub push_block-returns : goal.push_block-returns
push_block-returns t c =
    let left = c.loop-position.position-iterator in
    let lines = statement_lines c.args.margin.now (optional_tree (option_copied c.args.old)) in
    flat_map-over lines (enumerate_from (enumerate_count left) (enumerate_source left)) c.loop-position.text _
    (ap (enumerate_from (enumerate_count left)) c.in-None.ensures.steps.0.0) c.loop-position.invariant.text
    ∙ ap (λ text. c.args.text.now ++ text) (sym (tree_text-each c.args.margin.now (optional_tree (option_copied c.args.old)) c.args.block.now))

-- ---- a block unless it is empty

pub push_part_unless_empty-returns-then-is_empty : goal.push_part_unless_empty-returns-then-is_empty
push_part_unless_empty-returns-then-is_empty t c =
    unless_empty-empty c.args.block.now c.args.text.now _ (is_empty-true (length (pairs c.args.block.now)) (sym c.is_empty.ensures ∙ c.if-is_empty.true))

pub push_part_unless_empty-returns : goal.push_part_unless_empty-returns
push_part_unless_empty-returns t c =
    OnOk-unless_empty c.push_part.result c.args.block.now c.args.text.now c.push_part.new.text _ (is_empty-false (length (pairs c.args.block.now)) (sym c.is_empty.ensures ∙ c.if-is_empty.false)) c.push_part.ensures

-- ---- a statement

pub push_node-returns-in-Plain : goal.push_node-returns-in-Plain
push_node-returns-in-Plain t c =
    OnOk-node c.push_plain.result c.args.margin.now (optional_tree (option_copied c.args.old)) c.args.position c.args.text.now c.push_plain.new.text c.args.statement.now _
    (c.control.ensures.node ∙ ap (node_of_control c.args.statement.now) c.in-Plain.is) c.push_plain.ensures

pub push_node-returns-in_ok-push_part-in-Block : goal.push_node-returns-in_ok-push_part-in-Block
push_node-returns-in_ok-push_part-in-Block t c =
    let part = c.in_ok-push_part-in-Block.ensures
    ∙ ap (λ to. c.args.text.now ++ part_text c.args.margin.now (codes "{\n") (tree_text (deeper c.args.margin.now) to (tree_of c.in-Block.inner.now))) c.inner_at.ensures
    in
    OnOk-node c.push_line.result c.args.margin.now (optional_tree (option_copied c.args.old)) c.args.position c.args.text.now c.push_line.new.text c.args.statement.now _
    (c.control.ensures.node ∙ ap (node_of_control c.args.statement.now) c.in-Block.is)
    (OnOk-after c.push_line.result c.args.text.now c.push_part.new.text c.push_line.new.text _ _ part c.push_line.ensures)

pub push_node-returns-in_ok-push_part_unless_empty-in-If : goal.push_node-returns-in_ok-push_part_unless_empty-in-If
push_node-returns-in_ok-push_part_unless_empty-in-If t c =
    let accept = c.in_ok-push_inner-in-If.ensures
    ∙ ap (λ to. c.push_head.new.text ++ tree_text (deeper c.args.margin.now) to (tree_of c.in-If.accept.now)) c.inner_at-in-If.ensures
    in
    let reject = c.in_ok-push_part_unless_empty-in-If.ensures
    ∙ ap (λ to. c.push_inner.new.text ++ unless_empty (tree_of c.in-If.reject.now) (part_text c.args.margin.now (codes "} else {\n") (tree_text (deeper c.args.margin.now) to (tree_of c.in-If.reject.now)))) c.inner_at-in-If-2.ensures
    in
    OnOk-node c.push_line-in-If.result c.args.margin.now (optional_tree (option_copied c.args.old)) c.args.position c.args.text.now c.push_line-in-If.new.text c.args.statement.now _
    (c.control.ensures.node ∙ ap (node_of_control c.args.statement.now) c.in-If.is)
    (OnOk-after c.push_line-in-If.result c.args.text.now c.push_head.new.text c.push_line-in-If.new.text _ _ c.in_ok-push_head-in-If.ensures
    (OnOk-after c.push_line-in-If.result c.push_head.new.text c.push_inner.new.text c.push_line-in-If.new.text _ _ accept
    (OnOk-after c.push_line-in-If.result c.push_inner.new.text c.push_part_unless_empty.new.text c.push_line-in-If.new.text _ _ reject c.push_line-in-If.ensures)))

pub push_node-returns-in_ok-push_inner_cases-in-Switch : goal.push_node-returns-in_ok-push_inner_cases-in-Switch
push_node-returns-in_ok-push_inner_cases-in-Switch t c =
    OnOk-node c.push_line-in-Switch.result c.args.margin.now (optional_tree (option_copied c.args.old)) c.args.position c.args.text.now c.push_line-in-Switch.new.text c.args.statement.now _
    (c.control.ensures.node ∙ ap (node_of_control c.args.statement.now) c.in-Switch.is)
    (OnOk-after c.push_line-in-Switch.result c.args.text.now c.push_head-in-Switch.new.text c.push_line-in-Switch.new.text _ _ c.in_ok-push_head-in-Switch.ensures
    (OnOk-after c.push_line-in-Switch.result c.push_head-in-Switch.new.text c.push_inner_cases.new.text c.push_line-in-Switch.new.text _ _ c.in_ok-push_inner_cases-in-Switch.ensures c.push_line-in-Switch.ensures))

pub push_node-returns-in_ok-push_part_unless_empty-in-Loop : goal.push_node-returns-in_ok-push_part_unless_empty-in-Loop
push_node-returns-in_ok-push_part_unless_empty-in-Loop t c =
    let body = c.in_ok-push_part-in-Loop.ensures
    ∙ ap (λ to. c.args.text.now ++ part_text c.args.margin.now (codes "loop {\n") (tree_text (deeper c.args.margin.now) to (tree_of c.in-Loop.body.now))) c.inner_at-in-Loop.ensures
    in
    let continuing = c.in_ok-push_part_unless_empty-in-Loop.ensures
    ∙ ap (λ to. c.push_part-in-Loop.new.text ++ unless_empty (tree_of c.in-Loop.continuing.now) (part_text c.args.margin.now (codes "} continuing {\n") (tree_text (deeper c.args.margin.now) to (tree_of c.in-Loop.continuing.now)))) c.inner_at-in-Loop-2.ensures
    in
    OnOk-node c.push_loop_end.result c.args.margin.now (optional_tree (option_copied c.args.old)) c.args.position c.args.text.now c.push_loop_end.new.text c.args.statement.now _
    (c.control.ensures.node ∙ ap (node_of_control c.args.statement.now) c.in-Loop.is)
    (OnOk-after c.push_loop_end.result c.args.text.now c.push_part-in-Loop.new.text c.push_loop_end.new.text _ _ body
    (OnOk-after c.push_loop_end.result c.push_part-in-Loop.new.text c.push_part_unless_empty-in-Loop.new.text c.push_loop_end.new.text _ _ continuing c.push_loop_end.ensures))

pub push_node-returns-in-Return : goal.push_node-returns-in-Return
push_node-returns-in-Return t c =
    OnOk-node c.push_return.result c.args.margin.now (optional_tree (option_copied c.args.old)) c.args.position c.args.text.now c.push_return.new.text c.args.statement.now _
    (c.control.ensures.node ∙ ap (node_of_control c.args.statement.now) c.in-Return.is)
    (subst (λ marked. OnOk c.push_return.result (c.push_return.new.text ≡ c.args.text.now ++ return_text c.args.margin.now marked c.in-Return.value)) c.is_inserted.ensures c.push_return.ensures)

-- ---- cases

pub push_cases-loop-index-preserved : goal.push_cases-loop-index-preserved
push_cases-loop-index-preserved t c =
    cases_text-next c.args.margin.now (optional_tree (option_copied c.args.old)) c.args.position c.args.cases.now c.loop-index.index c.index-cases-index.result (optional_tree (option_copied c.inner_at.result)) c.loop-index.text c.push_case.new.text _
    c.loop-index-test.true c.index-cases-index.is c.inner_at.ensures c.in_ok-push_case.ensures c.loop-index.invariant
