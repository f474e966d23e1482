use Rattle.std.proofs.Common.{◌≡◌, ◌∙◌, ◌<◌, ◌++◌, ap, sym, rules}
use Rattle.std.specs.Prelude.{flat_map, option_copied}
use Rattle.std.specs.Iterator.Adapters.{enumerate_count, enumerate_source}
use Rattle.std.specs.List.{enumerate_from}
use Rattle.naga_ir.specs.Block.{statements}
use Rattle.naga_ir.specs.View.{tree_of}
use Rattle.naga_ir.specs.declared.block.Block.{size-Block}
use Rattle.naga_ir.specs.declared.statement.Statement.{size-Statement}
use Rattle.naga_text.specs.Counterparts.{optional_tree}
use Rattle.naga_text.proofs.PiecesLemmas.{OnOk-after, flat_map-next, flat_map-over}
use Rattle.naga_text.proofs.TreeTextLemmas.{AreLast-all, AreLast-lt, AreLast-next, enumerate_from-ahead}
use Rattle.naga_look.specs.Graph.Flow.{edge_to_case, tree_flow}
use Rattle.naga_look.proofs.FlowLemmas.{OnOk-same, cases_flow-next, step_of, tree_flow-each}
use Rattle.naga_look.proofs.graph.flow.+flow.Goals as goal

-- ---- a block

pub push_block-loop-position-init : goal.push_block-loop-position-init
push_block-loop-position-init t c =
    let iterator = c.into_iter-position-iterator.result in
    let are : enumerate_source iterator ≡ statements c.args.block.now =
    ap enumerate_source c.into_iter-position-iterator.ensures.into_iter_gives
    ∙ c.enumerate-position-items.ensures.source ∙ c.into_iter.ensures.into_iter_gives
    in
    let from : enumerate_count iterator ≡ 0 = ap enumerate_count c.into_iter-position-iterator.ensures.into_iter_gives ∙ c.enumerate-position-items.ensures.count in record {
      last = AreLast-all c.args.block.now (enumerate_source iterator) are;
      text = ap (λ xs. c.args.text.now ++ flat_map (step_of c.args.«module».now c.args.name.now (optional_tree (option_copied c.args.old))) xs)
          (ap (λ n. enumerate_from n (enumerate_source iterator)) from ∙ ap (enumerate_from 0) are);
    }

pub push_block-push_step-requires : goal.push_block-push_step-requires
push_block-push_step-requires t c =
    let lt : size-Statement c.in-Some.statement.now < size-Block c.args.block.now =
    AreLast-lt c.args.block.now c.in-Some.statement.now (enumerate_source c.next.new.self) (enumerate_source c.loop-position.position-iterator) c.in-Some.ensures.steps.0 c.loop-position.invariant.last
    in
    (search (rules, lt), tt)

pub push_block-loop-position-preserved : goal.push_block-loop-position-preserved
push_block-loop-position-preserved t c =
    let before = c.loop-position.position-iterator in
    let after = c.next.new.self in
    let ahead = enumerate_from-ahead (enumerate_count before) c.in-Some.position (enumerate_count after) c.in-Some.statement.now (enumerate_source after) (enumerate_source before)
    c.in-Some.ensures.steps.0 c.in-Some.ensures.steps.1 c.in-Some.ensures.steps.2
    in record {
      last = AreLast-next c.args.block.now c.in-Some.statement.now (enumerate_source after) (enumerate_source before) c.in-Some.ensures.steps.0 c.loop-position.invariant.last;
      text = flat_map-next (step_of c.args.«module».now c.args.name.now (optional_tree (option_copied c.args.old))) (c.in-Some.position, c.in-Some.statement.now)
          (enumerate_from (enumerate_count after) (enumerate_source after)) (enumerate_from (enumerate_count before) (enumerate_source before))
          c.loop-position.text c.push_step.new.text _ ahead c.in_ok-push_step.ensures c.loop-position.invariant.text;
    }

pub push_block-returns : goal.push_block-returns
push_block-returns t c =
    let left = c.loop-position.position-iterator in
    let one = step_of c.args.«module».now c.args.name.now (optional_tree (option_copied c.args.old)) in
    flat_map-over one (enumerate_from (enumerate_count left) (enumerate_source left)) c.loop-position.text _
    (ap (enumerate_from (enumerate_count left)) c.in-None.ensures.steps.0.0) c.loop-position.invariant.text
    ∙ ap (λ text. c.args.text.now ++ text) (sym (tree_flow-each c.args.«module».now c.args.name.now (optional_tree (option_copied c.args.old)) c.args.block.now))

-- ---- cases

pub push_cases-loop-index-preserved : goal.push_cases-loop-index-preserved
push_cases-loop-index-preserved t c =
    cases_flow-next c.args.«module».now c.args.name.now (optional_tree (option_copied c.args.old)) c.args.position c.args.cases.now c.loop-index.index c.index-cases-index.result (optional_tree (option_copied c.inner_at-old_body.result)) c.loop-index.text c.push_case.new.text _
    c.loop-index-test.true c.index-cases-index.is c.inner_at-old_body.ensures c.in_ok-push_case.ensures c.loop-index.invariant

-- ---- a case

pub push_case-returns : goal.push_case-returns
push_case-returns t c =
    let edge = c.in_ok-push_edge_to_case.ensures
    ∙ ap (λ inner. c.args.text.now ++ edge_to_case c.args.name.now inner c.args.case.now.value (tree_of c.args.case.now.body) c.args.case.now.fall_through) c.in_ok-inner.ensures
    in
    OnOk-after c.push_block.result c.args.text.now c.push_edge_to_case.new.text c.push_block.new.text _ _ edge
    (OnOk-same c.push_block.result c.push_edge_to_case.new.text c.push_block.new.text _ _
    (ap (λ inner. tree_flow c.args.«module».now inner (optional_tree (option_copied c.args.old)) (tree_of c.args.case.now.body)) c.in_ok-inner.ensures) c.push_block.ensures)
