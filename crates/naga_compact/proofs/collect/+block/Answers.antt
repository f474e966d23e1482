use Rattle.std.proofs.Common.{◌≡◌, ◌∙◌, ℕ, ◌+◌, ◌-◌, ◌<◌, ◌≤◌, List, ◌++◌, drop, length, ap, subst, sym, inl, inr, arith, rules}
use Rattle.std.proofs.lemmas.List.{length-map}
use Rattle.std.proofs.lemmas.Option.{none-some, slice_get_cases}
use Rattle.std.specs.List.{flat_map, fold}
use Rattle.naga_ir.proofs.SizeBlockLemmas.{size-statement_at}
use Rattle.naga_ir.specs.Block.{pairs, statements}
use Rattle.naga_ir.specs.Control.{node_of_control}
use Rattle.naga_ir.specs.View.{tree_of}
use Rattle.naga_ir.specs.declared.block.Block.{size-Block}
use Rattle.naga_ir.specs.declared.statement.Statement.{Statement, size-Statement}
use Rattle.naga_valid.specs.Statements.{references_of_statement, references_of_tree}
use Rattle.naga_valid.proofs.ReferencesOfTreeLemmas.{references_inside, references_inside-parts, references_of_blocks, references_of_case}
use Rattle.naga_compact.proofs.ReferencesOfBodyLemmas.{references_of_cases-each, references_of_tree-statements}
use Rattle.naga_compact.proofs.FoldLemmas.{drop-zero, fold-at, fold-found, fold-past, fold-three}
use Rattle.naga_valid.proofs.IsEmptyLemmas.{is_empty-false, is_empty-true}
use Rattle.naga_compact.proofs.collect.+block.Goals as goal

-- ---- a block

pub collect_block-collect_statement-requires : goal.collect_block-collect_statement-requires
collect_block-collect_statement-requires g t c =
    let lt : size-Statement c.in-Some.statement.now < size-Block c.args.block.now =
    size-statement_at c.args.block.now c.front.position c.in-Some.statement.now (sym c.in-Some.ensures)
    in
    λ κs within. (search (rules, lt), within)

pub collect_block-front-preserved : goal.collect_block-front-preserved
collect_block-front-preserved g t c =
    fold-found g.C.Collect.collected references_inside c.front.collector c.collect_statement.new.collector (fold g.C.Collect.collected c.args.collector.now (flat_map references_inside (statements c.args.block.now))) (statements c.args.block.now) c.front.position c.in-Some.statement.now (sym c.in-Some.ensures) c.front.invariant c.collect_statement.ensures

-- the loop ends before the last statement

pub collect_block-collect_statement-requires-2 : goal.collect_block-collect_statement-requires-2
collect_block-collect_statement-requires-2 g t c =
    let lt : size-Statement c.in-Some-get.statement.now < size-Block c.args.block.now =
    size-statement_at c.args.block.now (c.len-last.result - 1) c.in-Some-get.statement.now (sym c.in-Some-get.ensures)
    in
    λ κs within. (search (rules, lt), within)

pub collect_block-returns : goal.collect_block-returns
collect_block-returns g t c =
    let all : List Statement = statements c.args.block.now in
    let last : ℕ = c.len-last.result - 1 in
    let whole = fold g.C.Collect.collected c.args.collector.now (flat_map references_inside all) in
    let here : c.front.position ≡ last = omega (arith, c.front-test.false, c.front.auto.position-end) in
    let left = subst (λ k. fold g.C.Collect.collected c.front.collector (flat_map references_inside (drop k all)) ≡ whole) here c.front.invariant in
    let past : length all ≤ last + 1 = omega (arith, c.len-last.ensures, length-map (pairs c.args.block.now) (λ pair. pair.0)) in
    fold-past g.C.Collect.collected references_inside c.collect_statement-2.new.collector whole all (last + 1) past
    (fold-found g.C.Collect.collected references_inside c.front.collector c.collect_statement-2.new.collector whole all last c.in-Some-get.statement.now (sym c.in-Some-get.ensures) left c.collect_statement-2.ensures)
    ∙ ap (fold g.C.Collect.collected c.args.collector.now) (sym (references_of_tree-statements c.args.block.now))

pub collect_block-returns-then-is_empty : goal.collect_block-returns-then-is_empty
collect_block-returns-then-is_empty g t c =
    let none = is_empty-true (length (pairs c.args.block.now)) (sym c.is_empty.ensures ∙ c.if-is_empty.true) in
    let all : List Statement = statements c.args.block.now in
    fold-past g.C.Collect.collected references_inside c.args.collector.now (fold g.C.Collect.collected c.args.collector.now (flat_map references_inside all)) all 0 (omega (arith, none, length-map (pairs c.args.block.now) (λ pair. pair.0))) (ap (λ xs. fold g.C.Collect.collected c.args.collector.now (flat_map references_inside xs)) (drop-zero all))
    ∙ ap (fold g.C.Collect.collected c.args.collector.now) (sym (references_of_tree-statements c.args.block.now))

pub collect_block-unreachable-requires : goal.collect_block-unreachable-requires
collect_block-unreachable-requires g t c = elim (slice_get_cases (statements c.args.block.now) c.front.position).1 [
  | inl present ↦ none-some present.0 (c.in_default.ensures ∙ present.2)
  | inr past ↦ omega (arith, past.0, c.front-test.true, c.len-last.ensures, length-map (pairs c.args.block.now) (λ pair. pair.0))
]

pub collect_block-unreachable-requires-in_default-get : goal.collect_block-unreachable-requires-in_default-get
collect_block-unreachable-requires-in_default-get g t c =
    let more = is_empty-false (length (pairs c.args.block.now)) (sym c.is_empty.ensures ∙ c.if-is_empty.false) in
    elim (slice_get_cases (statements c.args.block.now) (c.len-last.result - 1)).1 [
      | inl present ↦ none-some present.0 (c.in_default-get.ensures ∙ present.2)
      | inr past ↦ omega (arith, past.0, more, c.len-last.ensures, length-map (pairs c.args.block.now) (λ pair. pair.0))
    ]

-- ---- a statement

pub collect_statement-returns-in-If : goal.collect_statement-returns-in-If
collect_statement-returns-in-If g t c =
    let before = c.args.collector.now in
    let s = c.args.statement.now in
    let node = c.control.ensures.node ∙ ap (node_of_control s) c.in-If.is in
    let own : c.collect_references.new.collector ≡ fold g.C.Collect.collected before (references_of_statement s) = c.collect_references.ensures in
    fold-three g.C.Collect.collected before c.collect_references.new.collector c.collect_block-in-If.new.collector c.collect_block-in-If-2.new.collector (references_of_statement s) (references_of_tree (tree_of c.in-If.accept.now)) (references_of_tree (tree_of c.in-If.reject.now)) own c.collect_block-in-If.ensures c.collect_block-in-If-2.ensures
    ∙ ap (fold g.C.Collect.collected before) (sym (references_inside-parts s ∙ ap (λ n. references_of_statement s ++ references_of_blocks n) node))

pub collect_statement-returns-in-Loop : goal.collect_statement-returns-in-Loop
collect_statement-returns-in-Loop g t c =
    let before = c.args.collector.now in
    let s = c.args.statement.now in
    let node = c.control.ensures.node ∙ ap (node_of_control s) c.in-Loop.is in
    let own : c.collect_references.new.collector ≡ fold g.C.Collect.collected before (references_of_statement s) = c.collect_references.ensures in
    fold-three g.C.Collect.collected before c.collect_references.new.collector c.collect_block-in-Loop.new.collector c.collect_block-in-Loop-2.new.collector (references_of_statement s) (references_of_tree (tree_of c.in-Loop.body.now)) (references_of_tree (tree_of c.in-Loop.continuing.now)) own c.collect_block-in-Loop.ensures c.collect_block-in-Loop-2.ensures
    ∙ ap (fold g.C.Collect.collected before) (sym (references_inside-parts s ∙ ap (λ n. references_of_statement s ++ references_of_blocks n) node))

-- ---- the cases of a switch

pub collect_cases-loop-case-preserved : goal.collect_cases-loop-case-preserved
collect_cases-loop-case-preserved g t c =
    fold-at g.C.Collect.collected references_of_case c.loop-case.collector c.collect_block.new.collector (fold g.C.Collect.collected c.args.collector.now (flat_map references_of_case c.args.cases.now)) c.args.cases.now c.loop-case.case-index c.case-item.result c.loop-case-test.true c.case-item.is c.loop-case.invariant c.collect_block.ensures

pub collect_cases-returns : goal.collect_cases-returns
collect_cases-returns g t c =
    fold-past g.C.Collect.collected references_of_case c.loop-case.collector (fold g.C.Collect.collected c.args.collector.now (flat_map references_of_case c.args.cases.now)) c.args.cases.now c.loop-case.case-index c.loop-case-test.false c.loop-case.invariant
    ∙ ap (fold g.C.Collect.collected c.args.collector.now) (sym (references_of_cases-each c.args.cases.now))
