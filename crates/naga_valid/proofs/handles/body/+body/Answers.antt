use Rattle.std.proofs.Common.{◌≡◌, ◌∙◌, ℕ, ◌+◌, ◌-◌, ◌<◌, ◌≤◌, List, ◌++◌, length, take, ap, subst, sym, inl, inr, arith, rules}
use Rattle.std.proofs.lemmas.List.{length-map}
use Rattle.std.proofs.lemmas.Option.{get_or_from_slice_get, none-some, slice_get_cases, slice_get_within}
use Rattle.std.specs.List.{Contains}
use Rattle.std.specs.Prelude.{All}
use Rattle.naga_arena.proofs.AllLemmas.{All-take_all, All-take_more}
use Rattle.naga_ir.proofs.SizeBlockLemmas.{size-statement_at}
use Rattle.naga_ir.specs.Block.{pairs, statements}
use Rattle.naga_ir.specs.Control.{node_of_control}
use Rattle.naga_ir.specs.View.{cases_of, tree_of}
use Rattle.naga_ir.specs.declared.block.Block.{size-Block}
use Rattle.naga_ir.specs.declared.statement.Statement.{Statement, size-Statement}
use Rattle.naga_valid.specs.Limits.{AreWithin, IsWithin}
use Rattle.naga_valid.specs.Statements.{references_of_cases, references_of_tree}
use Rattle.naga_valid.proofs.FindsUnlikeLemmas.{FindsOutside-blocks, FindsOutside-own, FindsUnlike-left, FindsUnlike-right, Contains-slice_get, found-in_block, found-in_cases, found-last, nothing-found}
use Rattle.naga_valid.proofs.IsEmptyLemmas.{is_empty-false, is_empty-true}
use Rattle.naga_valid.proofs.ReferencesOfTreeLemmas.{AreWithin-block, AreWithin-cases, references_inside, references_of_blocks, references_of_case}
use Rattle.naga_valid.proofs.handles.body.+body.Goals as goal

pub first_outside_in_block-first_outside_in_statement-found-requires : goal.first_outside_in_block-first_outside_in_statement-found-requires
first_outside_in_block-first_outside_in_statement-found-requires t c =
    let lt : size-Statement c.in-Some.statement.now < size-Block c.args.block.now = size-statement_at c.args.block.now c.front.position c.in-Some.statement.now (sym c.in-Some.ensures) in
    (search (rules, lt), tt)

pub first_outside_in_block-returns-then-is_some : goal.first_outside_in_block-returns-then-is_some
first_outside_in_block-returns-then-is_some t c =
    let inside : Contains (statements c.args.block.now) c.in-Some.statement.now = Contains-slice_get (statements c.args.block.now) c.front.position c.in-Some.statement.now (sym c.in-Some.ensures) in
    found-in_block c.args.limits.now c.first_outside_in_statement-found.result c.args.block.now c.in-Some.statement.now inside (sym c.is_some.ensures ∙ c.if-is_some.true) c.first_outside_in_statement-found.ensures

pub first_outside_in_block-front-preserved : goal.first_outside_in_block-front-preserved
first_outside_in_block-front-preserved t c =
    let all : List Statement = statements c.args.block.now in
    let s : Statement = c.in-Some.statement.now in
    All-take_more (λ s. AreWithin c.args.limits.now (references_inside s)) all c.front.position s (slice_get_within all c.front.position s (sym c.in-Some.ensures)) (sym (get_or_from_slice_get all c.front.position s s (sym c.in-Some.ensures))) c.front.invariant
    (nothing-found c.args.limits.now c.first_outside_in_statement-found.result (references_inside c.in-Some.statement.now) (sym c.is_some.ensures ∙ c.if-is_some.false) c.first_outside_in_statement-found.ensures)

pub first_outside_in_block-returns : goal.first_outside_in_block-returns
first_outside_in_block-returns t c =
    let all : List Statement = statements c.args.block.now in
    let last : ℕ = c.len-last.result - 1 in
    let here : c.front.position ≡ last = omega (arith, c.front-test.false, c.front.auto.position-end) in
    let before = subst (λ k. All (λ s. AreWithin c.args.limits.now (references_inside s)) (take k all)) here c.front.invariant in
    let past : length all ≤ last + 1 = omega (arith, c.len-last.ensures, length-map (pairs c.args.block.now) (λ pair. pair.0)) in
    found-last c.args.limits.now c.args.block.now last c.in-Some-get.statement.now (sym c.in-Some-get.ensures) past before c.first_outside_in_statement.result c.first_outside_in_statement.ensures

pub first_outside_in_block-returns-then-is_empty : goal.first_outside_in_block-returns-then-is_empty
first_outside_in_block-returns-then-is_empty t c =
    let none = is_empty-true (length (pairs c.args.block.now)) (sym c.is_empty.ensures ∙ c.if-is_empty.true) in
    AreWithin-block c.args.limits.now c.args.block.now (λ k d within. absurd (omega (arith, none, within, length-map (pairs c.args.block.now) (λ pair. pair.0))))

-- the loop ends before the last statement

pub first_outside_in_block-unreachable-requires : goal.first_outside_in_block-unreachable-requires
first_outside_in_block-unreachable-requires t c = elim (slice_get_cases (statements c.args.block.now) c.front.position).1 [
  | inl present ↦ none-some present.0 (c.in_default.ensures ∙ present.2)
  | inr past ↦ omega (arith, past.0, c.front-test.true, c.len-last.ensures, length-map (pairs c.args.block.now) (λ pair. pair.0))
]

pub first_outside_in_block-unreachable-requires-in_default-get : goal.first_outside_in_block-unreachable-requires-in_default-get
first_outside_in_block-unreachable-requires-in_default-get t c =
    let more = is_empty-false (length (pairs c.args.block.now)) (sym c.is_empty.ensures ∙ c.if-is_empty.false) in
    elim (slice_get_cases (statements c.args.block.now) (c.len-last.result - 1)).1 [
      | inl present ↦ none-some present.0 (c.in_default-get.ensures ∙ present.2)
      | inr past ↦ omega (arith, past.0, more, c.len-last.ensures, length-map (pairs c.args.block.now) (λ pair. pair.0))
    ]

pub first_outside_in_block-first_outside_in_statement-requires : goal.first_outside_in_block-first_outside_in_statement-requires
first_outside_in_block-first_outside_in_statement-requires t c =
    let lt : size-Statement c.in-Some-get.statement.now < size-Block c.args.block.now = size-statement_at c.args.block.now (c.len-last.result - 1) c.in-Some-get.statement.now (sym c.in-Some-get.ensures) in
    (search (rules, lt), tt)

pub first_outside_in_cases-returns-then-is_some : goal.first_outside_in_cases-returns-then-is_some
first_outside_in_cases-returns-then-is_some t c =
    let inside : Contains c.args.cases.now c.case-item.result = (c.loop-case.case-index, c.loop-case-test.true, sym c.case-item.is) in
    found-in_cases c.args.limits.now c.first_outside_in_block-found.result c.args.cases.now c.case-item.result inside (sym c.is_some.ensures ∙ c.if-is_some.true) c.first_outside_in_block-found.ensures

pub first_outside_in_cases-loop-case-preserved : goal.first_outside_in_cases-loop-case-preserved
first_outside_in_cases-loop-case-preserved t c =
    All-take_more (λ x. AreWithin c.args.limits.now (references_of_case x)) _ _ _ c.loop-case-test.true c.case-item.is c.loop-case.invariant
    (nothing-found c.args.limits.now c.first_outside_in_block-found.result (references_of_case c.case-item.result) (sym c.is_some.ensures ∙ c.if-is_some.false) c.first_outside_in_block-found.ensures)

pub first_outside_in_cases-returns : goal.first_outside_in_cases-returns
first_outside_in_cases-returns t c =
    AreWithin-cases c.args.limits.now c.args.cases.now (All-take_all (λ x. AreWithin c.args.limits.now (references_of_case x)) _ _ c.loop-case-test.false c.loop-case.invariant)

pub first_outside_in_statement-returns-then-is_some : goal.first_outside_in_statement-returns-then-is_some
first_outside_in_statement-returns-then-is_some t c =
    FindsOutside-own c.args.limits.now c.args.statement.now c.first_outside-found.result c.first_outside-found.ensures (sym c.is_some.ensures ∙ c.if-is_some.true)

pub first_outside_in_statement-returns-then-is_some-2 : goal.first_outside_in_statement-returns-then-is_some-2
first_outside_in_statement-returns-then-is_some-2 t c =
    FindsOutside-blocks c.args.limits.now c.args.statement.now c.first_outside-found.result c.first_outside-found.ensures (sym c.is_some.ensures ∙ c.if-is_some.false)
    (references_of_tree (tree_of c.in-If.accept.now) ++ references_of_tree (tree_of c.in-If.reject.now)) c.first_outside_in_block-accepted.result
    (ap references_of_blocks (c.control.ensures.node ∙ ap (node_of_control c.args.statement.now) c.in-If.is))
    (FindsUnlike-left (IsWithin c.args.limits.now) (references_of_tree (tree_of c.in-If.accept.now)) (references_of_tree (tree_of c.in-If.reject.now)) c.first_outside_in_block-accepted.result (sym c.is_some-in-If.ensures ∙ c.if-is_some-2.true) c.first_outside_in_block-accepted.ensures)

pub first_outside_in_statement-returns-else-is_some-2 : goal.first_outside_in_statement-returns-else-is_some-2
first_outside_in_statement-returns-else-is_some-2 t c =
    FindsOutside-blocks c.args.limits.now c.args.statement.now c.first_outside-found.result c.first_outside-found.ensures (sym c.is_some.ensures ∙ c.if-is_some.false)
    (references_of_tree (tree_of c.in-If.accept.now) ++ references_of_tree (tree_of c.in-If.reject.now)) c.first_outside_in_block-in-If.result
    (ap references_of_blocks (c.control.ensures.node ∙ ap (node_of_control c.args.statement.now) c.in-If.is))
    (FindsUnlike-right (IsWithin c.args.limits.now) (references_of_tree (tree_of c.in-If.accept.now)) (references_of_tree (tree_of c.in-If.reject.now)) c.first_outside_in_block-accepted.result c.first_outside_in_block-in-If.result (sym c.is_some-in-If.ensures ∙ c.if-is_some-2.false) c.first_outside_in_block-accepted.ensures c.first_outside_in_block-in-If.ensures)

pub first_outside_in_statement-returns-then-is_some-3 : goal.first_outside_in_statement-returns-then-is_some-3
first_outside_in_statement-returns-then-is_some-3 t c =
    FindsOutside-blocks c.args.limits.now c.args.statement.now c.first_outside-found.result c.first_outside-found.ensures (sym c.is_some.ensures ∙ c.if-is_some.false)
    (references_of_tree (tree_of c.in-Loop.body.now) ++ references_of_tree (tree_of c.in-Loop.continuing.now)) c.first_outside_in_block-repeated.result
    (ap references_of_blocks (c.control.ensures.node ∙ ap (node_of_control c.args.statement.now) c.in-Loop.is))
    (FindsUnlike-left (IsWithin c.args.limits.now) (references_of_tree (tree_of c.in-Loop.body.now)) (references_of_tree (tree_of c.in-Loop.continuing.now)) c.first_outside_in_block-repeated.result (sym c.is_some-in-Loop.ensures ∙ c.if-is_some-3.true) c.first_outside_in_block-repeated.ensures)

pub first_outside_in_statement-returns-else-is_some-3 : goal.first_outside_in_statement-returns-else-is_some-3
first_outside_in_statement-returns-else-is_some-3 t c =
    FindsOutside-blocks c.args.limits.now c.args.statement.now c.first_outside-found.result c.first_outside-found.ensures (sym c.is_some.ensures ∙ c.if-is_some.false)
    (references_of_tree (tree_of c.in-Loop.body.now) ++ references_of_tree (tree_of c.in-Loop.continuing.now)) c.first_outside_in_block-in-Loop.result
    (ap references_of_blocks (c.control.ensures.node ∙ ap (node_of_control c.args.statement.now) c.in-Loop.is))
    (FindsUnlike-right (IsWithin c.args.limits.now) (references_of_tree (tree_of c.in-Loop.body.now)) (references_of_tree (tree_of c.in-Loop.continuing.now)) c.first_outside_in_block-repeated.result c.first_outside_in_block-in-Loop.result (sym c.is_some-in-Loop.ensures ∙ c.if-is_some-3.false) c.first_outside_in_block-repeated.ensures c.first_outside_in_block-in-Loop.ensures)

pub first_outside_in_statement-returns-in-Switch : goal.first_outside_in_statement-returns-in-Switch
first_outside_in_statement-returns-in-Switch t c =
    FindsOutside-blocks c.args.limits.now c.args.statement.now c.first_outside-found.result c.first_outside-found.ensures (sym c.is_some.ensures ∙ c.if-is_some.false)
    (references_of_cases (cases_of c.in-Switch.cases.now)) c.first_outside_in_cases.result
    (ap references_of_blocks (c.control.ensures.node ∙ ap (node_of_control c.args.statement.now) c.in-Switch.is))
    c.first_outside_in_cases.ensures
