use Rattle.std.proofs.Common.{◌≡◌, ◌∙◌, ◌∷◌, [], sym, subst, rules}
use Rattle.std.proofs.lemmas.List.{drop_all}
use Rattle.std.specs.declared.ops.ControlFlow.TheVariants.{Break, Continue}
use Rattle.naga_ir.specs.Block.{pairs}
use Rattle.naga_ir.specs.Tree.{branch, loop, nested, switch}
use Rattle.naga_ir.specs.View.{cases_of, node_of, tree_of}
use Rattle.naga_valid.proofs.IsRestLemmas.{IsRest-itself, IsRest-next}
use Rattle.naga_explain.specs.Statements.{Seeks, statements, statements_inside}
use Rattle.naga_explain.proofs.StatementsLemmas.{Completes-all, Completes-next, Completes-stopped, Seeks-broken_off, Seeks-fits, Seeks-here, Seeks-inside, Seeks-then, case_body, drop-here, each, refuted, statement_pair, statements-pairs, statements_in_cases-bodies}
use Rattle.naga_explain.proofs.statements.+seek.Goals as goal

-- ---- a block

pub seek_in_block-statements-init : goal.seek_in_block-statements-init
seek_in_block-statements-init t c =
    let is : c.into_iter-statement-iterator.result ≡ pairs c.args.block.now = c.into_iter-statement-iterator.ensures.into_iter_gives ∙ c.span_iter-statement-items.ensures in record {
      rest = IsRest-itself (λ _. Unit {0}) _ _ is;
      left = λ answer. subst (λ xs. Seeks c.args.reference.now (each statement_pair xs) c.args.met answer) is;
      fits = c.ranges.met.fits;
    }

pub seek_in_block-statements-preserved : goal.seek_in_block-statements-preserved
seek_in_block-statements-preserved t c = record {
  rest = IsRest-next (λ _. Unit {0}) _ _ _ _ c.in-Some.ensures.steps c.statements.invariant.rest tt;
  left = Completes-next c.args.reference.now statement_pair (each statement_pair (pairs c.args.block.now)) c.args.met c.statements.next _ _ _ c.in-Some.ensures.steps c.statements.invariant.left c.seek_in_statement.result c.seek_in_statement.ensures c.in-Continue.passed c.in-Continue.is;
  fits = Seeks-fits c.args.reference.now (node_of c.in-Some.statement.now ∷ statements_inside (node_of c.in-Some.statement.now)) c.statements.next c.in-Continue.passed c.seek_in_statement.result c.in-Continue.is c.seek_in_statement.ensures;
}

pub seek_in_block-returns-in-Break : goal.seek_in_block-returns-in-Break
seek_in_block-returns-in-Break t c =
    subst (λ xs. Seeks c.args.reference.now xs c.args.met (Break c.in-Break.number)) (sym (statements-pairs c.args.block.now))
    (Completes-stopped c.args.reference.now statement_pair _ c.args.met c.statements.next _ _ _ c.in-Some.ensures.steps c.statements.invariant.left c.seek_in_statement.result c.seek_in_statement.ensures c.in-Break.number c.in-Break.is)

pub seek_in_block-returns : goal.seek_in_block-returns
seek_in_block-returns t c =
    let is : c.statements.statement-iterator ≡ [] = search rules in
    subst (λ xs. Seeks c.args.reference.now xs c.args.met (Continue c.statements.next)) (sym (statements-pairs c.args.block.now))
    (Completes-all c.args.reference.now statement_pair _ c.args.met c.statements.next _ is c.statements.invariant.fits c.statements.invariant.left)

-- ---- the cases of a switch

pub seek_in_cases-cases-init : goal.seek_in_cases-cases-init
seek_in_cases-cases-init t c = record { left = λ answer seeks. seeks; fits = c.ranges.met.fits }

pub seek_in_cases-returns-in-Break : goal.seek_in_cases-returns-in-Break
seek_in_cases-returns-in-Break t c =
    subst (λ xs. Seeks c.args.reference.now xs c.args.met (Break c.in-Break.number)) (sym (statements_in_cases-bodies c.args.cases.now))
    (Completes-stopped c.args.reference.now case_body _ c.args.met c.cases.next _ _ _ (drop-here c.args.cases.now c.cases.case-index c.case-item.result c.cases-test.true c.case-item.is)
    c.cases.invariant.left c.seek_in_block.result c.seek_in_block.ensures c.in-Break.number c.in-Break.is)

pub seek_in_cases-cases-preserved : goal.seek_in_cases-cases-preserved
seek_in_cases-cases-preserved t c = record {
  left = Completes-next c.args.reference.now case_body (each case_body c.args.cases.now) c.args.met c.cases.next _ _ _ (drop-here c.args.cases.now c.cases.case-index c.case-item.result c.cases-test.true c.case-item.is)
      c.cases.invariant.left c.seek_in_block.result c.seek_in_block.ensures c.in-Continue.passed c.in-Continue.is;
  fits = Seeks-fits c.args.reference.now (case_body c.case-item.result) c.cases.next c.in-Continue.passed c.seek_in_block.result c.in-Continue.is c.seek_in_block.ensures;
}

pub seek_in_cases-returns : goal.seek_in_cases-returns
seek_in_cases-returns t c =
    subst (λ xs. Seeks c.args.reference.now xs c.args.met (Continue c.cases.next)) (sym (statements_in_cases-bodies c.args.cases.now))
    (Completes-all c.args.reference.now case_body _ c.args.met c.cases.next _ (drop_all c.cases.case-index c.args.cases.now c.cases-test.false) c.cases.invariant.fits c.cases.invariant.left)

-- ---- a statement

pub seek_in_statement-returns-then-refers : goal.seek_in_statement-returns-then-refers
seek_in_statement-returns-then-refers t c =
    Seeks-here c.args.reference.now c.args.met c.args.statement.now c.ranges.met.fits (c.refers.ensures.0 (search (rules, c.if-refers.true)))

pub seek_in_statement-returns-in-Block : goal.seek_in_statement-returns-in-Block
seek_in_statement-returns-in-Block t c =
    Seeks-inside c.args.reference.now c.args.met _ c.args.statement.now (nested (tree_of c.in-Block.inner.now)) _ c.in-Block.ensures.node
    (refuted c.refers.result c.refers.ensures c.if-refers.false) c.saturating_add-next.ensures c.seek_in_block.ensures

pub seek_in_statement-returns-in-Switch : goal.seek_in_statement-returns-in-Switch
seek_in_statement-returns-in-Switch t c =
    Seeks-inside c.args.reference.now c.args.met _ c.args.statement.now (switch c.in-Switch.selector (cases_of c.in-Switch.cases.now)) _ c.in-Switch.ensures.node
    (refuted c.refers.result c.refers.ensures c.if-refers.false) c.saturating_add-next.ensures c.seek_in_cases.ensures

pub seek_in_statement-returns-in-Continue : goal.seek_in_statement-returns-in-Continue
seek_in_statement-returns-in-Continue t c =
    Seeks-inside c.args.reference.now c.args.met _ c.args.statement.now (branch c.in-If.condition (tree_of c.in-If.accept.now) (tree_of c.in-If.reject.now)) _ c.in-If.ensures.node
    (refuted c.refers.result c.refers.ensures c.if-refers.false) c.saturating_add-next.ensures
    (Seeks-then c.args.reference.now (statements (tree_of c.in-If.accept.now)) (statements (tree_of c.in-If.reject.now)) _ c.in-Continue.accepted _ c.seek_in_block-in-If.ensures _ c.in-Continue.is c.seek_in_block-in-Continue.ensures)

pub seek_in_statement-returns-in-Break : goal.seek_in_statement-returns-in-Break
seek_in_statement-returns-in-Break t c =
    Seeks-inside c.args.reference.now c.args.met _ c.args.statement.now (branch c.in-If.condition (tree_of c.in-If.accept.now) (tree_of c.in-If.reject.now)) (Break c.in-Break.number) c.in-If.ensures.node
    (refuted c.refers.result c.refers.ensures c.if-refers.false) c.saturating_add-next.ensures
    (Seeks-broken_off c.args.reference.now (statements (tree_of c.in-If.accept.now)) (statements (tree_of c.in-If.reject.now)) _ c.args.met _ c.seek_in_block-in-If.ensures c.in-Break.number c.in-Break.is)

pub seek_in_statement-returns-in-Continue-seek_in_block : goal.seek_in_statement-returns-in-Continue-seek_in_block
seek_in_statement-returns-in-Continue-seek_in_block t c =
    Seeks-inside c.args.reference.now c.args.met _ c.args.statement.now (loop (tree_of c.in-Loop.body.now) (tree_of c.in-Loop.continuing.now) c.in-Loop.break_if) _ c.in-Loop.ensures.node
    (refuted c.refers.result c.refers.ensures c.if-refers.false) c.saturating_add-next.ensures
    (Seeks-then c.args.reference.now (statements (tree_of c.in-Loop.body.now)) (statements (tree_of c.in-Loop.continuing.now)) _ c.in-Continue-seek_in_block.repeated _ c.seek_in_block-in-Loop.ensures _ c.in-Continue-seek_in_block.is c.seek_in_block-in-Continue-seek_in_block.ensures)

pub seek_in_statement-returns-in-Break-seek_in_block : goal.seek_in_statement-returns-in-Break-seek_in_block
seek_in_statement-returns-in-Break-seek_in_block t c =
    Seeks-inside c.args.reference.now c.args.met _ c.args.statement.now (loop (tree_of c.in-Loop.body.now) (tree_of c.in-Loop.continuing.now) c.in-Loop.break_if) (Break c.in-Break-seek_in_block.number) c.in-Loop.ensures.node
    (refuted c.refers.result c.refers.ensures c.if-refers.false) c.saturating_add-next.ensures
    (Seeks-broken_off c.args.reference.now (statements (tree_of c.in-Loop.body.now)) (statements (tree_of c.in-Loop.continuing.now)) _ c.args.met _ c.seek_in_block-in-Loop.ensures c.in-Break-seek_in_block.number c.in-Break-seek_in_block.is)
