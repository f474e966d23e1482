use Rattle.std.proofs.Common.{◌≡◌, ◌∙◌, ◌∷◌, [], sym, subst, rules}
use Rattle.std.proofs.lemmas.List.{drop_all}
use Rattle.naga_ir.specs.Block.{pairs}
use Rattle.naga_ir.specs.Tree.{branch, loop, nested, switch}
use Rattle.naga_ir.specs.View.{cases_of, tree_of}
use Rattle.naga_valid.proofs.IsRestLemmas.{IsRest-itself, IsRest-next}
use Rattle.naga_flow.specs.Jumps.{numbered}
use Rattle.naga_flow.proofs.JumpsLemmas.{drop-here}
use Rattle.naga_typing.specs.FunctionFaults.{WalksOver}
use Rattle.naga_typing.specs.Statements.{statements}
use Rattle.naga_typing.proofs.StatementsLemmas.{each, statements-pairs, statements_of_body, statements_of_cases-bodies, statements_of_pair}
use Rattle.naga_typing.proofs.WalksOverLemmas.{Completes-all, Completes-next, WalksOver-both_ok, WalksOver-fits, WalksOver-node_ok}
use Rattle.naga_typing.proofs.typed_function.TypedFunction.+push.Goals as goal

-- ---- a block

pub push_block-statements-init : goal.push_block-statements-init
push_block-statements-init t c =
    let is : c.into_iter-statement-iterator.result ≡ pairs c.args.block.now = c.into_iter-statement-iterator.ensures.into_iter_gives ∙ c.span_iter-statement-items.ensures in record {
      rest = IsRest-itself (λ _. Unit {0}) _ _ is;
      left = λ after new. subst (λ xs. WalksOver c.args.self.now c.args.limit (each statements_of_pair xs) c.args.number c.args.faults.now.items new after) is;
      fits = search rules;
    }

pub push_block-statements-preserved : goal.push_block-statements-preserved
push_block-statements-preserved t c =
    let is : c.statements.statement-iterator ≡ (c.in-Some.statement.now, c.in-Some.span.now) ∷ c.next.new.self = c.in-Some.ensures.steps in record {
      rest = IsRest-next (λ _. Unit {0}) _ _ _ _ is c.statements.invariant.rest tt;
      left = Completes-next c.args.self.now c.args.limit statements_of_pair (each statements_of_pair (pairs c.args.block.now)) c.args.number c.statements.met
          c.args.faults.now.items c.statements.faults.items c.in_ok-met.met c.push_statement.new.faults.items _ _ _ is c.statements.invariant.left c.in_ok-met.ensures;
      fits = WalksOver-fits c.args.self.now c.args.limit (statements_of_pair (c.in-Some.statement.now, c.in-Some.span.now)) c.statements.met c.in_ok-met.met
          c.statements.faults.items c.push_statement.new.faults.items c.in_ok-met.ensures;
    }

pub push_block-returns : goal.push_block-returns
push_block-returns t c =
    let is : c.statements.statement-iterator ≡ [] = search rules in
    subst (λ xs. WalksOver c.args.self.now c.args.limit xs c.args.number c.args.faults.now.items c.statements.faults.items c.statements.met) (sym (statements-pairs c.args.block.now))
    (Completes-all c.args.self.now c.args.limit statements_of_pair (each statements_of_pair (pairs c.args.block.now)) c.args.number c.statements.met
    c.args.faults.now.items c.statements.faults.items _ is c.statements.invariant.fits c.statements.invariant.left)

-- ---- the cases of a switch

pub push_cases-cases-preserved : goal.push_cases-cases-preserved
push_cases-cases-preserved t c = record {
  left = Completes-next c.args.self.now c.args.limit statements_of_body (each statements_of_body c.args.cases.now) c.args.number c.cases.met
      c.args.faults.now.items c.cases.faults.items c.in_ok-met.met c.push_block.new.faults.items _ _ _
      (drop-here c.args.cases.now c.cases.case-index c.case-item.result c.cases-test.true c.case-item.is)
      c.cases.invariant.left c.in_ok-met.ensures;
  fits = WalksOver-fits c.args.self.now c.args.limit (statements_of_body c.case-item.result) c.cases.met c.in_ok-met.met
      c.cases.faults.items c.push_block.new.faults.items c.in_ok-met.ensures;
}

pub push_cases-returns : goal.push_cases-returns
push_cases-returns t c =
    subst (λ xs. WalksOver c.args.self.now c.args.limit xs c.args.number c.args.faults.now.items c.cases.faults.items c.cases.met) (sym (statements_of_cases-bodies c.args.cases.now))
    (Completes-all c.args.self.now c.args.limit statements_of_body (each statements_of_body c.args.cases.now) c.args.number c.cases.met
    c.args.faults.now.items c.cases.faults.items _ (drop_all c.cases.case-index c.args.cases.now c.cases-test.false) c.cases.invariant.fits c.cases.invariant.left)

-- ---- a statement

pub push_statement-returns-in-Block : goal.push_statement-returns-in-Block
push_statement-returns-in-Block t c =
    let one : c.saturating_add-next.result ≡ numbered c.args.number 1 = search rules in
    WalksOver-node_ok c.args.self.now c.args.limit c.push_block.result c.args.number c.saturating_add-next.result c.args.span _ (nested (tree_of c.in-Block.inner.now))
    c.args.faults.now.items c.push_mismatch.new.faults.items c.push_block.new.faults.items c.in-Block.ensures.node c.ranges.number.fits c.in_ok-push_mismatch.ensures one c.push_block.ensures

pub push_statement-returns-in_ok-after-in-If : goal.push_statement-returns-in_ok-after-in-If
push_statement-returns-in_ok-after-in-If t c =
    let one : c.saturating_add-next.result ≡ numbered c.args.number 1 = search rules in
    WalksOver-node_ok c.args.self.now c.args.limit c.push_block-in-If-2.result c.args.number c.saturating_add-next.result c.args.span _ (branch c.in-If.condition (tree_of c.in-If.accept.now) (tree_of c.in-If.reject.now))
    c.args.faults.now.items c.push_mismatch.new.faults.items c.push_block-in-If-2.new.faults.items c.in-If.ensures.node c.ranges.number.fits c.in_ok-push_mismatch.ensures one
    (WalksOver-both_ok c.args.self.now c.args.limit c.push_block-in-If-2.result (statements (tree_of c.in-If.accept.now)) (statements (tree_of c.in-If.reject.now)) c.saturating_add-next.result c.in_ok-after-in-If.after
    c.push_mismatch.new.faults.items c.push_block-in-If.new.faults.items c.push_block-in-If-2.new.faults.items c.in_ok-after-in-If.ensures c.push_block-in-If-2.ensures)

pub push_statement-returns-in-Switch : goal.push_statement-returns-in-Switch
push_statement-returns-in-Switch t c =
    let one : c.saturating_add-next.result ≡ numbered c.args.number 1 = search rules in
    WalksOver-node_ok c.args.self.now c.args.limit c.push_cases.result c.args.number c.saturating_add-next.result c.args.span _ (switch c.in-Switch.selector (cases_of c.in-Switch.cases.now))
    c.args.faults.now.items c.push_mismatch.new.faults.items c.push_cases.new.faults.items c.in-Switch.ensures.node c.ranges.number.fits c.in_ok-push_mismatch.ensures one c.push_cases.ensures

pub push_statement-returns-in_ok-after-in-Loop : goal.push_statement-returns-in_ok-after-in-Loop
push_statement-returns-in_ok-after-in-Loop t c =
    let one : c.saturating_add-next.result ≡ numbered c.args.number 1 = search rules in
    WalksOver-node_ok c.args.self.now c.args.limit c.push_block-in-Loop-2.result c.args.number c.saturating_add-next.result c.args.span _ (loop (tree_of c.in-Loop.body.now) (tree_of c.in-Loop.continuing.now) c.in-Loop.break_if)
    c.args.faults.now.items c.push_mismatch.new.faults.items c.push_block-in-Loop-2.new.faults.items c.in-Loop.ensures.node c.ranges.number.fits c.in_ok-push_mismatch.ensures one
    (WalksOver-both_ok c.args.self.now c.args.limit c.push_block-in-Loop-2.result (statements (tree_of c.in-Loop.body.now)) (statements (tree_of c.in-Loop.continuing.now)) c.saturating_add-next.result c.in_ok-after-in-Loop.after
    c.push_mismatch.new.faults.items c.push_block-in-Loop.new.faults.items c.push_block-in-Loop-2.new.faults.items c.in_ok-after-in-Loop.ensures c.push_block-in-Loop-2.ensures)
