use Rattle.std.proofs.Common.{◌≡◌, ◌∙◌, ◌∷◌, [], ap, sym, subst, rules, Ok, Err}
use Rattle.std.proofs.lemmas.List.{drop_all}
use Rattle.naga_ir.proofs.NodeOfLemmas.{node_of-Block, node_of-If, node_of-Loop, node_of-Switch}
use Rattle.naga_ir.specs.Block.{pairs}
use Rattle.naga_ir.specs.Tree.{branch, loop, nested, switch}
use Rattle.naga_ir.specs.View.{cases_of, node_of, tree_of}
use Rattle.naga_valid.proofs.IsRestLemmas.{IsRest-itself, IsRest-next}
use Rattle.naga_flow.specs.Jumps.{numbered}
use Rattle.naga_flow.proofs.JumpsLemmas.{drop-here}
use Rattle.naga_typing.specs.Checks.{Walks}
use Rattle.naga_typing.specs.Statements.{statements, statements_of_cases}
use Rattle.naga_typing.specs.TypedFunctions.{FitsIn}
use Rattle.naga_typing.proofs.StatementsLemmas.{each, statements-pairs, statements_of_body, statements_of_cases-bodies, statements_of_pair}
use Rattle.naga_typing.proofs.WalksLemmas.{Completes-all, Completes-ended, Completes-next, Walks-broken_off, Walks-fits, Walks-node, Walks-then, Walks-unmet}
use Rattle.naga_typing.proofs.typed_function.TypedFunction.+walk.Goals as goal

-- ---- a block

pub walk_block-statements-init : goal.walk_block-statements-init
walk_block-statements-init t c =
    let is : c.into_iter-statement-iterator.result ≡ pairs c.args.block.now = c.into_iter-statement-iterator.ensures.into_iter_gives ∙ c.span_iter-statement-items.ensures in record {
      rest = IsRest-itself (λ _. Unit {0}) _ _ is;
      left = λ result. subst (λ xs. Walks (FitsIn c.args.self.now) (each statements_of_pair xs) c.args.number result) is;
      fits = search rules;
    }

pub walk_block-statements-preserved : goal.walk_block-statements-preserved
walk_block-statements-preserved t c =
    let is : c.statements.statement-iterator ≡ (c.in-Some.statement.now, c.in-Some.span.now) ∷ c.next.new.self = c.in-Some.ensures.steps in record {
      rest = IsRest-next (λ _. Unit {0}) _ _ _ _ is c.statements.invariant.rest tt;
      left = Completes-next (FitsIn c.args.self.now) statements_of_pair (each statements_of_pair (pairs c.args.block.now)) c.args.number c.statements.met _ _ _ is c.statements.invariant.left
          c.walk_statement.result c.walk_statement.ensures c.in-Ok.after c.in-Ok.is;
      fits = Walks-fits (FitsIn c.args.self.now) (statements_of_pair (c.in-Some.statement.now, c.in-Some.span.now)) c.statements.met c.in-Ok.after c.walk_statement.result c.in-Ok.is c.walk_statement.ensures;
    }

pub walk_block-returns-in-Err : goal.walk_block-returns-in-Err
walk_block-returns-in-Err t c =
    let is : c.statements.statement-iterator ≡ (c.in-Some.statement.now, c.in-Some.span.now) ∷ c.next.new.self = c.in-Some.ensures.steps in
    subst (λ xs. Walks (FitsIn c.args.self.now) xs c.args.number (Err c.in-Err.mismatch)) (sym (statements-pairs c.args.block.now))
    (Completes-ended (FitsIn c.args.self.now) statements_of_pair (each statements_of_pair (pairs c.args.block.now)) c.args.number c.statements.met _ _ _ is c.statements.invariant.left
    c.walk_statement.result c.walk_statement.ensures c.in-Err.mismatch c.in-Err.is)

pub walk_block-returns : goal.walk_block-returns
walk_block-returns t c =
    let is : c.statements.statement-iterator ≡ [] = search rules in
    subst (λ xs. Walks (FitsIn c.args.self.now) xs c.args.number (Ok c.statements.met)) (sym (statements-pairs c.args.block.now))
    (Completes-all (FitsIn c.args.self.now) statements_of_pair (each statements_of_pair (pairs c.args.block.now)) c.args.number c.statements.met _ is c.statements.invariant.fits c.statements.invariant.left)

-- ---- the cases of a switch

pub walk_cases-cases-init : goal.walk_cases-cases-init
walk_cases-cases-init t c = record { left = λ result walks. walks; fits = search rules }

pub walk_cases-cases-preserved : goal.walk_cases-cases-preserved
walk_cases-cases-preserved t c = record {
  left = Completes-next (FitsIn c.args.self.now) statements_of_body (each statements_of_body c.args.cases.now) c.args.number c.cases.met _ _ _
      (drop-here c.args.cases.now c.cases.case-index c.case-item.result c.cases-test.true c.case-item.is)
      c.cases.invariant.left c.walk_block.result c.walk_block.ensures c.in-Ok.after c.in-Ok.is;
  fits = Walks-fits (FitsIn c.args.self.now) (statements_of_body c.case-item.result) c.cases.met c.in-Ok.after c.walk_block.result c.in-Ok.is c.walk_block.ensures;
}

pub walk_cases-returns-in-Err : goal.walk_cases-returns-in-Err
walk_cases-returns-in-Err t c =
    subst (λ xs. Walks (FitsIn c.args.self.now) xs c.args.number (Err c.in-Err.mismatch)) (sym (statements_of_cases-bodies c.args.cases.now))
    (Completes-ended (FitsIn c.args.self.now) statements_of_body (each statements_of_body c.args.cases.now) c.args.number c.cases.met _ _ _
    (drop-here c.args.cases.now c.cases.case-index c.case-item.result c.cases-test.true c.case-item.is)
    c.cases.invariant.left c.walk_block.result c.walk_block.ensures c.in-Err.mismatch c.in-Err.is)

pub walk_cases-returns : goal.walk_cases-returns
walk_cases-returns t c =
    subst (λ xs. Walks (FitsIn c.args.self.now) xs c.args.number (Ok c.cases.met)) (sym (statements_of_cases-bodies c.args.cases.now))
    (Completes-all (FitsIn c.args.self.now) statements_of_body (each statements_of_body c.args.cases.now) c.args.number c.cases.met _
    (drop_all c.cases.case-index c.args.cases.now c.cases-test.false) c.cases.invariant.fits c.cases.invariant.left)

-- ---- a statement

pub walk_statement-returns-in-Err : goal.walk_statement-returns-in-Err
walk_statement-returns-in-Err t c =
    Walks-unmet (FitsIn c.args.self.now) c.args.number c.args.span.now _ c.in-Err.requirement c.ranges.number.fits c.in-Err.ensures

pub walk_statement-returns-in-Block : goal.walk_statement-returns-in-Block
walk_statement-returns-in-Block t c =
    let one : c.saturating_add-next.result ≡ numbered c.args.number 1 = search rules in
    Walks-node (FitsIn c.args.self.now) c.args.number c.saturating_add-next.result c.args.span.now _ (nested (tree_of c.in-Block.inner)) c.walk_block.result
    (ap node_of c.in-Block.is ∙ node_of-Block _) c.in_default.ensures one c.walk_block.ensures

pub walk_statement-returns-in-Ok : goal.walk_statement-returns-in-Ok
walk_statement-returns-in-Ok t c =
    let one : c.saturating_add-next.result ≡ numbered c.args.number 1 = search rules in
    Walks-node (FitsIn c.args.self.now) c.args.number c.saturating_add-next.result c.args.span.now _ (branch c.in-If.condition (tree_of c.in-If.accept) (tree_of c.in-If.reject)) c.walk_block-in-Ok.result
    (ap node_of c.in-If.is ∙ node_of-If _ _ _) c.in_default.ensures one
    (Walks-then (FitsIn c.args.self.now) (statements (tree_of c.in-If.accept)) (statements (tree_of c.in-If.reject)) c.saturating_add-next.result c.in-Ok.after c.walk_block-in-If.result
    c.walk_block-in-If.ensures c.walk_block-in-Ok.result c.in-Ok.is c.walk_block-in-Ok.ensures)

pub walk_statement-returns-in-Err-walk_block : goal.walk_statement-returns-in-Err-walk_block
walk_statement-returns-in-Err-walk_block t c =
    let one : c.saturating_add-next.result ≡ numbered c.args.number 1 = search rules in
    Walks-node (FitsIn c.args.self.now) c.args.number c.saturating_add-next.result c.args.span.now _ (branch c.in-If.condition (tree_of c.in-If.accept) (tree_of c.in-If.reject)) (Err c.in-Err-walk_block.mismatch)
    (ap node_of c.in-If.is ∙ node_of-If _ _ _) c.in_default.ensures one
    (Walks-broken_off (FitsIn c.args.self.now) (statements (tree_of c.in-If.accept)) (statements (tree_of c.in-If.reject)) c.saturating_add-next.result 0 c.walk_block-in-If.result
    c.walk_block-in-If.ensures c.in-Err-walk_block.mismatch c.in-Err-walk_block.is)

pub walk_statement-returns-in-Switch : goal.walk_statement-returns-in-Switch
walk_statement-returns-in-Switch t c =
    let one : c.saturating_add-next.result ≡ numbered c.args.number 1 = search rules in
    Walks-node (FitsIn c.args.self.now) c.args.number c.saturating_add-next.result c.args.span.now _ (switch c.in-Switch.selector (cases_of c.in-Switch.cases.items)) c.walk_cases.result
    (ap node_of c.in-Switch.is ∙ node_of-Switch _ _) c.in_default.ensures one
    (subst (λ cases. Walks (FitsIn c.args.self.now) (statements_of_cases (cases_of cases)) c.saturating_add-next.result c.walk_cases.result)
    c.as_slice.ensures.value c.walk_cases.ensures)

pub walk_statement-returns-in-Ok-walk_block : goal.walk_statement-returns-in-Ok-walk_block
walk_statement-returns-in-Ok-walk_block t c =
    let one : c.saturating_add-next.result ≡ numbered c.args.number 1 = search rules in
    Walks-node (FitsIn c.args.self.now) c.args.number c.saturating_add-next.result c.args.span.now _ (loop (tree_of c.in-Loop.body) (tree_of c.in-Loop.continuing) c.in-Loop.break_if) c.walk_block-in-Ok-walk_block.result
    (ap node_of c.in-Loop.is ∙ node_of-Loop _ _ _) c.in_default.ensures one
    (Walks-then (FitsIn c.args.self.now) (statements (tree_of c.in-Loop.body)) (statements (tree_of c.in-Loop.continuing)) c.saturating_add-next.result c.in-Ok-walk_block.after c.walk_block-in-Loop.result
    c.walk_block-in-Loop.ensures c.walk_block-in-Ok-walk_block.result c.in-Ok-walk_block.is c.walk_block-in-Ok-walk_block.ensures)

pub walk_statement-returns-in-Err-walk_block-2 : goal.walk_statement-returns-in-Err-walk_block-2
walk_statement-returns-in-Err-walk_block-2 t c =
    let one : c.saturating_add-next.result ≡ numbered c.args.number 1 = search rules in
    Walks-node (FitsIn c.args.self.now) c.args.number c.saturating_add-next.result c.args.span.now _ (loop (tree_of c.in-Loop.body) (tree_of c.in-Loop.continuing) c.in-Loop.break_if) (Err c.in-Err-walk_block-2.mismatch)
    (ap node_of c.in-Loop.is ∙ node_of-Loop _ _ _) c.in_default.ensures one
    (Walks-broken_off (FitsIn c.args.self.now) (statements (tree_of c.in-Loop.body)) (statements (tree_of c.in-Loop.continuing)) c.saturating_add-next.result 0 c.walk_block-in-Loop.result
    c.walk_block-in-Loop.ensures c.in-Err-walk_block-2.mismatch c.in-Err-walk_block-2.is)
