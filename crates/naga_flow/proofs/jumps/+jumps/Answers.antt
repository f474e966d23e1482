use Rattle.std.proofs.Common.{◌≡◌, ◌∙◌, ◌∷◌, [], ap, sym, subst, refl, rules, Ok, Err}
use Rattle.std.proofs.lemmas.List.{drop_all}
use Rattle.naga_ir.specs.Block.{pairs}
use Rattle.naga_ir.specs.Tree.{branch, break, continue, kill, loop, nested, return, switch}
use Rattle.naga_ir.proofs.NodeOfLemmas.{node_of-Block, node_of-If, node_of-Loop, node_of-Switch}
use Rattle.naga_ir.specs.View.{cases_of, node_of, tree_of}
use Rattle.naga_valid.proofs.IsRestLemmas.{IsRest-itself, IsRest-next}
use Rattle.naga_flow.specs.Jumps.{Walks, placed, placed_in_cases, told}
use Rattle.naga_flow.specs.Structured.{in_body_of_loop, of_continuing}
use Rattle.naga_flow.specs.declared.misplaced_jump.MisplacedJump.{MisplacedJump}
use Rattle.naga_flow.proofs.JumpsLemmas.{Completes-all, Completes-ended, Completes-next, Walks-broken_off, Walks-fits, Walks-judged, Walks-node, Walks-then, drop-here, each, placed-pairs, placed_body, placed_in_cases-bodies, placed_pair}
use Rattle.naga_flow.proofs.jumps.+jumps.Goals as goal

-- ---- a block

pub walk_block-statements-init : goal.walk_block-statements-init
walk_block-statements-init t c =
    let is : c.into_iter-statement-iterator.result ≡ pairs c.args.block.now = c.into_iter-statement-iterator.ensures.into_iter_gives ∙ c.span_iter-statement-items.ensures in record {
      rest = IsRest-itself (λ _. Unit {0}) _ _ is;
      left = λ result. subst (λ xs. Walks (each (placed_pair c.args.around) xs) c.args.place.now.met result) is;
      fits = search rules;
    }

pub walk_block-statements-preserved : goal.walk_block-statements-preserved
walk_block-statements-preserved t c =
    let is : c.statements.statement-iterator ≡ (c.in-Some.statement.now, c.in-Some.span.now) ∷ c.next.new.self = c.in-Some.ensures.steps in
    let ok = ap (λ found. told found c.walk_statement.new.place) c.in_default.is in record {
      rest = IsRest-next (λ _. Unit {0}) _ _ _ _ is c.statements.invariant.rest tt;
      left = Completes-next (placed_pair c.args.around) (each (placed_pair c.args.around) (pairs c.args.block.now)) c.args.place.now.met c.statements.place.met _ _ _ is c.statements.invariant.left (told c.walk_statement.result c.walk_statement.new.place) c.walk_statement.ensures c.walk_statement.new.place.met ok;
      fits = Walks-fits (placed_pair c.args.around (c.in-Some.statement.now, c.in-Some.span.now)) c.statements.place.met c.walk_statement.new.place.met (told c.walk_statement.result c.walk_statement.new.place) ok c.walk_statement.ensures;
    }

pub walk_block-returns-in-Some-walk_statement : goal.walk_block-returns-in-Some-walk_statement
walk_block-returns-in-Some-walk_statement t c =
    let is : c.statements.statement-iterator ≡ (c.in-Some.statement.now, c.in-Some.span.now) ∷ c.next.new.self = c.in-Some.ensures.steps in
    let place = c.walk_statement.new.place in
    let fault : MisplacedJump = record { statement = place.met; span = place.span; jump = c.in-Some-walk_statement.jump } in
    subst (λ xs. Walks xs c.args.place.now.met (Err fault)) (sym (placed-pairs c.args.around c.args.block.now))
    (Completes-ended (placed_pair c.args.around) _ c.args.place.now.met c.statements.place.met _ _ _ is c.statements.invariant.left (told c.walk_statement.result place) c.walk_statement.ensures fault
    (ap (λ found. told found place) c.in-Some-walk_statement.is))

pub walk_block-returns : goal.walk_block-returns
walk_block-returns t c =
    let is : c.statements.statement-iterator ≡ [] = search rules in
    subst (λ xs. Walks xs c.args.place.now.met (Ok c.statements.place.met)) (sym (placed-pairs c.args.around c.args.block.now))
    (Completes-all (placed_pair c.args.around) _ c.args.place.now.met c.statements.place.met _ is c.statements.invariant.fits c.statements.invariant.left)

-- ---- the cases of a switch

pub walk_cases-cases-init : goal.walk_cases-cases-init
walk_cases-cases-init t c = record { left = λ result walks. walks; fits = search rules }

pub walk_cases-returns-in-Some : goal.walk_cases-returns-in-Some
walk_cases-returns-in-Some t c =
    let place = c.walk_block.new.place in
    let fault : MisplacedJump = record { statement = place.met; span = place.span; jump = c.in-Some.jump } in
    let walks = subst (λ inside. Walks (placed inside (tree_of c.case-item.result.body)) c.cases.place.met (told c.walk_block.result place)) c.in_case.ensures c.walk_block.ensures in
    subst (λ xs. Walks xs c.args.place.now.met (Err fault)) (sym (placed_in_cases-bodies c.args.around c.args.cases.now))
    (Completes-ended (placed_body c.args.around) _ c.args.place.now.met c.cases.place.met _ _ _ (drop-here c.args.cases.now c.cases.case-index c.case-item.result c.cases-test.true c.case-item.is)
    c.cases.invariant.left (told c.walk_block.result place) walks fault (ap (λ found. told found place) c.in-Some.is))

pub walk_cases-cases-preserved : goal.walk_cases-cases-preserved
walk_cases-cases-preserved t c =
    let place = c.walk_block.new.place in
    let ok = ap (λ found. told found place) c.in_default.is in
    let walks = subst (λ inside. Walks (placed inside (tree_of c.case-item.result.body)) c.cases.place.met (told c.walk_block.result place)) c.in_case.ensures c.walk_block.ensures in record {
      left = Completes-next (placed_body c.args.around) (each (placed_body c.args.around) c.args.cases.now) c.args.place.now.met c.cases.place.met _ _ _ (drop-here c.args.cases.now c.cases.case-index c.case-item.result c.cases-test.true c.case-item.is)
          c.cases.invariant.left (told c.walk_block.result place) walks place.met ok;
      fits = Walks-fits (placed_body c.args.around c.case-item.result) c.cases.place.met place.met (told c.walk_block.result place) ok walks;
    }

pub walk_cases-returns : goal.walk_cases-returns
walk_cases-returns t c =
    subst (λ xs. Walks xs c.args.place.now.met (Ok c.cases.place.met)) (sym (placed_in_cases-bodies c.args.around c.args.cases.now))
    (Completes-all (placed_body c.args.around) _ c.args.place.now.met c.cases.place.met _ (drop_all c.cases.case-index c.args.cases.now c.cases-test.false) c.cases.invariant.fits c.cases.invariant.left)

-- ---- a statement

pub walk_statement-returns-in-Block : goal.walk_statement-returns-in-Block
walk_statement-returns-in-Block t c =
    Walks-node c.args.place.now.met c.pass.new.self.met c.args.span.now c.args.around _ (nested (tree_of c.in-Block.inner)) (told c.walk_block.result c.walk_block.new.place) (ap node_of c.in-Block.is ∙ node_of-Block _) refl c.pass.ensures c.walk_block.ensures

pub walk_statement-returns-in-None : goal.walk_statement-returns-in-None
walk_statement-returns-in-None t c =
    Walks-node c.args.place.now.met c.pass-in-If.new.self.met c.args.span.now c.args.around _ (branch c.in-If.condition (tree_of c.in-If.accept) (tree_of c.in-If.reject)) (told c.walk_block-in-None.result c.walk_block-in-None.new.place)
    (ap node_of c.in-If.is ∙ node_of-If _ _ _) refl c.pass-in-If.ensures
    (Walks-then (placed c.args.around (tree_of c.in-If.accept)) (placed c.args.around (tree_of c.in-If.reject)) c.pass-in-If.new.self.met c.walk_block-in-If.new.place.met (told c.walk_block-in-If.result c.walk_block-in-If.new.place)
    c.walk_block-in-If.ensures (told c.walk_block-in-None.result c.walk_block-in-None.new.place) (ap (λ found. told found c.walk_block-in-If.new.place) c.in-None.is) c.walk_block-in-None.ensures)

pub walk_statement-returns-in-Some : goal.walk_statement-returns-in-Some
walk_statement-returns-in-Some t c =
    let place = c.walk_block-in-If.new.place in
    let fault : MisplacedJump = record { statement = place.met; span = place.span; jump = c.in-Some.jump } in
    Walks-node c.args.place.now.met c.pass-in-If.new.self.met c.args.span.now c.args.around _ (branch c.in-If.condition (tree_of c.in-If.accept) (tree_of c.in-If.reject)) (Err fault) (ap node_of c.in-If.is ∙ node_of-If _ _ _) refl c.pass-in-If.ensures
    (Walks-broken_off (placed c.args.around (tree_of c.in-If.accept)) (placed c.args.around (tree_of c.in-If.reject)) c.pass-in-If.new.self.met place.met (told c.walk_block-in-If.result place)
    c.walk_block-in-If.ensures fault (ap (λ found. told found place) c.in-Some.is))

pub walk_statement-returns-in-Switch : goal.walk_statement-returns-in-Switch
walk_statement-returns-in-Switch t c =
    let result = told c.walk_cases.result c.walk_cases.new.place in
    let walks = subst (λ cases. Walks (placed_in_cases c.args.around (cases_of cases)) c.pass-in-Switch.new.self.met result) c.deref.ensures.value c.walk_cases.ensures in
    Walks-node c.args.place.now.met c.pass-in-Switch.new.self.met c.args.span.now c.args.around _ (switch c.in-Switch.selector (cases_of c.in-Switch.cases.items)) result
    (ap node_of c.in-Switch.is ∙ node_of-Switch _ _) refl c.pass-in-Switch.ensures walks

pub walk_statement-returns-in-None-walk_block : goal.walk_statement-returns-in-None-walk_block
walk_statement-returns-in-None-walk_block t c =
    let place = c.walk_block-in-Loop.new.place in
    let result = told c.walk_block-in-None-walk_block.result c.walk_block-in-None-walk_block.new.place in
    let first = subst (λ exits. Walks (placed exits (tree_of c.in-Loop.body)) c.pass-in-Loop.new.self.met (told c.walk_block-in-Loop.result place)) c.in_body_of_loop.ensures c.walk_block-in-Loop.ensures in
    let second = subst (λ exits. Walks (placed exits (tree_of c.in-Loop.continuing)) place.met result) c.of_continuing.ensures c.walk_block-in-None-walk_block.ensures in
    Walks-node c.args.place.now.met c.pass-in-Loop.new.self.met c.args.span.now c.args.around _ (loop (tree_of c.in-Loop.body) (tree_of c.in-Loop.continuing) c.in-Loop.break_if) result (ap node_of c.in-Loop.is ∙ node_of-Loop _ _ _) refl c.pass-in-Loop.ensures
    (Walks-then (placed (in_body_of_loop c.args.around) (tree_of c.in-Loop.body)) (placed of_continuing (tree_of c.in-Loop.continuing)) c.pass-in-Loop.new.self.met place.met (told c.walk_block-in-Loop.result place)
    first result (ap (λ found. told found place) c.in-None-walk_block.is) second)

pub walk_statement-returns-in-Some-walk_block : goal.walk_statement-returns-in-Some-walk_block
walk_statement-returns-in-Some-walk_block t c =
    let place = c.walk_block-in-Loop.new.place in
    let fault : MisplacedJump = record { statement = place.met; span = place.span; jump = c.in-Some-walk_block.jump } in
    let first = subst (λ exits. Walks (placed exits (tree_of c.in-Loop.body)) c.pass-in-Loop.new.self.met (told c.walk_block-in-Loop.result place)) c.in_body_of_loop.ensures c.walk_block-in-Loop.ensures in
    Walks-node c.args.place.now.met c.pass-in-Loop.new.self.met c.args.span.now c.args.around _ (loop (tree_of c.in-Loop.body) (tree_of c.in-Loop.continuing) c.in-Loop.break_if) (Err fault) (ap node_of c.in-Loop.is ∙ node_of-Loop _ _ _) refl c.pass-in-Loop.ensures
    (Walks-broken_off (placed (in_body_of_loop c.args.around) (tree_of c.in-Loop.body)) (placed of_continuing (tree_of c.in-Loop.continuing)) c.pass-in-Loop.new.self.met place.met (told c.walk_block-in-Loop.result place)
    first fault (ap (λ found. told found place) c.in-Some-walk_block.is))

pub walk_statement-returns-in-Break : goal.walk_statement-returns-in-Break
walk_statement-returns-in-Break t c = Walks-judged c.args.place.now.met c.args.span.now c.args.around _ break _ c.judge.ensures.fits (ap node_of c.in-Break.is) c.judge.ensures.judged

pub walk_statement-returns-in-Continue : goal.walk_statement-returns-in-Continue
walk_statement-returns-in-Continue t c = Walks-judged c.args.place.now.met c.args.span.now c.args.around _ continue _ c.judge-in-Continue.ensures.fits (ap node_of c.in-Continue.is) c.judge-in-Continue.ensures.judged

pub walk_statement-returns-in-Return : goal.walk_statement-returns-in-Return
walk_statement-returns-in-Return t c = Walks-judged c.args.place.now.met c.args.span.now c.args.around _ (return c.in-Return.value) _ c.judge-in-Return.ensures.fits (ap node_of c.in-Return.is) c.judge-in-Return.ensures.judged

pub walk_statement-returns-in-Kill : goal.walk_statement-returns-in-Kill
walk_statement-returns-in-Kill t c = Walks-judged c.args.place.now.met c.args.span.now c.args.around _ kill _ c.judge-in-Kill.ensures.fits (ap node_of c.in-Kill.is) c.judge-in-Kill.ensures.judged
