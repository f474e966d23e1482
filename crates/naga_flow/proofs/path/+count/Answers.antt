use Rattle.std.proofs.Common.{◌≡◌, ◌∙◌, ◌<◌, ◌∷◌, [], ap, sym, rules}
use Rattle.std.proofs.lemmas.List.{drop_all}
use Rattle.std.specs.List.{Contains}
use Rattle.naga_ir.specs.Block.{statements}
use Rattle.naga_ir.specs.declared.block.Block.{size-Block}
use Rattle.naga_ir.specs.declared.statement.Statement.{size-Statement}
use Rattle.naga_valid.proofs.IsRestLemmas.{IsRest-first, IsRest-itself, IsRest-next}
use Rattle.naga_valid.proofs.ReferencesOfTreeLemmas.{size-contained}
use Rattle.naga_flow.proofs.JumpsLemmas.{drop-here}
use Rattle.naga_flow.proofs.PathsLemmas.{count_in, count_of, counted-behind, counted-either, counts, counts-case, counts-cases, counts-none, counts-statement, counts-statements}
use Rattle.naga_ir.specs.View.{node_of, tree_of}
use Rattle.naga_flow.specs.Paths.{counted, paths_in, paths_inside, step_text}
use Rattle.naga_flow.specs.declared.path.Step.TheVariants as step
use Rattle.naga_flow.proofs.path.+count.Goals as goal

-- ---- a block

pub count_statements-statements-init : goal.count_statements-statements-init
count_statements-statements-init t c =
    let is : c.into_iter-statement-iterator.result ≡ statements c.args.block.now = c.into_iter-statement-iterator.ensures.into_iter_gives in record {
      rest = IsRest-itself (λ _. Unit {0}) _ _ is;
      whole = ap (λ xs. counts 0 (count_of xs)) is ∙ counts-statements c.args.block.now;
      fits = search rules;
    }

pub count_statements-count_inside-requires : goal.count_statements-count_inside-requires
count_statements-count_inside-requires t c =
    let is : c.statements.statement-iterator ≡ c.in-Some.statement.now ∷ c.next.new.self = c.in-Some.ensures.steps in
    let inside : Contains (statements c.args.block.now) c.in-Some.statement.now = IsRest-first (λ _. Unit {0}) _ _ _ _ is c.statements.invariant.rest in
    let lt : size-Statement c.in-Some.statement.now < size-Block c.args.block.now = size-contained c.args.block.now c.in-Some.statement.now inside in
    (search (rules, lt), tt)

pub count_statements-statements-preserved : goal.count_statements-statements-preserved
count_statements-statements-preserved t c =
    let is : c.statements.statement-iterator ≡ c.in-Some.statement.now ∷ c.next.new.self = c.in-Some.ensures.steps in
    let next : c.saturating_add-count.result ≡ counts (counts c.statements.count 1) (counted (paths_inside (node_of c.in-Some.statement.now))) =
    c.saturating_add-count.ensures ∙ (λ i. counts (c.saturating_add.ensures i) (c.count_inside.ensures i)) in record {
      rest = IsRest-next (λ _. Unit {0}) _ _ _ _ is c.statements.invariant.rest tt;
      whole = counts-statement c.statements.count c.in-Some.statement.now _ _ _ is next ∙ c.statements.invariant.whole;
      fits = search rules;
    }

pub count_statements-returns : goal.count_statements-returns
count_statements-returns t c =
    let is : c.statements.statement-iterator ≡ [] = search rules in
    counts-none c.statements.count c.statements.invariant.fits
    ∙ (ap (λ xs. counts c.statements.count (count_of xs)) (sym is) ∙ c.statements.invariant.whole)

-- ---- the cases of a switch

pub count_in_cases-cases-init : goal.count_in_cases-cases-init
count_in_cases-cases-init t c = record { whole = counts-cases c.args.cases.now; fits = search rules }

pub count_in_cases-cases-preserved : goal.count_in_cases-cases-preserved
count_in_cases-cases-preserved t c =
    let next : c.saturating_add-count.result ≡ counts c.cases.count (counted (paths_in (tree_of c.case-item.result.body))) =
    c.saturating_add-count.ensures ∙ ap (counts c.cases.count) c.count_statements.ensures in record {
      whole =
          counts-case c.cases.count c.case-item.result _ _ _ (drop-here c.args.cases.now c.cases.case-index c.case-item.result c.cases-test.true c.case-item.is) next
          ∙ c.cases.invariant.whole;
      fits = search rules;
    }

pub count_in_cases-returns : goal.count_in_cases-returns
count_in_cases-returns t c =
    counts-none c.cases.count c.cases.invariant.fits
    ∙ (ap (λ xs. counts c.cases.count (count_in xs)) (sym (drop_all c.cases.case-index c.args.cases.now c.cases-test.false)) ∙ c.cases.invariant.whole)

-- ---- a statement

pub count_inside-returns-in-Block : goal.count_inside-returns-in-Block
count_inside-returns-in-Block t c =
    c.count_statements.ensures
    ∙ (counted-behind (step_text step.Block) (paths_in (tree_of c.in-Block.inner.now)) ∙ ap (λ node. counted (paths_inside node)) (sym c.in-Block.ensures.node))

pub count_inside-returns-in-If : goal.count_inside-returns-in-If
count_inside-returns-in-If t c =
    let accept = paths_in (tree_of c.in-If.accept.now) in
    let reject = paths_in (tree_of c.in-If.reject.now) in
    c.saturating_add.ensures
    ∙ ((λ i. counts (c.count_statements-in-If.ensures i) (c.count_statements-in-If-2.ensures i))
    ∙ (counted-either (step.Accept, step.Reject) accept reject ∙ ap (λ node. counted (paths_inside node)) (sym c.in-If.ensures.node)))

pub count_inside-returns-in-Loop : goal.count_inside-returns-in-Loop
count_inside-returns-in-Loop t c =
    let body = paths_in (tree_of c.in-Loop.body.now) in
    let continuing = paths_in (tree_of c.in-Loop.continuing.now) in
    c.saturating_add-in-Loop.ensures
    ∙ ((λ i. counts (c.count_statements-in-Loop.ensures i) (c.count_statements-in-Loop-2.ensures i))
    ∙ (counted-either (step.Body, step.Continuing) body continuing ∙ ap (λ node. counted (paths_inside node)) (sym c.in-Loop.ensures.node)))
