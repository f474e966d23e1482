use Rattle.std.proofs.Common.{◌≡◌, ◌∙◌, ◌<◌, ◌∷◌, [], ap, sym, rules}
use Rattle.std.specs.List.{Contains}
use Rattle.std.specs.Prelude.{sum_by}
use Rattle.naga_ir.specs.Block.{statements}
use Rattle.naga_ir.specs.declared.block.Block.{size-Block}
use Rattle.naga_ir.specs.declared.statement.Statement.{size-Statement}
use Rattle.naga_valid.proofs.IsRestLemmas.{IsRest-first, IsRest-itself, IsRest-next}
use Rattle.naga_valid.proofs.ReferencesOfTreeLemmas.{size-contained}
use Rattle.naga_look.specs.Summary.{saturating_sum}
use Rattle.naga_look.proofs.CountsLemmas.{count_in_cases-each, count_of, count_of_case, statement_count-statements}
use Rattle.naga_look.proofs.SaturatingSumLemmas.{added-at, added-end, added-next, added-past, saturating_sum-fits}
use Rattle.naga_look.proofs.summary.statements.+statements.Goals as goal

-- ---- a block

pub add_statements-loop-statement-init : goal.add_statements-loop-statement-init
add_statements-loop-statement-init t c = record {
  rest = IsRest-itself (λ _. Unit {0}) _ _ c.into_iter-statement-iterator.ensures.into_iter_gives;
  added = ap (λ xs. saturating_sum c.args.counted (sum_by count_of xs)) c.into_iter-statement-iterator.ensures.into_iter_gives;
  fits = c.ranges.counted.fits;
}

pub add_statements-add_statement-total-requires : goal.add_statements-add_statement-total-requires
add_statements-add_statement-total-requires t c =
    let is : c.loop-statement.statement-iterator ≡ c.in-Some.statement.now ∷ c.next.new.self = c.in-Some.ensures.steps in
    let inside : Contains (statements c.args.block.now) c.in-Some.statement.now = IsRest-first (λ _. Unit {0}) _ _ _ _ is c.loop-statement.invariant.rest in
    let lt : size-Statement c.in-Some.statement.now < size-Block c.args.block.now = size-contained c.args.block.now c.in-Some.statement.now inside in
    (search (rules, lt), tt)

pub add_statements-loop-statement-preserved : goal.add_statements-loop-statement-preserved
add_statements-loop-statement-preserved t c =
    let is : c.loop-statement.statement-iterator ≡ c.in-Some.statement.now ∷ c.next.new.self = c.in-Some.ensures.steps in record {
      rest = IsRest-next (λ _. Unit {0}) _ _ _ _ is c.loop-statement.invariant.rest tt;
      added = added-next count_of c.loop-statement.total c.add_statement-total.result (saturating_sum c.args.counted (sum_by count_of (statements c.args.block.now))) c.loop-statement.statement-iterator c.next.new.self c.in-Some.statement.now is c.loop-statement.invariant.added c.add_statement-total.ensures;
      fits = saturating_sum-fits c.loop-statement.total c.add_statement-total.result _ c.add_statement-total.ensures;
    }

pub add_statements-returns : goal.add_statements-returns
add_statements-returns t c =
    let is : c.loop-statement.statement-iterator ≡ [] = search rules in
    added-end count_of c.loop-statement.total (saturating_sum c.args.counted (sum_by count_of (statements c.args.block.now))) c.loop-statement.statement-iterator is c.loop-statement.invariant.fits c.loop-statement.invariant.added
    ∙ ap (saturating_sum c.args.counted) (sym (statement_count-statements c.args.block.now))

-- ---- the cases of a switch

pub add_in_cases-loop-case-preserved : goal.add_in_cases-loop-case-preserved
add_in_cases-loop-case-preserved t c = record {
  added = added-at count_of_case c.loop-case.total c.add_statements-total.result (saturating_sum c.args.counted (sum_by count_of_case c.args.cases.now)) c.args.cases.now c.loop-case.case-index c.case-item.result c.loop-case-test.true c.case-item.is c.loop-case.invariant.added c.add_statements-total.ensures;
  fits = saturating_sum-fits c.loop-case.total c.add_statements-total.result _ c.add_statements-total.ensures;
}

pub add_in_cases-returns : goal.add_in_cases-returns
add_in_cases-returns t c =
    added-past count_of_case c.loop-case.total (saturating_sum c.args.counted (sum_by count_of_case c.args.cases.now)) c.args.cases.now c.loop-case.case-index c.loop-case-test.false c.loop-case.invariant.fits c.loop-case.invariant.added
    ∙ ap (saturating_sum c.args.counted) (sym (count_in_cases-each c.args.cases.now))
