use Rattle.std.proofs.Common.{◌≡◌, ◌∙◌, ◌-◌, ◌<◌, Some, ap, length, sym, rules}
use Rattle.std.specs.Option.{option_copied}
use Rattle.std.specs.Prelude.{slice_get, sum_by}
use Rattle.naga_ir.specs.Block.{pairs, statements}
use Rattle.naga_ir.specs.declared.block.Block.{size-Block}
use Rattle.naga_ir.specs.declared.statement.Statement.{size-Statement}
use Rattle.naga_ir.proofs.SizeBlockLemmas.{size-statement_at}
use Rattle.naga_look.specs.Counts.{open_in_case}
use Rattle.naga_look.specs.Summary.{saturating_sum}
use Rattle.naga_look.proofs.CountsLemmas.{open_in_cases-each, open_tails-last, open_tails-none}
use Rattle.naga_look.proofs.SaturatingSumLemmas.{added-at, added-past, saturating_sum-fits}
use Rattle.naga_look.proofs.summary.tails.+tails.Goals as goal

-- ---- a block

pub add_open_tails-returns-in_default : goal.add_open_tails-returns-in_default
add_open_tails-returns-in_default t c =
    c.saturating_add.ensures ∙ ap (saturating_sum c.args.counted) (sym (open_tails-none c.args.rule c.args.block.now (sym c.last.ensures ∙ ap option_copied c.in_default.is)))

pub add_open_tails-add_open_at-requires : goal.add_open_tails-add_open_at-requires
add_open_tails-add_open_at-requires t c =
    let found : slice_get (statements c.args.block.now) (length (pairs c.args.block.now) - 1) ≡ Some c.in-Some.last.now = sym c.in-Some.ensures in
    let lt : size-Statement c.in-Some.last.now < size-Block c.args.block.now = size-statement_at c.args.block.now (length (pairs c.args.block.now) - 1) c.in-Some.last.now found in
    (search (rules, lt), tt)

pub add_open_tails-returns : goal.add_open_tails-returns
add_open_tails-returns t c =
    c.add_open_at.ensures ∙ ap (saturating_sum c.args.counted) (sym (open_tails-last c.args.rule c.args.block.now c.in-Some.last.now (sym c.in-Some.ensures)))

-- ---- the cases of a switch

pub add_open_in_cases-loop-case-preserved : goal.add_open_in_cases-loop-case-preserved
add_open_in_cases-loop-case-preserved t c = record {
  added = added-at (open_in_case c.args.rule) c.loop-case.total c.add_open_in_case-total.result (saturating_sum c.args.counted (sum_by (open_in_case c.args.rule) c.args.cases.now)) c.args.cases.now c.loop-case.case-index c.case-item.result c.loop-case-test.true c.case-item.is c.loop-case.invariant.added c.add_open_in_case-total.ensures;
  fits = saturating_sum-fits c.loop-case.total c.add_open_in_case-total.result _ c.add_open_in_case-total.ensures;
}

pub add_open_in_cases-returns : goal.add_open_in_cases-returns
add_open_in_cases-returns t c =
    added-past (open_in_case c.args.rule) c.loop-case.total (saturating_sum c.args.counted (sum_by (open_in_case c.args.rule) c.args.cases.now)) c.args.cases.now c.loop-case.case-index c.loop-case-test.false c.loop-case.invariant.fits c.loop-case.invariant.added
    ∙ ap (saturating_sum c.args.counted) (sym (open_in_cases-each c.args.rule c.args.cases.now))
