use Rattle.std.proofs.Common.{◌≡◌, ◌∙◌, sym, ap, subst, length, ◌≤◌, false, arith}
use Rattle.std.proofs.lemmas.Bool.{or_from}
use Rattle.std.proofs.lemmas.List.{take_all}
use Rattle.std.proofs.lemmas.List.Folds.{list_any_at, list_any_more}
use Rattle.std.specs.List.{list_any}
use Rattle.naga_runs.proofs.BreaksOutLemmas.{body_breaks, a_case_breaks-any}
use Rattle.naga_runs.proofs.exits.a_case_breaks.Goals as goal

pub returns-then-leaves : goal.returns-then-leaves
returns-then-leaves c =
    sym (a_case_breaks-any c.args.cases.now ∙ list_any_at body_breaks c.args.cases.now c.loop-case.case-index c.case-item.result c.loop-case-test.true (ap body_breaks (sym c.case-item.is) ∙ sym c.breaks_out-leaves.ensures ∙ c.if-leaves.true))

pub loop-case-preserved : goal.loop-case-preserved
loop-case-preserved c =
    list_any_more body_breaks c.args.cases.now c.loop-case.case-index c.case-item.result c.loop-case-test.true
    ∙ or_from _ _ c.loop-case.invariant (ap body_breaks (sym c.case-item.is) ∙ sym c.breaks_out-leaves.ensures ∙ c.if-leaves.false)

pub returns : goal.returns
returns c =
    let past : length c.args.cases.now ≤ c.loop-case.case-index = omega (arith, c.loop-case-test.false) in
    let none : list_any body_breaks c.args.cases.now ≡ false =
    subst (λ cases. list_any body_breaks cases ≡ false) (take_all c.loop-case.case-index c.args.cases.now past) c.loop-case.invariant
    in
    sym (a_case_breaks-any c.args.cases.now ∙ none)
