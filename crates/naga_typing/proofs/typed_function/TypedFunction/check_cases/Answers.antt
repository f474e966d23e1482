use Rattle.std.proofs.Common.{◌∙◌, ◌+◌, ◌∷◌, Some, ap, drop, map, subst, sym}
use Rattle.std.proofs.lemmas.List.{drop_all}
use Rattle.std.specs.Prelude.{All}
use Rattle.naga_flow.specs.Tracking.{IsFirstNot}
use Rattle.naga_flow.proofs.IsFirstNotLemmas.{IsLeft-end}
use Rattle.naga_flow.proofs.JumpsLemmas.{drop-here}
use Rattle.naga_typing.specs.TypedFunctions.{FitsIn}
use Rattle.naga_typing.proofs.ChecksLemmas.{IsLeft-met, IsLeft-unmet, of_case, of_cases-map}
use Rattle.naga_typing.proofs.typed_function.TypedFunction.check_cases.Goals as goal

pub returns-in-Some : goal.returns-in-Some
returns-in-Some c =
    let rest = map (of_case c.args.selector) (drop (c.cases.case-index + 1) c.args.cases.now) in
    subst (λ xs. IsFirstNot (FitsIn c.args.self.now) xs (Some c.in-Some.unmet)) (sym (of_cases-map c.args.selector c.args.cases.now))
    (IsLeft-unmet (FitsIn c.args.self.now) (map (of_case c.args.selector) (drop c.cases.case-index c.args.cases.now)) rest (map (of_case c.args.selector) c.args.cases.now) c.selects.result
    (ap (map (of_case c.args.selector)) (drop-here c.args.cases.now c.cases.case-index c.case-item.result c.cases-test.true c.case-item.is) ∙ ap (λ x. x ∷ rest) (sym c.selects.ensures))
    c.cases.invariant c.in-Some.unmet c.in-Some.ensures.0 c.in-Some.ensures.1)

pub cases-preserved : goal.cases-preserved
cases-preserved c =
    let rest = map (of_case c.args.selector) (drop (c.cases.case-index + 1) c.args.cases.now) in
    IsLeft-met (FitsIn c.args.self.now) (map (of_case c.args.selector) (drop c.cases.case-index c.args.cases.now)) rest (map (of_case c.args.selector) c.args.cases.now) c.selects.result
    (ap (map (of_case c.args.selector)) (drop-here c.args.cases.now c.cases.case-index c.case-item.result c.cases-test.true c.case-item.is) ∙ ap (λ x. x ∷ rest) (sym c.selects.ensures))
    c.cases.invariant c.in_default.ensures

pub returns : goal.returns
returns c =
    subst (All (FitsIn c.args.self.now)) (sym (of_cases-map c.args.selector c.args.cases.now))
    (IsLeft-end (FitsIn c.args.self.now) (map (of_case c.args.selector) (drop c.cases.case-index c.args.cases.now)) (map (of_case c.args.selector) c.args.cases.now)
    (ap (map (of_case c.args.selector)) (drop_all c.cases.case-index c.args.cases.now c.cases-test.false)) c.cases.invariant)
