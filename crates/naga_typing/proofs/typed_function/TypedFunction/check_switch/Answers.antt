use Rattle.std.proofs.Common.{◌∷◌, [], Some, subst}
use Rattle.naga_flow.specs.Tracking.{IsFirstNot}
use Rattle.naga_ir.specs.View.{cases_of}
use Rattle.naga_typing.specs.Checks.{Checks}
use Rattle.naga_typing.specs.Statements.{of_cases}
use Rattle.naga_typing.specs.TypedFunctions.{FitsIn}
use Rattle.naga_typing.proofs.ChecksLemmas.{Checks-ended, Checks-then, one-met, one-unmet}
use Rattle.naga_typing.proofs.typed_function.TypedFunction.check_switch.Goals as goal

pub returns-in-Some : goal.returns-in-Some
returns-in-Some c =
    let rest = of_cases c.args.selector (cases_of c.args.cases.now) in
    subst (λ x. IsFirstNot (FitsIn c.args.self.now) (x ∷ rest) (Some c.in-Some.unmet)) c.integer.ensures
    (Checks-ended (FitsIn c.args.self.now) (c.integer.result ∷ []) rest c.in-Some.unmet
    (one-unmet (FitsIn c.args.self.now) c.integer.result c.in-Some.unmet c.in-Some.ensures.0 c.in-Some.ensures.1))

pub returns : goal.returns
returns c =
    let rest = of_cases c.args.selector (cases_of c.args.cases.now) in
    subst (λ x. Checks (FitsIn c.args.self.now) (x ∷ rest) c.check_cases.result) c.integer.ensures
    (Checks-then (FitsIn c.args.self.now) (c.integer.result ∷ []) rest c.check_cases.result
    (one-met (FitsIn c.args.self.now) c.integer.result c.in_default.ensures) c.check_cases.ensures)
