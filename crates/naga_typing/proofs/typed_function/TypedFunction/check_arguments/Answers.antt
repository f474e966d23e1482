use Rattle.std.proofs.Common.{◌∙◌, ◌+◌, ◌∷◌, ap, drop, sym}
use Rattle.naga_flow.proofs.JumpsLemmas.{drop-here}
use Rattle.naga_typing.specs.Statements.{of_arguments}
use Rattle.naga_typing.specs.TypedFunctions.{FitsIn}
use Rattle.naga_typing.proofs.ChecksLemmas.{IsLeft-met, IsLeft-unmet}
use Rattle.naga_typing.proofs.typed_function.TypedFunction.check_arguments.Goals as goal

pub returns-in-Some : goal.returns-in-Some
returns-in-Some c =
    let rest = of_arguments c.args.function (c.arguments.position + 1) (drop (c.arguments.position + 1) c.args.arguments.now) in
    IsLeft-unmet (FitsIn c.args.self.now) (of_arguments c.args.function c.arguments.position (drop c.arguments.position c.args.arguments.now)) rest
    (of_arguments c.args.function 0 c.args.arguments.now) c.of_type-argument.result
    (ap (of_arguments c.args.function c.arguments.position) (drop-here c.args.arguments.now c.arguments.position c.index-arguments-position.result c.arguments-test.true c.index-arguments-position.is)
    ∙ ap (λ x. x ∷ rest) (sym c.of_type-argument.ensures))
    c.arguments.invariant c.in-Some.unmet c.in-Some.ensures.0 c.in-Some.ensures.1

pub arguments-preserved : goal.arguments-preserved
arguments-preserved c =
    let rest = of_arguments c.args.function (c.arguments.position + 1) (drop (c.arguments.position + 1) c.args.arguments.now) in
    IsLeft-met (FitsIn c.args.self.now) (of_arguments c.args.function c.arguments.position (drop c.arguments.position c.args.arguments.now)) rest
    (of_arguments c.args.function 0 c.args.arguments.now) c.of_type-argument.result
    (ap (of_arguments c.args.function c.arguments.position) (drop-here c.args.arguments.now c.arguments.position c.index-arguments-position.result c.arguments-test.true c.index-arguments-position.is)
    ∙ ap (λ x. x ∷ rest) (sym c.of_type-argument.ensures))
    c.arguments.invariant c.in_default.ensures
