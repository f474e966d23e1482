use Rattle.std.proofs.Common.{◌∙◌, ◌+◌, ◌∷◌, ap, drop, sym}
use Rattle.naga_flow.proofs.JumpsLemmas.{drop-here}
use Rattle.naga_typing.specs.Expressions.{of_components}
use Rattle.naga_typing.specs.TypedFunctions.{FitsIn}
use Rattle.naga_typing.proofs.ChecksLemmas.{IsLeft-met, IsLeft-unmet}
use Rattle.naga_typing.proofs.typed_function.TypedFunction.check_components.Goals as goal

pub returns-in-Some : goal.returns-in-Some
returns-in-Some c =
    let rest = of_components c.args.ty (c.components.position + 1) (drop (c.components.position + 1) c.args.components.now) in
    IsLeft-unmet (FitsIn c.args.self.now) (of_components c.args.ty c.components.position (drop c.components.position c.args.components.now)) rest
    (of_components c.args.ty 0 c.args.components.now) c.of-component.result
    (ap (of_components c.args.ty c.components.position) (drop-here c.args.components.now c.components.position c.index-components-position.result c.components-test.true c.index-components-position.is)
    ∙ ap (λ x. x ∷ rest) (sym c.of-component.ensures))
    c.components.invariant c.in-Some.unmet c.in-Some.ensures.0 c.in-Some.ensures.1

pub components-preserved : goal.components-preserved
components-preserved c =
    let rest = of_components c.args.ty (c.components.position + 1) (drop (c.components.position + 1) c.args.components.now) in
    IsLeft-met (FitsIn c.args.self.now) (of_components c.args.ty c.components.position (drop c.components.position c.args.components.now)) rest
    (of_components c.args.ty 0 c.args.components.now) c.of-component.result
    (ap (of_components c.args.ty c.components.position) (drop-here c.args.components.now c.components.position c.index-components-position.result c.components-test.true c.index-components-position.is)
    ∙ ap (λ x. x ∷ rest) (sym c.of-component.ensures))
    c.components.invariant c.in_default.ensures
