use Rattle.std.proofs.Common.{◌∙◌, ◌+◌, ◌∷◌, ap, drop, sym}
use Rattle.naga_typing.specs.Expressions.{of_pattern}
use Rattle.naga_typing.specs.TypedFunctions.{FitsIn}
use Rattle.naga_typing.proofs.ChecksLemmas.{IsLeft-met, IsLeft-unmet}
use Rattle.naga_typing.proofs.PatternsLemmas.{place-here}
use Rattle.naga_typing.proofs.typed_function.TypedFunction.check_pattern.Goals as goal

pub returns-in-Some : goal.returns-in-Some
returns-in-Some c =
    let rest = of_pattern c.args.vector (drop (c.pattern.position + 1) c.args.pattern.now) in
    IsLeft-unmet (FitsIn c.args.self.now) (of_pattern c.args.vector (drop c.pattern.position c.args.pattern.now)) rest
    (of_pattern c.args.vector c.args.pattern.now) c.place_at-slot.result
    (place-here c.args.vector c.args.pattern.now c.pattern.position c.pattern-test.true ∙ ap (λ x. x ∷ rest) (sym c.place_at-slot.ensures))
    c.pattern.invariant c.in-Some.unmet c.in-Some.ensures.0 c.in-Some.ensures.1

pub pattern-preserved : goal.pattern-preserved
pattern-preserved c =
    let rest = of_pattern c.args.vector (drop (c.pattern.position + 1) c.args.pattern.now) in
    IsLeft-met (FitsIn c.args.self.now) (of_pattern c.args.vector (drop c.pattern.position c.args.pattern.now)) rest
    (of_pattern c.args.vector c.args.pattern.now) c.place_at-slot.result
    (place-here c.args.vector c.args.pattern.now c.pattern.position c.pattern-test.true ∙ ap (λ x. x ∷ rest) (sym c.place_at-slot.ensures))
    c.pattern.invariant c.in_default.ensures
