use Rattle.std.proofs.Common.{refl}
use Rattle.naga_valid.proofs.IsClosedOverLemmas.{IsClosedOver-within}
use Rattle.naga_valid.proofs.HandlesAreValidLemmas.{function_limits, HandlesAreValid-function_expressions}
use Rattle.naga_valid.proofs.laws.contexts.context_is_closed_over_function.Goals as goal

pub returns : goal.returns
returns c =
    let whole = c.args.module.now in
    let declared = c.args.function.now in
    IsClosedOver-within whole c.requires.valid c.args.ctx c.requires.context declared.expressions (function_limits whole c.args.handle declared)
    (HandlesAreValid-function_expressions whole c.requires.valid c.args.handle declared c.requires.found) (λ _. refl) (λ _. refl)
