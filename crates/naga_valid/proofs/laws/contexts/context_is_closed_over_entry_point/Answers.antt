use Rattle.std.proofs.Common.{refl}
use Rattle.naga_valid.proofs.IsClosedOverLemmas.{IsClosedOver-within}
use Rattle.naga_valid.proofs.HandlesAreValidLemmas.{entry_limits, HandlesAreValid-entry_expressions}
use Rattle.naga_valid.proofs.laws.contexts.context_is_closed_over_entry_point.Goals as goal

pub returns : goal.returns
returns c =
    let whole = c.args.module.now in
    let declared = c.args.entry.now.function in
    IsClosedOver-within whole c.requires.valid c.args.ctx c.requires.context declared.expressions (entry_limits whole declared)
    (HandlesAreValid-entry_expressions whole c.requires.valid c.args.position c.args.entry.now c.requires.found) (λ _. refl) (λ _. refl)
