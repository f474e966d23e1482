use Rattle.std.proofs.Common.{refl, length}
use Rattle.naga_valid.proofs.HandlesAreValidLemmas.{entry_limits, HandlesAreValid-entry_ChainsPrecede, HandlesAreValid-entry_expressions}
use Rattle.naga_valid.proofs.ReferencesOfExpressionLemmas.{EachIsWithin-compose}
use Rattle.naga_proc.proofs.Flattening.CanFlattenLemmas.{CanFlatten-compose}
use Rattle.naga_proc.proofs.laws.flattening.compose_of_entry_point_can_be_flattened.Goals as goal

pub returns : goal.returns
returns c =
    let whole = c.args.module.now in
    let each = HandlesAreValid-entry_expressions whole c.requires.valid c.args.position c.args.entry.now c.requires.owner in
    record {
      ty = EachIsWithin-compose c.args.entry.now.function.expressions (entry_limits whole c.args.entry.now.function) each (length whole.types) (λ _. refl) c.args.handle c.args.ty c.args.components.now c.requires.found;
      components = CanFlatten-compose c.args.entry.now.function.expressions c.args.handle c.args.ty c.args.components.now whole.types (HandlesAreValid-entry_ChainsPrecede whole c.requires.valid c.args.position c.args.entry.now c.requires.owner) c.requires.found;
    }
