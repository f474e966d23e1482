use Rattle.std.proofs.Common.{refl, length}
use Rattle.naga_valid.proofs.HandlesAreValidLemmas.{global_limits, HandlesAreValid-ChainsPrecede, HandlesAreValid-global_expressions}
use Rattle.naga_valid.proofs.ReferencesOfExpressionLemmas.{EachIsWithin-compose}
use Rattle.naga_proc.proofs.Flattening.CanFlattenLemmas.{CanFlatten-compose}
use Rattle.naga_proc.proofs.laws.flattening.global_compose_can_be_flattened.Goals as goal

pub returns : goal.returns
returns c =
    let whole = c.args.module.now in
    let each = HandlesAreValid-global_expressions whole c.requires.valid in
    record {
      ty = EachIsWithin-compose whole.global_expressions (global_limits whole) each (length whole.types) (λ _. refl) c.args.handle c.args.ty c.args.components.now c.requires.found;
      components = CanFlatten-compose whole.global_expressions c.args.handle c.args.ty c.args.components.now whole.types (HandlesAreValid-ChainsPrecede whole c.requires.valid) c.requires.found;
    }
