use Rattle.std.proofs.Common.{refl, length}
use Rattle.naga_valid.proofs.HandlesAreValidLemmas.{function_limits, HandlesAreValid-function_ChainsPrecede, HandlesAreValid-function_expressions}
use Rattle.naga_valid.proofs.ReferencesOfExpressionLemmas.{EachIsWithin-compose}
use Rattle.naga_proc.proofs.Flattening.CanFlattenLemmas.{CanFlatten-compose}
use Rattle.naga_proc.proofs.laws.flattening.compose_of_function_can_be_flattened.Goals as goal

pub returns : goal.returns
returns c =
    let whole = c.args.module.now in
    let each = HandlesAreValid-function_expressions whole c.requires.valid c.args.owner c.args.function.now c.requires.owner in
    record {
      ty = EachIsWithin-compose c.args.function.now.expressions (function_limits whole c.args.owner c.args.function.now) each (length whole.types) (λ _. refl) c.args.handle c.args.ty c.args.components.now c.requires.found;
      components = CanFlatten-compose c.args.function.now.expressions c.args.handle c.args.ty c.args.components.now whole.types (HandlesAreValid-function_ChainsPrecede whole c.requires.valid c.args.owner c.args.function.now c.requires.owner) c.requires.found;
    }
