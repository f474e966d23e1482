use Rattle.naga_valid.proofs.HandlesAreValidLemmas.{HandlesAreValid-function}
use Rattle.naga_valid.proofs.laws.functions.function_is_within_limits.Goals as goal

pub returns : goal.returns
returns c =
    HandlesAreValid-function c.args.module.now c.requires.valid c.args.handle c.args.function.now c.requires.found
