use Rattle.naga_valid.proofs.HandlesAreValidLemmas.{HandlesAreValid-function_ChainsPrecede}
use Rattle.naga_valid.proofs.laws.chains.chains_of_function_precede.Goals as goal

pub returns : goal.returns
returns c =
    HandlesAreValid-function_ChainsPrecede c.args.module.now c.requires.valid c.args.handle c.args.function.now c.requires.found
