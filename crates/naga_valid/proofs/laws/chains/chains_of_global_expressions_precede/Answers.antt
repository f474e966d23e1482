use Rattle.naga_valid.proofs.HandlesAreValidLemmas.{HandlesAreValid-ChainsPrecede}
use Rattle.naga_valid.proofs.laws.chains.chains_of_global_expressions_precede.Goals as goal

pub returns : goal.returns
returns c = HandlesAreValid-ChainsPrecede c.args.module.now c.requires
