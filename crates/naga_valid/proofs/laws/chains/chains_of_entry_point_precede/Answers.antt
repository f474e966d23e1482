use Rattle.naga_valid.proofs.HandlesAreValidLemmas.{HandlesAreValid-entry_ChainsPrecede}
use Rattle.naga_valid.proofs.laws.chains.chains_of_entry_point_precede.Goals as goal

pub returns : goal.returns
returns c =
    HandlesAreValid-entry_ChainsPrecede c.args.module.now c.requires.valid c.args.position c.args.entry.now c.requires.found
