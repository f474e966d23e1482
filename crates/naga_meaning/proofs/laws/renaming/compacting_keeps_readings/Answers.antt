use Rattle.naga_meaning.proofs.ReadsAlikeLemmas.{chains_in-compacted, constant_chains_in-compacted}
use Rattle.naga_meaning.proofs.laws.renaming.compacting_keeps_readings.Goals as goal

pub returns-clause-chains : goal.returns-clause-chains
returns-clause-chains c = chains_in-compacted

pub returns-clause-constant_chains : goal.returns-clause-constant_chains
returns-clause-constant_chains c = constant_chains_in-compacted
