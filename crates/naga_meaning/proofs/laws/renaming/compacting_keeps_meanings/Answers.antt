use Rattle.naga_meaning.proofs.MeaningLemmas.{meaning-compacted}
use Rattle.naga_meaning.proofs.laws.renaming.compacting_keeps_meanings.Goals as goal

pub returns : goal.returns
returns g c = meaning-compacted
