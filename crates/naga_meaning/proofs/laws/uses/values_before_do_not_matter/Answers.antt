use Rattle.naga_flow.specs.Places.{reads_in}
use Rattle.naga_meaning.specs.Readings.{chains_in}
use Rattle.naga_meaning.proofs.AgreeOnLemmas.{outcome-agrees}
use Rattle.naga_meaning.proofs.ReadsDecideLemmas.{reads-decide}
use Rattle.naga_meaning.proofs.laws.uses.values_before_do_not_matter.Goals as goal

pub returns : goal.returns
returns g c = λ look by arena precede indices. outcome-agrees look by (chains_in arena) arena (reads_in arena) (reads-decide look by arena precede indices)
