use Rattle.naga_flow.specs.Places.{reads_in}
use Rattle.naga_meaning.specs.Readings.{chains_in}
use Rattle.naga_meaning.proofs.EnteredLemmas.{meaning-checked}
use Rattle.naga_meaning.proofs.ReadsAlikeLemmas.{chains_in-compacted}
use Rattle.naga_meaning.proofs.ReadsDecideLemmas.{reads-decide}
use Rattle.naga_meaning.proofs.laws.uses.compacting_checked_functions_keeps_meanings.Goals as goal

pub returns : goal.returns
returns g c = λ old new kept compacts inside indices uses look by. meaning-checked old new kept compacts inside (chains_in old.expressions) (chains_in new.expressions) (chains_in-compacted old new kept compacts) (reads_in old.expressions) look by (reads-decide look by old.expressions inside.precede indices) uses
