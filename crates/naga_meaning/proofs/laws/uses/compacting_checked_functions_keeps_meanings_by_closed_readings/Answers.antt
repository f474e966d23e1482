use Rattle.naga_flow.specs.Readings.{expressions_by}
use Rattle.naga_meaning.proofs.EnteredLemmas.{meaning-checked}
use Rattle.naga_meaning.proofs.IsClosedReadingLemmas.{closed-decides}
use Rattle.naga_meaning.proofs.laws.uses.compacting_checked_functions_keeps_meanings_by_closed_readings.Goals as goal

pub returns : goal.returns
returns g c = λ old new kept compacts inside at_use at_use' closed alike uses look by. meaning-checked old new kept compacts inside at_use at_use' alike (expressions_by at_use old.expressions).reads look by (closed-decides look by at_use old.expressions inside.precede closed) uses
