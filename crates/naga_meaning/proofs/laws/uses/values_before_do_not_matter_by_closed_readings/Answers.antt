use Rattle.naga_flow.specs.Readings.{expressions_by}
use Rattle.naga_meaning.proofs.AgreeOnLemmas.{outcome-agrees}
use Rattle.naga_meaning.proofs.IsClosedReadingLemmas.{closed-decides, constant_chains_in-closed}
use Rattle.naga_meaning.proofs.laws.uses.values_before_do_not_matter_by_closed_readings.Goals as goal

pub returns-clause-all : goal.returns-clause-all
returns-clause-all g c = λ look by at_use arena precede closed. outcome-agrees look by at_use arena (expressions_by at_use arena).reads (closed-decides look by at_use arena precede closed)

pub returns-clause-narrow : goal.returns-clause-narrow
returns-clause-narrow g c = constant_chains_in-closed
