use Rattle.naga_meaning.proofs.Uses.CompactedUsesLemmas.{CompactsFunction-once, CompactsFunction-uses, CompactsFunction-uses_by}
use Rattle.naga_meaning.proofs.laws.uses.compacting_keeps_uses.Goals as goal

pub returns-clause-uses : goal.returns-clause-uses
returns-clause-uses c = CompactsFunction-uses

pub returns-clause-once : goal.returns-clause-once
returns-clause-once c = CompactsFunction-once

pub returns-clause-by_readings : goal.returns-clause-by_readings
returns-clause-by_readings c = λ old new kept at_use at_use' compacts within alike. CompactsFunction-uses_by old new kept compacts at_use at_use' alike within
