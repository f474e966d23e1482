use Rattle.json_fault.proofs.AwaitsLemmas.{absent_right, awaits_right}
use Rattle.json_fault.proofs.expectation.reason.Goals as goal

pub returns-in-None-clause-right : goal.returns-in-None-clause-right
returns-in-None-clause-right c = awaits_right _ _ _ _ _ c.expected.ensures
