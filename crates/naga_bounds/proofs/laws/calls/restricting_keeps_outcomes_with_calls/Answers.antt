use Rattle.naga_bounds.proofs.CalledOutcomesLemmas.{keeps-at, same-at}
use Rattle.naga_bounds.proofs.laws.calls.restricting_keeps_outcomes_with_calls.Goals as goal

pub returns-clause-clamped : goal.returns-clause-clamped
returns-clause-clamped g c whole look by number unsigned_number respects clamps find find' pairs calls turns depth =
    keeps-at c.restricting_keeps_outcomes.ensures whole look number unsigned_number calls turns by respects clamps find find' pairs depth

pub returns-clause-callers : goal.returns-clause-callers
returns-clause-callers g c whole look by number unsigned_number respects clamps find find' pairs calls turns depth =
    same-at c.restricting_keeps_outcomes.ensures whole look number unsigned_number calls turns by respects clamps find find' pairs depth
