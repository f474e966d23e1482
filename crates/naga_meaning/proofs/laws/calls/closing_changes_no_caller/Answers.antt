use Rattle.naga_meaning.proofs.ClosedOutcomeLemmas.{callers-closed, callers-closed_old}
use Rattle.naga_meaning.proofs.laws.calls.closing_changes_no_caller.Goals as goal

pub returns-clause-new_rule : goal.returns-clause-new_rule
returns-clause-new_rule g c = callers-closed

pub returns-clause-old_rule : goal.returns-clause-old_rule
returns-clause-old_rule g c = callers-closed_old
