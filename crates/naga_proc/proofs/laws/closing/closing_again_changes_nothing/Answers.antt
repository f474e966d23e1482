use Rattle.naga_proc.proofs.Closing.ClosedByLemmas.{ClosedBy-again}
use Rattle.naga_proc.proofs.laws.closing.closing_again_changes_nothing.Goals as goal

pub returns : goal.returns
returns c = ClosedBy-again
