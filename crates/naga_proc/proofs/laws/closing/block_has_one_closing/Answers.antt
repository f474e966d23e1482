use Rattle.naga_proc.proofs.Closing.ClosedByLemmas.{ClosedBy-is, ClosedBy-one}
use Rattle.naga_proc.proofs.laws.closing.block_has_one_closing.Goals as goal

pub returns-clause-one : goal.returns-clause-one
returns-clause-one c = ClosedBy-one

pub returns-clause-closed : goal.returns-clause-closed
returns-clause-closed c = ClosedBy-is
