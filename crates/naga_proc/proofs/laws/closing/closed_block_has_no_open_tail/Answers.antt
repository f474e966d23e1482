use Rattle.naga_proc.proofs.Closing.ClosedByLemmas.{ClosedBy-HasNoOpenTail}
use Rattle.naga_proc.proofs.laws.closing.closed_block_has_no_open_tail.Goals as goal

pub returns : goal.returns
returns c = ClosedBy-HasNoOpenTail
