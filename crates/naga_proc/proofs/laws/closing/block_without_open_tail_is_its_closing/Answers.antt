use Rattle.naga_proc.proofs.Closing.ClosedByLemmas.{HasNoOpenTail-ClosedBy}
use Rattle.naga_proc.proofs.laws.closing.block_without_open_tail_is_its_closing.Goals as goal

pub returns : goal.returns
returns c = HasNoOpenTail-ClosedBy
