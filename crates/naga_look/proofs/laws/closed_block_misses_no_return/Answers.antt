use Rattle.naga_look.proofs.ClosedCountsLemmas.{open_tails-ClosedBy}
use Rattle.naga_look.proofs.laws.closed_block_misses_no_return.Goals as goal

pub returns : goal.returns
returns c = open_tails-ClosedBy
