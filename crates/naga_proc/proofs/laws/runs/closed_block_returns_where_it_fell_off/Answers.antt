use Rattle.naga_proc.proofs.Closing.TurnedLemmas.{Closed-Turned}
use Rattle.naga_proc.proofs.laws.runs.closed_block_returns_where_it_fell_off.Goals as goal

pub returns : goal.returns
returns c = Closed-Turned
