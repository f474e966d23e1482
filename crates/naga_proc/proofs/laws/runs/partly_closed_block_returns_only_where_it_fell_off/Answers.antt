use Rattle.naga_proc.proofs.Closing.TurnedLemmas.{Between-Spared}
use Rattle.naga_proc.proofs.laws.runs.partly_closed_block_returns_only_where_it_fell_off.Goals as goal

pub returns : goal.returns
returns c = Between-Spared
