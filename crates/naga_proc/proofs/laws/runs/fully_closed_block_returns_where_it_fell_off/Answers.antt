use Rattle.naga_proc.proofs.Closing.FallenLemmas.{FullyClosed-Fallen}
use Rattle.naga_proc.proofs.laws.runs.fully_closed_block_returns_where_it_fell_off.Goals as goal

pub returns : goal.returns
returns c = FullyClosed-Fallen
