use Rattle.naga_proc.proofs.Closing.FallenLemmas.{FullyClosed-NeverFallsOff}
use Rattle.naga_proc.proofs.laws.runs.fully_closed_block_never_falls_off.Goals as goal

pub returns : goal.returns
returns c = FullyClosed-NeverFallsOff
