use Rattle.naga_proc.proofs.Closing.NeverFallsOffLemmas.{Fallen-NeverFallsOff}
use Rattle.naga_proc.proofs.laws.runs.fallen_block_never_falls_off.Goals as goal

pub returns : goal.returns
returns c = Fallen-NeverFallsOff
