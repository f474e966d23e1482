use Rattle.naga_proc.proofs.Closing.NeverFallsOffLemmas.{NeverFallsOff-empty}
use Rattle.naga_proc.proofs.laws.runs.empty_block_falls_off.Goals as goal

pub returns : goal.returns
returns c = NeverFallsOff-empty
