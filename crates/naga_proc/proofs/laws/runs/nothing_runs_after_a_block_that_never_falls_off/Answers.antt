use Rattle.naga_proc.proofs.Closing.NeverFallsOffLemmas.{NeverFallsOff-is}
use Rattle.naga_proc.proofs.laws.runs.nothing_runs_after_a_block_that_never_falls_off.Goals as goal

pub returns : goal.returns
returns c = NeverFallsOff-is
