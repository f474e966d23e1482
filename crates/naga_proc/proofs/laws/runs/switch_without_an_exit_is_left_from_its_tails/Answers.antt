use Rattle.naga_proc.proofs.Closing.HasExitLemmas.{has_exit-tails}
use Rattle.naga_proc.proofs.laws.runs.switch_without_an_exit_is_left_from_its_tails.Goals as goal

pub returns : goal.returns
returns c = has_exit-tails
