use Rattle.naga_proc.proofs.Closing.BetweenLemmas.{Between-Closed}
use Rattle.naga_proc.proofs.laws.closing.closing_goes_on_after_a_refusal.Goals as goal

pub returns : goal.returns
returns c = Between-Closed
