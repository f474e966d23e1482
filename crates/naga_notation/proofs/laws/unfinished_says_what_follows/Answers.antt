use Rattle.naga_notation.proofs.UnfinishedLemmas.{Begins-follows}
use Rattle.naga_notation.proofs.laws.unfinished_says_what_follows.Goals as goal

pub returns : goal.returns
returns c = Begins-follows
