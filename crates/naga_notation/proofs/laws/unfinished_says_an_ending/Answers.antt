use Rattle.naga_notation.proofs.UnfinishedLemmas.{Notation-unfinished}
use Rattle.naga_notation.proofs.laws.unfinished_says_an_ending.Goals as goal

pub returns : goal.returns
returns c = Notation-unfinished
