use Rattle.naga_notation.proofs.UnfinishedLemmas.{Begins-IsSome}
use Rattle.naga_notation.proofs.laws.text_begins_where_read.Goals as goal

pub returns : goal.returns
returns c = Begins-IsSome
