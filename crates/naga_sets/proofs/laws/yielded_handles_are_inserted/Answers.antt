use Rattle.naga_sets.proofs.InsertsItemsLemmas.{InsertsItems-all, InsertsItems-before}
use Rattle.naga_sets.proofs.laws.yielded_handles_are_inserted.Goals as goal

pub returns-clause-all : goal.returns-clause-all
returns-clause-all g c = λ iter handles old new. InsertsItems-all g.I.IntoIterator.into_iter_gives g.I.IntoIter.Iterator.next_gives iter handles old new

pub returns-clause-before : goal.returns-clause-before
returns-clause-before g c = λ iter handles old new. InsertsItems-before g.I.IntoIterator.into_iter_gives g.I.IntoIter.Iterator.next_gives iter handles old new
