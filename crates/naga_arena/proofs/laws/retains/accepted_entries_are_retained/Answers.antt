use Rattle.naga_arena.proofs.RetainsLemmas.{Retains-filter}
use Rattle.naga_arena.proofs.laws.retains.accepted_entries_are_retained.Goals as goal

pub returns : goal.returns
returns g c = λ accepts predicate old new. Retains-filter accepts predicate 0 old new
