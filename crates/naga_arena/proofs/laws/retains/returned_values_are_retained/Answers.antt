use Rattle.std.specs.List.{enumerate_from}
use Rattle.naga_arena.proofs.RetainsLemmas.{Retains-filter_map}
use Rattle.naga_arena.proofs.laws.retains.returned_values_are_retained.Goals as goal

pub returns : goal.returns
returns g c = λ answers predicate old new. Retains-filter_map answers predicate (enumerate_from 0 old) new
