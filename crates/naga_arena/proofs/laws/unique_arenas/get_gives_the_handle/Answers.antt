use Rattle.naga_arena.proofs.HasDistinctValuesLemmas.{position-handle}
use Rattle.naga_arena.proofs.laws.unique_arenas.get_gives_the_handle.Goals as goal

pub returns : goal.returns
returns g c = λ arena handle stored value distinct at same.
    position-handle g.met.T.Eq.laws _ distinct handle stored value at same
