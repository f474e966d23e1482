use Rattle.naga_arena.proofs.HasDistinctValuesLemmas.{IsDistinct-one_handle}
use Rattle.naga_arena.proofs.laws.unique_arenas.different_handles_name_unequal_values.Goals as goal

pub returns : goal.returns
returns g c = λ arena first second value other distinct at_first at_second same.
    IsDistinct-one_handle g.met.T.Eq.laws _ distinct first second value other at_first at_second same
