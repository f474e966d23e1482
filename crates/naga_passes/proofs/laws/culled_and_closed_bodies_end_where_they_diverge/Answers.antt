use Rattle.naga_passes.proofs.IsCulledLemmas.{AllBodies-closed_first, AllBodies-culled_first}
use Rattle.naga_passes.proofs.laws.culled_and_closed_bodies_end_where_they_diverge.Goals as goal

pub returns-clause-culled_first : goal.returns-clause-culled_first
returns-clause-culled_first c = AllBodies-culled_first

pub returns-clause-closed_first : goal.returns-clause-closed_first
returns-clause-closed_first c = AllBodies-closed_first
