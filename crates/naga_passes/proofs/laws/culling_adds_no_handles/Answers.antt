use Rattle.naga_passes.proofs.ReferencesOfTreeLemmas.{Contains-culled}
use Rattle.naga_passes.proofs.laws.culling_adds_no_handles.Goals as goal

pub returns : goal.returns
returns c = Contains-culled
