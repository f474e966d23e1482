use Rattle.naga_passes.proofs.ChangesBodiesLemmas.{After-commutes}
use Rattle.naga_passes.proofs.laws.culling_and_closing_commute.Goals as goal

pub returns : goal.returns
returns c = After-commutes
