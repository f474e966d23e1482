use Rattle.naga_passes.proofs.ChangesBodiesLemmas.{ClosesBodies-again, CullsBodies-again}
use Rattle.naga_passes.proofs.laws.culling_and_closing_again_change_nothing.Goals as goal

pub returns-clause-culling : goal.returns-clause-culling
returns-clause-culling c = CullsBodies-again

pub returns-clause-closing : goal.returns-clause-closing
returns-clause-closing c = ClosesBodies-again
