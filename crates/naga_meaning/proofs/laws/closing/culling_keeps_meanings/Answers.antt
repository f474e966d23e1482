use Rattle.naga_meaning.proofs.FallenLemmas.{does-culled}
use Rattle.naga_meaning.proofs.laws.closing.culling_keeps_meanings.Goals as goal

pub returns : goal.returns
returns g c = does-culled
