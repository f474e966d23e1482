use Rattle.naga_meaning.proofs.Uses.UsesKnownLemmas.{culled-ways}
use Rattle.naga_meaning.proofs.laws.uses.culling_keeps_ways.Goals as goal

pub returns : goal.returns
returns c = culled-ways
