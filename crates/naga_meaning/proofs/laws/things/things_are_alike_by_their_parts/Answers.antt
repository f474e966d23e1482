use Rattle.naga_meaning.proofs.ThingOfLemmas.{HasSameParts-of, HasSameParts-same}
use Rattle.naga_meaning.proofs.laws.things.things_are_alike_by_their_parts.Goals as goal

pub returns : goal.returns
returns g c whole place a b = (HasSameParts-of whole place a b, HasSameParts-same whole place a b)
