use Rattle.naga_meaning.proofs.ThingOfLemmas.{equal-types}
use Rattle.naga_meaning.proofs.laws.things.equal_types_are_one_thing.Goals as goal

pub returns : goal.returns
returns g c = equal-types
