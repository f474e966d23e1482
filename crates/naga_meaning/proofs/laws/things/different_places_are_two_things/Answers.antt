use Rattle.naga_meaning.proofs.ThingOfLemmas.{different-places, equal-variables}
use Rattle.naga_meaning.proofs.laws.things.different_places_are_two_things.Goals as goal

pub returns-clause-different : goal.returns-clause-different
returns-clause-different g c = different-places

pub returns-clause-one : goal.returns-clause-one
returns-clause-one g c = equal-variables
