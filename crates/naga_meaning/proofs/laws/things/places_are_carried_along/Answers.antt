use Rattle.naga_meaning.proofs.KeepsPlacesLemmas.{KeepsPlaces-some}
use Rattle.naga_meaning.proofs.laws.things.places_are_carried_along.Goals as goal

pub returns : goal.returns
returns g c old keep_unused kept new compacts place = KeepsPlaces-some old keep_unused kept new compacts place
