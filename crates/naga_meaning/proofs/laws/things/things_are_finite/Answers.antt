use Rattle.naga_meaning.proofs.IsWholeLemmas.{IsWholeFrom-some}
use Rattle.naga_meaning.proofs.laws.things.things_are_finite.Goals as goal

pub returns : goal.returns
returns g c whole place valid name = IsWholeFrom-some whole place valid name
