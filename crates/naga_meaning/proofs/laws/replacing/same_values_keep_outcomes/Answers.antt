use Rattle.naga_meaning.proofs.SameValuesLemmas.{outcome-replaced}
use Rattle.naga_meaning.proofs.laws.replacing.same_values_keep_outcomes.Goals as goal

pub returns : goal.returns
returns g c = outcome-replaced
