use Rattle.naga_meaning.proofs.RenamesCodeLemmas.{outcome-renamed}
use Rattle.naga_meaning.proofs.laws.renaming.renaming_keeps_outcomes.Goals as goal

pub returns : goal.returns
returns g c = outcome-renamed
