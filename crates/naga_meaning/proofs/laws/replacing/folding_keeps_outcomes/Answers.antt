use Rattle.naga_meaning.proofs.FoldsLemmas.{outcome-folded}
use Rattle.naga_meaning.proofs.laws.replacing.folding_keeps_outcomes.Goals as goal

pub returns : goal.returns
returns g c = λ parts by folded constant old new folds back turns body inside start so. outcome-folded parts by folded constant old new folds back turns body inside start so
