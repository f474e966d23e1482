use Rattle.std.proofs.Common.{◌≡◌, true}
use Rattle.naga_meaning.proofs.MeaningLemmas.{meaning-renamed}
use Rattle.naga_meaning.proofs.laws.renaming.renaming_keeps_meanings.Goals as goal

pub returns : goal.returns
returns g c = λ renumbering old new is precede names has look look' alike at_use by turns start. meaning-renamed renumbering old new is precede (λ name. names name ≡ true) has look look' alike at_use by turns start
