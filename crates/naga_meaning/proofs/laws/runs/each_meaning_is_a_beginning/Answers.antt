use Rattle.naga_meaning.proofs.IsABeginningLemmas.{does-IsABeginning}
use Rattle.naga_meaning.proofs.laws.runs.each_meaning_is_a_beginning.Goals as goal

pub returns : goal.returns
returns g c = does-IsABeginning
