use Rattle.naga_meaning.proofs.FallenLemmas.{does-fallen}
use Rattle.naga_meaning.proofs.laws.closing.closing_keeps_meanings.Goals as goal

pub returns : goal.returns
returns g c = λ machine old new closes turns state. does-fallen machine closes turns state
