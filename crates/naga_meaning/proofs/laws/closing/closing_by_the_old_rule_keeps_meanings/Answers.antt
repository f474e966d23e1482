use Rattle.naga_meaning.proofs.TurnedLemmas.{does-turned}
use Rattle.naga_meaning.proofs.laws.closing.closing_by_the_old_rule_keeps_meanings.Goals as goal

pub returns : goal.returns
returns g c = λ machine old new closes turns state. does-turned machine closes turns state
