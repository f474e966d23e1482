use Rattle.naga_meaning.proofs.SwitchesLemmas.{switch-exchanged}
use Rattle.naga_meaning.proofs.laws.switches.cases_may_change_places.Goals as goal

pub returns : goal.returns
returns g c = switch-exchanged
