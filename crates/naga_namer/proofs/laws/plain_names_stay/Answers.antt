use Rattle.naga_namer.proofs.PlainNamesStayLemmas.{plain-names-stay}
use Rattle.naga_namer.proofs.laws.plain_names_stay.Goals as goal

pub returns : goal.returns
returns c = plain-names-stay
