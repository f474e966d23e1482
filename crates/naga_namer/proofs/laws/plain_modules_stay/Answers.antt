use Rattle.naga_namer.proofs.PlainModulesStayLemmas.{plain-modules-stay}
use Rattle.naga_namer.proofs.laws.plain_modules_stay.Goals as goal

pub returns : goal.returns
returns c = plain-modules-stay
