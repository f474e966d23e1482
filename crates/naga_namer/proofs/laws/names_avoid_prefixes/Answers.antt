use Rattle.naga_namer.proofs.GetNamesLemmas.{names-avoid}
use Rattle.naga_namer.proofs.laws.names_avoid_prefixes.Goals as goal

pub returns : goal.returns
returns c = names-avoid
