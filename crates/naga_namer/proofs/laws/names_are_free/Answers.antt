use Rattle.naga_namer.proofs.GetNamesLemmas.{names-free}
use Rattle.naga_namer.proofs.laws.names_are_free.Goals as goal

pub returns : goal.returns
returns c = names-free
