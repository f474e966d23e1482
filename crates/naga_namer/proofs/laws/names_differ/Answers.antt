use Rattle.naga_namer.proofs.GetNamesLemmas.{names-differ}
use Rattle.naga_namer.proofs.laws.names_differ.Goals as goal

pub returns : goal.returns
returns c = names-differ
