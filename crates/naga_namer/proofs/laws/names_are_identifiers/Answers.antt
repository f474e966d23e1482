use Rattle.naga_namer.proofs.GetNamesLemmas.{names-are-identifiers}
use Rattle.naga_namer.proofs.laws.names_are_identifiers.Goals as goal

pub returns : goal.returns
returns c = names-are-identifiers
