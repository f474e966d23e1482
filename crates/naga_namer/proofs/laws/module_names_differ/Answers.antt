use Rattle.naga_namer.proofs.ModuleNamesLemmas.{module-names-differ}
use Rattle.naga_namer.proofs.laws.module_names_differ.Goals as goal

pub returns : goal.returns
returns c = module-names-differ
