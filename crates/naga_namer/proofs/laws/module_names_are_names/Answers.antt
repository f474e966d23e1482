use Rattle.naga_namer.proofs.ModuleNamesLemmas.{module-names-are-names}
use Rattle.naga_namer.proofs.laws.module_names_are_names.Goals as goal

pub returns : goal.returns
returns c = module-names-are-names
