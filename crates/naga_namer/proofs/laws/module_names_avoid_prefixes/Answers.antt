use Rattle.naga_namer.proofs.ModuleNamesLemmas.{module-names-avoid-prefixes}
use Rattle.naga_namer.proofs.laws.module_names_avoid_prefixes.Goals as goal

pub returns : goal.returns
returns c = module-names-avoid-prefixes
