use Rattle.naga_bounds.proofs.RestrictedIsTypedLemmas.{FunctionIsTyped-restricted}
use Rattle.naga_bounds.proofs.RestrictedModuleIsTypedLemmas.{ModuleIsTyped-restricted}
use Rattle.naga_bounds.proofs.laws.restricted_is_typed.Goals as goal

pub returns-clause-functions : goal.returns-clause-functions
returns-clause-functions c = FunctionIsTyped-restricted

pub returns-clause-modules : goal.returns-clause-modules
returns-clause-modules c = ModuleIsTyped-restricted
