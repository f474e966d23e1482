use Rattle.naga_typing.proofs.CompactedModuleIsTypedLemmas.{ModuleIsTyped-compacted}
use Rattle.naga_typing.proofs.laws.compacting.compacting_keeps_typed_modules.Goals as goal

pub returns : goal.returns
returns c = ModuleIsTyped-compacted
