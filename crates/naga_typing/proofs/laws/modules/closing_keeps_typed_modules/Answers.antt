use Rattle.naga_typing.proofs.FunctionIsTypedLemmas.{ModuleIsTyped-closed}
use Rattle.naga_typing.proofs.laws.modules.closing_keeps_typed_modules.Goals as goal

pub returns : goal.returns
returns c = ModuleIsTyped-closed
