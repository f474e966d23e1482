use Rattle.naga_typing.proofs.FunctionIsTypedLemmas.{ModuleIsTyped-culled}
use Rattle.naga_typing.proofs.laws.modules.culling_keeps_typed_modules.Goals as goal

pub returns : goal.returns
returns c = ModuleIsTyped-culled
