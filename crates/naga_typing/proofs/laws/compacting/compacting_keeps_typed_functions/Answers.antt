use Rattle.naga_typing.proofs.CompactedIsTypedLemmas.{FunctionIsTyped-inside}
use Rattle.naga_typing.proofs.laws.compacting.compacting_keeps_typed_functions.Goals as goal

pub returns : goal.returns
returns c = λ whole old new kept compacts precede typed. FunctionIsTyped-inside old new kept compacts precede whole typed
