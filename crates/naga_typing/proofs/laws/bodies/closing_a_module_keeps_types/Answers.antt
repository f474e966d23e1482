use Rattle.naga_proc.specs.Closing.{ClosedBy}
use Rattle.naga_typing.proofs.ChangesBodiesLemmas.{HaveSameTypes-changed}
use Rattle.naga_typing.proofs.laws.bodies.closing_a_module_keeps_types.Goals as goal

pub returns : goal.returns
returns c = λ rule old new closes. HaveSameTypes-changed (ClosedBy rule) old new closes
