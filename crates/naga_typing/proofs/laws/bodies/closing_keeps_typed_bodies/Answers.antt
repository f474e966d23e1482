use Rattle.naga_typing.proofs.BodyIsTypedLemmas.{BodyIsTyped-closed}
use Rattle.naga_typing.proofs.laws.bodies.closing_keeps_typed_bodies.Goals as goal

pub returns : goal.returns
returns c = BodyIsTyped-closed
