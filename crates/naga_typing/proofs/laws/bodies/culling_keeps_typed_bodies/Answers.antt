use Rattle.naga_typing.proofs.BodyIsTypedLemmas.{BodyIsTyped-culled}
use Rattle.naga_typing.proofs.laws.bodies.culling_keeps_typed_bodies.Goals as goal

pub returns : goal.returns
returns c = BodyIsTyped-culled
