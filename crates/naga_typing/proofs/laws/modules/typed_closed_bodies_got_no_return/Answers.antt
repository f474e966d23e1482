use Rattle.naga_typing.proofs.ClosedLemmas.{BodyIsTyped-unchanged}
use Rattle.naga_typing.proofs.laws.modules.typed_closed_bodies_got_no_return.Goals as goal

pub returns : goal.returns
returns c = BodyIsTyped-unchanged
