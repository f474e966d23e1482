use Rattle.naga_typing.proofs.EntersInItsStateLemmas.{enters-in-state}
use Rattle.naga_typing.proofs.laws.values.bodies_begin_in_their_states.Goals as goal

pub returns : goal.returns
returns g c whole inside typed look by respects at_use start begins =
    enters-in-state look by g.T.ValueTyping.has_type whole inside (g.T.ValueTyping.accepts inside) (g.T.ValueTyping.beginning inside)
    (g.T.ValueTyping.invariant inside) typed respects at_use start begins
