use Rattle.naga_typing.proofs.ExecutionHasTypesLemmas.{execution-types}
use Rattle.naga_typing.proofs.laws.values.values_have_their_types.Goals as goal

pub returns : goal.returns
returns g c whole inside chosen checked look by respects turns start state =
    execution-types look by g.T.ValueTyping.has_type whole inside (g.T.ValueTyping.accepts inside) chosen checked
    (g.T.ValueTyping.invariant inside) respects turns start state
