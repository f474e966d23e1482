use Rattle.naga_typing.proofs.CheckedValuesLemmas.{checked-types}
use Rattle.naga_typing.proofs.laws.values.checked_values_have_their_types.Goals as goal

pub returns : goal.returns
returns g c = checked-types g.T.ValueTyping.has_type g.T.ValueTyping.invariant
