use Rattle.naga_bounds.proofs.TypedAccessesLemmas.{accessed-there}
use Rattle.naga_bounds.proofs.laws.parts.accessed_parts_are_there.Goals as goal

pub returns : goal.returns
returns g c = accessed-there g.T.ValueParts.has_type g.T.ValueParts.invariant g.T.ValueParts.has_part
