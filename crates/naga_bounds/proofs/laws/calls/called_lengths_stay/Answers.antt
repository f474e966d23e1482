use Rattle.naga_bounds.proofs.CallsLemmas.{called-lengths-stay}
use Rattle.naga_bounds.proofs.laws.calls.called_lengths_stay.Goals as goal

pub returns : goal.returns
returns g c look by number stay calls keep find turns depth = called-lengths-stay look by number find calls turns stay keep depth
