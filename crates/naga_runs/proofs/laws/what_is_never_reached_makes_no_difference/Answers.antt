use Rattle.naga_runs.proofs.RunsFitLemmas.{NeverFallsOff-one_more, NeverFallsOff-some_more}
use Rattle.naga_runs.proofs.laws.what_is_never_reached_makes_no_difference.Goals as goal

pub returns-clause-one : goal.returns-clause-one
returns-clause-one c = NeverFallsOff-one_more

pub returns-clause-all : goal.returns-clause-all
returns-clause-all c = NeverFallsOff-some_more
