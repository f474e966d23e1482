use Rattle.naga_sets.proofs.HandleSetLemmas.{length-EmptiesInSteps}
use Rattle.naga_sets.proofs.laws.pops_are_as_many_as_members.Goals as goal

pub returns : goal.returns
returns c = length-EmptiesInSteps
