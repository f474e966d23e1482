use Rattle.naga_sets.proofs.IsGreatestLemmas.{IsGreatest-unique}
use Rattle.naga_sets.proofs.laws.greatest_member_is_unique.Goals as goal

pub returns : goal.returns
returns c = IsGreatest-unique
