use Rattle.naga_sets.proofs.laws.greatest_member_is_above_all_others.Goals as goal

pub returns : goal.returns
returns c = λ members greatest member is. is.above_all member
