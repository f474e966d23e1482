use Rattle.naga_shape.proofs.MayEndWithLemmas.{MayEndWith-without_a_rule}
use Rattle.naga_shape.proofs.laws.arguments_without_a_rule_have_one_fault.Goals as goal

pub returns : goal.returns
returns c = MayEndWith-without_a_rule
