use Rattle.naga_shape.proofs.MayEndWithLemmas.{MayEndWith-with_a_rule}
use Rattle.naga_shape.proofs.laws.arguments_with_a_rule_are_expected.Goals as goal

pub returns : goal.returns
returns c = MayEndWith-with_a_rule
