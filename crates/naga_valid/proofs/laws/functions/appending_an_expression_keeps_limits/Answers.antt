use Rattle.naga_valid.proofs.FunctionIsWithinLemmas.{FunctionIsWithin-push}
use Rattle.naga_valid.proofs.laws.functions.appending_an_expression_keeps_limits.Goals as goal

pub returns : goal.returns
returns c = FunctionIsWithin-push
