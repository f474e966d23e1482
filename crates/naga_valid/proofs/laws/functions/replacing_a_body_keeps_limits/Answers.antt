use Rattle.naga_valid.proofs.FunctionIsWithinLemmas.{FunctionIsWithin-body}
use Rattle.naga_valid.proofs.laws.functions.replacing_a_body_keeps_limits.Goals as goal

pub returns : goal.returns
returns c = FunctionIsWithin-body
