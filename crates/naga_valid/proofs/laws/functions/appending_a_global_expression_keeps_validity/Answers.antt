use Rattle.naga_valid.proofs.AppendedExpressionLemmas.{HandlesAreValid-with_global_expression}
use Rattle.naga_valid.proofs.laws.functions.appending_a_global_expression_keeps_validity.Goals as goal

pub returns : goal.returns
returns c =
    λ whole expression span valid. HandlesAreValid-with_global_expression whole valid expression span
