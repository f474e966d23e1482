use Rattle.naga_valid.proofs.ReplacedFunctionLemmas.{HandlesAreValid-with_entry_point, HandlesAreValid-with_function}
use Rattle.naga_valid.proofs.laws.functions.replacing_a_function_keeps_validity.Goals as goal

pub returns : goal.returns
returns c =
    record {
      function = λ whole handle declared valid. HandlesAreValid-with_function whole valid handle declared;
      entry_point = HandlesAreValid-with_entry_point;
    }
