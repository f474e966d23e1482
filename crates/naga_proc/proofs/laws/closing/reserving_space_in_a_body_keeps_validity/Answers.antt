use Rattle.std.proofs.Common.{ap}
use Rattle.naga_valid.proofs.ReplacedFunctionLemmas.{HandlesAreValid-with_body, HandlesAreValid-with_entry_body}
use Rattle.naga_valid.specs.Statements.{references_of_tree}
use Rattle.naga_proc.proofs.laws.closing.reserving_space_in_a_body_keeps_validity.Goals as goal

pub returns-clause-function : goal.returns-clause-function
returns-clause-function c = λ whole handle declared body valid found same.
    HandlesAreValid-with_body whole handle declared body valid found (ap references_of_tree same)

pub returns-clause-entry_point : goal.returns-clause-entry_point
returns-clause-entry_point c = λ old new position entry body valid found same.
    HandlesAreValid-with_entry_body old new position entry body valid found (ap references_of_tree same)
