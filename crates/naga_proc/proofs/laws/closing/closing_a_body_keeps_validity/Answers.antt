use Rattle.naga_valid.proofs.ReplacedFunctionLemmas.{HandlesAreValid-with_body, HandlesAreValid-with_entry_body}
use Rattle.naga_ir.specs.View.{tree_of}
use Rattle.naga_proc.proofs.ReferencesOfTreeLemmas.{references_of_tree-ClosedBy}
use Rattle.naga_proc.proofs.laws.closing.closing_a_body_keeps_validity.Goals as goal

pub returns-clause-function : goal.returns-clause-function
returns-clause-function c = λ rule whole handle declared body valid found closed.
    HandlesAreValid-with_body whole handle declared body valid found (references_of_tree-ClosedBy rule (tree_of declared.body) (tree_of body) closed)

pub returns-clause-entry_point : goal.returns-clause-entry_point
returns-clause-entry_point c = λ rule old new position entry body valid found closed.
    HandlesAreValid-with_entry_body old new position entry body valid found (references_of_tree-ClosedBy rule (tree_of entry.function.body) (tree_of body) closed)
