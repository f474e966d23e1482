use Rattle.naga_proc.proofs.ReferencesOfTreeLemmas.{references_of_tree-Between, references_of_tree-ClosedBy}
use Rattle.naga_proc.proofs.laws.closing.closing_adds_no_handles.Goals as goal

pub returns-clause-closed : goal.returns-clause-closed
returns-clause-closed c = references_of_tree-ClosedBy

pub returns-clause-between : goal.returns-clause-between
returns-clause-between c = references_of_tree-Between
