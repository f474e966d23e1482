use Rattle.naga_compact.specs.derived.Renaming.{rename_statement}
use Rattle.naga_flow.specs.Structured.{of_function}
use Rattle.naga_meaning.proofs.Uses.StructuredLemmas.{map_tree-is_structured}
use Rattle.naga_meaning.proofs.laws.jumps.renaming_keeps_jumps.Goals as goal

pub returns-clause-renaming : goal.returns-clause-renaming
returns-clause-renaming call r = map_tree-is_structured (rename_statement r) r.expressions of_function

pub returns-clause-any : goal.returns-clause-any
returns-clause-any call on_plain on_expression = map_tree-is_structured on_plain on_expression of_function
