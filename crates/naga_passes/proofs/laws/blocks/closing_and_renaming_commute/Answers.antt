use Rattle.naga_compact.specs.derived.Renaming.{rename_statement}
use Rattle.naga_meaning.proofs.MappedLemmas.{map_tree-closed}
use Rattle.naga_passes.proofs.laws.blocks.closing_and_renaming_commute.Goals as goal

pub returns-clause-renaming : goal.returns-clause-renaming
returns-clause-renaming call rule r = map_tree-closed (rename_statement r) r.expressions rule

pub returns-clause-any : goal.returns-clause-any
returns-clause-any call rule on_plain on_expression = map_tree-closed on_plain on_expression rule
