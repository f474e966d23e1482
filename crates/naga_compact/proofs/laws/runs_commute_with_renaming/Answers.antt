use Rattle.naga_compact.specs.derived.Renaming.{rename_statement}
use Rattle.naga_compact.proofs.MappedRunsFitLemmas.{map_tree-MappedRunsFit}
use Rattle.naga_compact.proofs.laws.runs_commute_with_renaming.Goals as goal

pub returns-clause-renaming : goal.returns-clause-renaming
returns-clause-renaming c = λ r. map_tree-MappedRunsFit (rename_statement r) r.expressions

pub returns-clause-any : goal.returns-clause-any
returns-clause-any c = map_tree-MappedRunsFit
