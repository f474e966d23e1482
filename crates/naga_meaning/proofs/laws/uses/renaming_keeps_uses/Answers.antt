use Rattle.std.proofs.Common.{[]}
use Rattle.naga_meaning.proofs.Uses.RenamesLemmas.{rename_tree-once, rename_tree-uses}
use Rattle.naga_meaning.proofs.laws.uses.renaming_keeps_uses.Goals as goal

pub returns-clause-uses : goal.returns-clause-uses
returns-clause-uses c = λ kept renaming old new body renames. rename_tree-uses kept renaming old new renames [] body

pub returns-clause-once : goal.returns-clause-once
returns-clause-once c = λ kept renaming old new body renames. rename_tree-once kept renaming old new renames [] body
