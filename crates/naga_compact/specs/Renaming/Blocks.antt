-- The handles that blocks contain, renamed.
use Rattle.naga_ir.specs.Tree.{Tree, Node, Cases}
use Rattle.naga_compact.specs.Mapping.{map_cases, map_node, map_tree}
use Rattle.naga_compact.specs.Renaming.{Renaming}
use Rattle.naga_compact.specs.derived.Renaming.{rename_statement}

module _ (r : Renaming) where
  -- the block with all its handles renamed, in the blocks inside it, too
  abbrev pub rename_tree : Tree → Tree
  rename_tree = map_tree (rename_statement r) r.expressions

  -- the statement of a block with all its handles renamed
  abbrev pub rename_node : Node → Node
  rename_node = map_node (rename_statement r) r.expressions

  -- the cases with all handles of their bodies renamed
  abbrev pub rename_cases : Cases → Cases
  rename_cases = map_cases (rename_statement r) r.expressions
