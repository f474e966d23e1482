-- The tree that a block represents.
use Rattle.std.specs.Prelude.{ℕ, ◌+◌, List, [], ◌∷◌, take, drop, slice_index_or}
use Rattle.naga_arena.specs.Span.{undefined}
use Rattle.naga_arena.specs.declared.span.Span.{Span}
use Rattle.naga_ir.specs.declared.block.Block.{Block}
use Rattle.naga_ir.specs.declared.statement.SwitchCase.{SwitchCase}
use Rattle.naga_ir.specs.declared.statement.Statement.{Statement, Block', If', Switch', Loop', Break, Continue, Return, Kill, Row_of-Block-entries-2, end_of-Block-entries-2, more_of-Block-entries-2, Row_of-SwitchCase, end_of-SwitchCase, more_of-SwitchCase}
use Rattle.naga_ir.specs.Block.{pairs, spans}
use Rattle.naga_ir.specs.Tree.{Tree, empty, push, Node, plain, nested, branch, switch, loop, jump, break, continue, kill, return, Cases, no_cases, case}

abbrev mutual
  -- what a statement represents in a tree
  pub node_of : Statement → Node
  node_of (Block' shape row) = nested (row_after row empty)
  node_of (If' condition shape accept shape' reject) =
      branch condition (row_after accept empty) (row_after reject empty)
  node_of (Switch' selector shape cases) = switch selector (cases_of_row cases)
  node_of (Loop' shape body shape' continuing break_if) =
      loop (row_after body empty) (row_after continuing empty) break_if
  node_of Break = jump break
  node_of Continue = jump continue
  node_of (Return value) = jump (return value)
  node_of Kill = jump kill
  node_of statement = plain statement

  -- the tree `front` with the statements of a row appended
  pub row_after : {n : _} → Row_of-Block-entries-2 n → Tree → Tree
  row_after end_of-Block-entries-2 front = front
  row_after (more_of-Block-entries-2 statement span rest) front = row_after rest (push front (node_of statement) span)

  pub cases_of_row : {n : _} → Row_of-SwitchCase n → Cases
  cases_of_row end_of-SwitchCase = no_cases
  cases_of_row (more_of-SwitchCase value shape body fall_through rest) =
      case value (row_after body empty) fall_through (cases_of_row rest)

-- the tree `front` with these statements appended
abbrev pub pushed : Tree → List (Statement × Span) → Tree
pushed front [] = front
pushed front (pair ∷ rest) = pushed (push front (node_of pair.0) pair.1) rest

-- the tree of a list of statements, each with its span
abbrev pub tree : List (Statement × Span) → Tree
tree = pushed empty

-- the tree that a block represents
abbrev pub tree_of : Block → Tree
tree_of block = tree (pairs block)

-- the tree of a block in which another statement has the place and the span of the one at a position
abbrev pub tree_with : Block → ℕ → Statement → Tree
tree_with block position statement =
    let before = tree (take position (pairs block)) in
    let span = slice_index_or (spans block) position undefined in
    pushed (push before (node_of statement) span) (drop (position + 1) (pairs block))

-- what the cases of a switch represent, in order
abbrev pub cases_of : List SwitchCase → Cases
cases_of [] = no_cases
cases_of (first ∷ rest) = case first.value (tree_of first.body) first.fall_through (cases_of rest)
