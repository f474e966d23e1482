-- The blocks of an old body with which those of a new body are compared: the counterpart of a block is the block at the
-- same place, which is given by the positions of the statements that it is in, and the indices of their blocks.
use Rattle.std.specs.Prelude.{ℕ, List, [], ◌∷◌, ◌++◌, Bool, true, false, not, Option, Some, None, slice_get}
use Rattle.std.specs.Option.{option_map}
use Rattle.naga_ir.specs.Tree.{Tree, empty, push, Node, nested, branch, switch, loop, jump, return, Cases, no_cases, case}
use Rattle.naga_ir.specs.View.{tree_of}
use Rattle.naga_ir.specs.declared.block.Block.{Block}

-- the tree of a block, if there is one
abbrev pub optional_tree : Option Block → Option Tree
optional_tree = option_map tree_of

-- the statements of a block
abbrev pub nodes : Tree → List Node
nodes empty = []
nodes (push front last span) = nodes front ++ last ∷ []

-- the bodies of cases
abbrev pub bodies_of : Cases → List Tree
bodies_of no_cases = []
bodies_of (case value body falls_through others) = body ∷ bodies_of others

-- the blocks of a statement
abbrev pub blocks_of : Node → List Tree
blocks_of (nested inner) = inner ∷ []
blocks_of (branch condition accept reject) = accept ∷ reject ∷ []
blocks_of (switch selector cases) = bodies_of cases
blocks_of (loop body continuing break_if) = body ∷ continuing ∷ []
blocks_of node = []

-- the block at an index among those of a statement
abbrev pub block_at : Option Node → (index : ℕ) → Option Tree
block_at None index = None
block_at (Some node) index = slice_get (blocks_of node) index

-- the counterpart of the block at an index among those of the statement at a position of a block, of which `old` is the
-- counterpart
abbrev pub inner_at : (old : Option Tree) → (position index : ℕ) → Option Tree
inner_at None position index = None
inner_at (Some old) position index = block_at (slice_get (nodes old) position) index

abbrev pub is_return : Option Node → Bool
is_return (Some (jump (return value))) = true
is_return place = false

-- a return at a position of a block is marked if the counterpart of the block has no return at this position
abbrev pub is_inserted : (old : Option Tree) → (position : ℕ) → Bool
is_inserted None position = false
is_inserted (Some old) position = not (is_return (slice_get (nodes old) position))
