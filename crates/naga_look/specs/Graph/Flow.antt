-- The control flow of a body as a part of a graph for Graphviz: a node for each statement, a bold edge from each statement
-- to the next one of its block, and a dashed edge from each statement to the first statement of each block in it.
use Rattle.std.specs.Prelude.{ℕ, zero, suc, ◌+◌, List, [], ◌∷◌, ◌++◌, length, Bool, true, false, Option, codes}
use Rattle.std.specs.Fmt.{decimal}
use Rattle.naga_kinds.specs.declared.switch.SwitchValue.{SwitchValue}
use Rattle.naga_ir.specs.Tree.{Tree, empty, push, Node, plain, nested, branch, switch, loop, jump, Jump, break, continue, kill, return, Cases, no_cases, case}
use Rattle.naga_ir.specs.declared.module.Module as the_module
use Rattle.naga_text.specs.Blocks.{case_name, unless_empty}
use Rattle.naga_text.specs.Counterparts.{inner_at, is_inserted, nodes}
use Rattle.naga_text.specs.Operands.{references_text}
use Rattle.naga_text.specs.Parts.{loop_words}
use Rattle.naga_text.specs.derived.Statement.{action_text}
use Rattle.naga_text.specs.Words.{name_text}
use Rattle.naga_valid.specs.Reference.{operands, present}
use Rattle.naga_valid.specs.Statements.{references_of_statement}
use Rattle.naga_look.specs.Graph.Names.{called_name}
use Rattle.naga_look.specs.Graph.Strings.{label_attribute}

-- The identifier of what has this number in something with the identifier `name`: a statement in a block, or a block in
-- a statement.
abbrev pub numbered : (name : List ℕ) → ℕ → List ℕ
numbered name n = name ++ (codes "_" ++ decimal n)

-- ---- nodes

abbrev pub jump_label : Jump → List ℕ
jump_label break = codes "break"
jump_label continue = codes "continue"
jump_label kill = codes "kill"
jump_label (return value) = codes "return" ++ references_text (present (value ∷ []))

-- a statement without the blocks in it, with the name of the function that it calls, if it has one
abbrev pub label_text : the_module.Module → Node → List ℕ
label_text whole (plain what) = action_text what ++ (name_text (called_name whole what) ++ references_text (references_of_statement what))
label_text whole (nested inner) = codes "block"
label_text whole (branch condition accept reject) = codes "if" ++ references_text (operands (condition ∷ []))
label_text whole (switch selector cases) = codes "switch" ++ references_text (operands (selector ∷ []))
label_text whole (loop body continuing break_if) = loop_words break_if ++ references_text (present (break_if ∷ []))
label_text whole (jump to) = jump_label to

-- The statement at a position of a block, of which `old` is the counterpart, is a return that the old module does not have
-- at the same place.
abbrev pub is_inserted_return : (old : Option Tree) → (position : ℕ) → Node → Bool
is_inserted_return old position (jump (return value)) = is_inserted old position
is_inserted_return old position node = false

-- the style of the node of a statement, which is green if the statement is marked
abbrev pub node_style : (marked : Bool) → List ℕ
node_style true = codes "style=\"rounded,filled\", color=darkgreen, fillcolor=palegreen, "
node_style false = codes "style=rounded, "

-- the node of a statement with this identifier
abbrev pub statement_node : the_module.Module → (name : List ℕ) → (marked : Bool) → Node → List ℕ
statement_node whole name marked node =
    codes "        " ++ (name ++ (codes " [" ++ (node_style marked ++ (label_attribute (label_text whole node) ++ codes "]\n"))))

-- ---- edges

abbrev pub arrow : (from to : List ℕ) → List ℕ
arrow from to = codes "        " ++ (from ++ (codes " -> " ++ to))

-- the edge to the statement at a position of a block from the statement before it, if there is one
abbrev pub edge_to : (block : List ℕ) → (position : ℕ) → List ℕ
edge_to block zero = []
edge_to block (suc before) = arrow (numbered block before) (numbered block (suc before)) ++ codes " [style=bold]\n"

-- an edge from a statement into a block in it
abbrev pub edge_inward : (from to : List ℕ) → (label : List ℕ) → List ℕ
edge_inward from to label = arrow from to ++ (codes " [style=dashed, " ++ (label_attribute label ++ codes "]\n"))

-- the edge from a statement to the first statement of the block with this index in it, if there is one
abbrev pub edge_into : (name : List ℕ) → (index : ℕ) → (label : List ℕ) → Tree → List ℕ
edge_into name index label inner =
    unless_empty inner (edge_inward name (numbered (numbered name index) 0) label)

-- ---- cases

-- the first of two texts if the block is empty, and else the second one
abbrev pub if_empty : Tree → List ℕ → List ℕ → List ℕ
if_empty empty none some = none
if_empty (push front last span) none some = some

-- the point that represents a block with this identifier if it is empty
abbrev pub point_text : (block : List ℕ) → Tree → List ℕ
point_text block inner = if_empty inner (codes "        " ++ (block ++ codes " [shape=point, height=0.1]\n")) []

-- the node at which control enters a block with this identifier: its first statement, or its point
abbrev pub first_name : (block : List ℕ) → Tree → List ℕ
first_name block inner = if_empty inner block (numbered block 0)

abbrev pub fall_through_text : Bool → List ℕ
fall_through_text true = codes ", fall through"
fall_through_text false = []

-- the value for which a case is entered, and whether control passes on to the next case
abbrev pub case_label : SwitchValue → (falls_through : Bool) → List ℕ
case_label value falls_through = case_name value ++ fall_through_text falls_through

-- the edge from a switch to the case with this identifier
abbrev pub edge_to_case : (name block : List ℕ) → SwitchValue → Tree → (falls_through : Bool) → List ℕ
edge_to_case name block value body falls_through =
    point_text block body ++ edge_inward name (first_name block body) (case_label value falls_through)

-- ---- statements

abbrev mutual
  -- the statements of a block with this identifier, of which `old` is the counterpart, if there is one
  pub tree_flow : the_module.Module → (block : List ℕ) → (old : Option Tree) → Tree → List ℕ
  tree_flow whole block old empty = []
  tree_flow whole block old (push front last span) =
      tree_flow whole block old front
      ++ (edge_to block (length (nodes front))
      ++ (statement_node whole (numbered block (length (nodes front))) (is_inserted_return old (length (nodes front)) last) last
      ++ blocks_flow whole (numbered block (length (nodes front))) old (length (nodes front)) last))

  -- the blocks in a statement with this identifier, which is at a position of a block, each with the edge to it
  pub blocks_flow : the_module.Module → (name : List ℕ) → (old : Option Tree) → (position : ℕ) → Node → List ℕ
  blocks_flow whole name old position (plain what) = []
  blocks_flow whole name old position (nested inner) =
      edge_into name 0 (codes "block") inner ++ tree_flow whole (numbered name 0) (inner_at old position 0) inner
  blocks_flow whole name old position (branch condition accept reject) =
      (edge_into name 0 (codes "accept") accept ++ tree_flow whole (numbered name 0) (inner_at old position 0) accept)
      ++ (edge_into name 1 (codes "reject") reject ++ tree_flow whole (numbered name 1) (inner_at old position 1) reject)
  blocks_flow whole name old position (switch selector cases) = cases_flow whole name old position 0 cases
  blocks_flow whole name old position (loop body continuing break_if) =
      (edge_into name 0 (codes "body") body ++ tree_flow whole (numbered name 0) (inner_at old position 0) body)
      ++ (edge_into name 1 (codes "continuing") continuing ++ tree_flow whole (numbered name 1) (inner_at old position 1) continuing)
  blocks_flow whole name old position (jump to) = []

  -- the cases of a switch with this identifier, which is at a position of a block, from the case at an index on
  pub cases_flow : the_module.Module → (name : List ℕ) → (old : Option Tree) → (position index : ℕ) → Cases → List ℕ
  cases_flow whole name old position index no_cases = []
  cases_flow whole name old position index (case value body falls_through others) =
      (edge_to_case name (numbered name index) value body falls_through
      ++ tree_flow whole (numbered name index) (inner_at old position index) body)
      ++ cases_flow whole name old position (index + 1) others
