-- Blocks in which plain statements, and the expressions that control flow depends on, are replaced one by one.
pub mod Runs
use Rattle.std.specs.Prelude.{ℕ, option_map}
use Rattle.naga_ir.specs.Tree.{Tree, empty, push, Node, plain, nested, branch, switch, loop, jump, Cases, no_cases, case, Jump, return}
use Rattle.naga_ir.specs.declared.statement.Statement.{Statement}

abbrev pub map_jump : (ℕ → ℕ) → Jump → Jump
map_jump on_expression (return value) = return (option_map on_expression value)
map_jump on_expression to = to

module _ (on_plain : Statement → Statement) (on_expression : ℕ → ℕ) where
  abbrev mutual
    -- the block with its plain statements and the expressions of all others replaced, in the blocks inside it, too
    pub map_tree : Tree → Tree
    map_tree empty = empty
    map_tree (push front last span) = push (map_tree front) (map_node last) span

    pub map_node : Node → Node
    map_node (plain what) = plain (on_plain what)
    map_node (nested inner) = nested (map_tree inner)
    map_node (branch condition accept reject) = branch (on_expression condition) (map_tree accept) (map_tree reject)
    map_node (switch selector cases) = switch (on_expression selector) (map_cases cases)
    map_node (loop body continuing break_if) = loop (map_tree body) (map_tree continuing) (option_map on_expression break_if)
    map_node (jump to) = jump (map_jump on_expression to)

    pub map_cases : Cases → Cases
    map_cases no_cases = no_cases
    map_cases (case value body falls_through others) = case value (map_tree body) falls_through (map_cases others)
