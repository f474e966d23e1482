-- The weight of a tree, a measure that decreases with the recursion when the tree is run.
use Rattle.std.proofs.Common.{ℕ, zero, suc, ◌+◌, ◌<◌, ◌≤◌, List, [], ◌∷◌, length, get_or, arith}
use Rattle.naga_arena.specs.declared.span.Span.{Span}
use Rattle.naga_ir.specs.Tree.{Tree, empty, push, Node, plain, nested, branch, switch, loop, jump, Cases, no_cases, case}
use Rattle.naga_ir.specs.View.{node_of, tree_of, pushed, cases_of}
use Rattle.naga_ir.specs.declared.statement.Statement.{Statement}
use Rattle.naga_ir.specs.declared.statement.SwitchCase.{SwitchCase}
use Rattle.naga_runs.specs.Runs.{from}

abbrev mutual
  pub tree_weight : Tree → ℕ
  tree_weight empty = 1
  tree_weight (push front last span) = tree_weight front + node_weight last

  pub node_weight : Node → ℕ
  node_weight (plain what) = 0
  node_weight (nested inner) = tree_weight inner + 1
  node_weight (branch condition accept reject) = tree_weight accept + tree_weight reject + 2
  node_weight (switch selector cases) = cases_weight cases + 2
  node_weight (loop body continuing break_if) = tree_weight body + tree_weight continuing + 3
  node_weight (jump to) = 0

  pub cases_weight : Cases → ℕ
  cases_weight no_cases = 0
  cases_weight (case value body falls_through others) = tree_weight body + cases_weight others + 1

-- a block weighs more than each of its statements
tree_weight-front : (front : Tree) (pairs : List (Statement × Span)) → tree_weight front ≤ tree_weight (pushed front pairs)
tree_weight-front front [] = omega arith
tree_weight-front front (pair ∷ pairs) =
    let more : tree_weight (push front (node_of pair.0) pair.1) ≤ tree_weight (pushed front (pair ∷ pairs)) = tree_weight-front (push front (node_of pair.0) pair.1) pairs in
    omega arith

tree_weight-positive : (b : Tree) → 0 < tree_weight b
tree_weight-positive empty = omega arith
tree_weight-positive (push front last span) = let front_holds = tree_weight-positive front in omega arith

pub node_weight-statement : (front : Tree) (pair : Statement × Span) (pairs : List (Statement × Span)) → node_weight (node_of pair.0) < tree_weight (pushed front (pair ∷ pairs))
node_weight-statement front pair pairs =
    let holds = tree_weight-positive front in
    let more : tree_weight (push front (node_of pair.0) pair.1) ≤ tree_weight (pushed front (pair ∷ pairs)) = tree_weight-front (push front (node_of pair.0) pair.1) pairs in
    omega arith

-- a list of cases weighs more than each of their bodies
pub tree_weight-body : (cases : List SwitchCase) (i : ℕ) (d : SwitchCase) → i < length cases → tree_weight (tree_of (get_or cases i d).body) < cases_weight (cases_of cases)
tree_weight-body [] i d h = absurd (omega arith)
tree_weight-body (first ∷ cases) zero d h = omega arith
tree_weight-body (first ∷ cases) (suc i) d h = let rest = tree_weight-body cases i d (omega arith) in omega arith

-- the cases from a position on do not weigh more than all cases
pub cases_weight-from : (position : ℕ) (cases : Cases) → cases_weight (from position cases) ≤ cases_weight cases
cases_weight-from zero cases = omega arith
cases_weight-from (suc position) no_cases = omega arith
cases_weight-from (suc position) (case value body falls_through others) = let rest = cases_weight-from position others in omega arith
