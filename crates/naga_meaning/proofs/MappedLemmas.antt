-- Closed blocks of which statements and expressions are replaced: closing and replacing can be exchanged.
use Rattle.std.proofs.Common.{◌≡◌, ◌∙◌, sym, ap, refl, ℕ, Bool, true, false, not, ◌||◌, ◌∷◌}
use Rattle.naga_ir.specs.Tree.{Tree, empty, push, Node, plain, nested, branch, switch, loop, jump, return, break, continue, kill, Cases, no_cases, case}
use Rattle.naga_runs.specs.Exits.{breaks_out, node_breaks, a_case_breaks, last_falls, has_default, has_exit}
use Rattle.naga_runs.specs.Runs.{values}
use Rattle.naga_ir.specs.declared.statement.Statement.{Statement}
use Rattle.naga_compact.specs.Mapping.{map_tree, map_node, map_cases}
use Rattle.naga_proc.specs.Closing.{closed, closed_inside, closed_cases, follows, returned_if}
use Rattle.naga_proc.specs.declared.terminator.rule.Rule.{Rule}
use Rattle.naga_proc.specs.declared.terminator.rule.Rule.TheVariants.{New, Old}

module _ (on_plain : Statement → Statement) (on_expression : ℕ → ℕ) where
  -- ---- exits

  mutual
    breaks_out-map_tree : (block : Tree) → breaks_out (map_tree on_plain on_expression block) ≡ breaks_out block
    breaks_out-map_tree empty = refl
    breaks_out-map_tree (push front last span) = λ i. breaks_out-map_tree front i || node_breaks-map_node last i

    node_breaks-map_node : (node : Node) → node_breaks (map_node on_plain on_expression node) ≡ node_breaks node
    node_breaks-map_node (plain what) = refl
    node_breaks-map_node (nested inner) = breaks_out-map_tree inner
    node_breaks-map_node (branch condition accept reject) = λ i. breaks_out-map_tree accept i || breaks_out-map_tree reject i
    node_breaks-map_node (switch selector cases) = refl
    node_breaks-map_node (loop body continuing break_if) = refl
    node_breaks-map_node (jump break) = refl
    node_breaks-map_node (jump continue) = refl
    node_breaks-map_node (jump (return value)) = refl
    node_breaks-map_node (jump kill) = refl

  a_case_breaks-map_cases : (cases : Cases) → a_case_breaks (map_cases on_plain on_expression cases) ≡ a_case_breaks cases
  a_case_breaks-map_cases no_cases = refl
  a_case_breaks-map_cases (case value body falls_through others) =
      λ i. breaks_out-map_tree body i || a_case_breaks-map_cases others i

  pub values-map_cases : (cases : Cases) → values (map_cases on_plain on_expression cases) ≡ values cases
  values-map_cases no_cases = refl
  values-map_cases (case value body falls_through others) = ap (λ vs. value ∷ vs) (values-map_cases others)

  pub last_falls-map_cases : (cases : Cases) → last_falls (map_cases on_plain on_expression cases) ≡ last_falls cases
  last_falls-map_cases no_cases = refl
  last_falls-map_cases (case value body falls_through no_cases) = refl
  last_falls-map_cases (case value body falls_through (case value' body' falls_through' others)) =
      last_falls-map_cases (case value' body' falls_through' others)

  pub has_exit-map_cases : (cases : Cases) → has_exit (map_cases on_plain on_expression cases) ≡ has_exit cases
  has_exit-map_cases cases =
      λ i. not (has_default (values-map_cases cases i)) || last_falls-map_cases cases i || a_case_breaks-map_cases cases i

  -- ---- closing and replacing can be exchanged

  follows-map_node : (rule : Rule) (last : Node) → follows rule (map_node on_plain on_expression last) ≡ follows rule last
  follows-map_node rule (plain what) = refl
  follows-map_node rule (nested inner) = refl
  follows-map_node rule (branch condition accept reject) = refl
  follows-map_node New (switch selector cases) = has_exit-map_cases cases
  follows-map_node Old (switch selector cases) = refl
  follows-map_node rule (loop body continuing break_if) = refl
  follows-map_node rule (jump to) = refl

  map_tree-returned_if : (gets : Bool) (block : Tree) → map_tree on_plain on_expression (returned_if gets block) ≡ returned_if gets (map_tree on_plain on_expression block)
  map_tree-returned_if true block = refl
  map_tree-returned_if false block = refl

  mutual
    pub map_tree-closed : (rule : Rule) (block : Tree) → map_tree on_plain on_expression (closed rule block) ≡ closed rule (map_tree on_plain on_expression block)
    map_tree-closed rule empty = refl
    map_tree-closed rule (push front last span) =
        map_tree-returned_if (follows rule last) (push front (closed_inside rule last) span)
        ∙ (λ i. returned_if (sym (follows-map_node rule last) i) (push (map_tree on_plain on_expression front) (map_node-closed rule last i) span))

    map_node-closed : (rule : Rule) (last : Node) → map_node on_plain on_expression (closed_inside rule last) ≡ closed_inside rule (map_node on_plain on_expression last)
    map_node-closed rule (plain what) = refl
    map_node-closed rule (nested inner) = ap nested (map_tree-closed rule inner)
    map_node-closed rule (branch condition accept reject) =
        λ i. branch (on_expression condition) (map_tree-closed rule accept i) (map_tree-closed rule reject i)
    map_node-closed rule (switch selector cases) = ap (switch (on_expression selector)) (map_cases-closed rule cases)
    map_node-closed rule (loop body continuing break_if) = refl
    map_node-closed rule (jump to) = refl

    map_cases-closed : (rule : Rule) (cases : Cases) → map_cases on_plain on_expression (closed_cases rule cases) ≡ closed_cases rule (map_cases on_plain on_expression cases)
    map_cases-closed rule no_cases = refl
    map_cases-closed rule (case value body true others) =
        ap (case value (map_tree on_plain on_expression body) true) (map_cases-closed rule others)
    map_cases-closed rule (case value body false others) =
        λ i. case value (map_tree-closed rule body i) false (map_cases-closed rule others i)
