-- What passes keep of the jumps that are allowed where they are.
use Rattle.std.proofs.Common.{◌≡◌, ℕ, Bool, true, false, ◌&&◌, refl}
use Rattle.std.proofs.lemmas.Bool.{and_parts}
use Rattle.naga_compact.specs.Culling.{culled, culled_node, culled_cases}
use Rattle.naga_compact.specs.Mapping.{map_jump, map_tree, map_node, map_cases}
use Rattle.naga_compact.proofs.CulledLemmas.{push_reached-cases}
use Rattle.naga_flow.specs.Structured.{allows, in_case, in_body_of_loop, of_continuing, is_structured, node_is_structured, cases_are_structured}
use Rattle.naga_flow.specs.declared.exits.Exits.{Exits}
use Rattle.naga_ir.specs.Tree.{Tree, empty, push, Node, plain, nested, branch, switch, loop, jump, Jump, break, continue, kill, return, Cases, no_cases, case}
use Rattle.naga_ir.specs.declared.statement.Statement.{Statement}
use Rattle.naga_proc.specs.Closing.{closed, closed_inside, closed_cases, returned_if, follows}
use Rattle.naga_proc.specs.declared.terminator.rule.Rule.{Rule}

both : (a b : Bool) → a ≡ true → b ≡ true → (a && b) ≡ true
both true b h k = k
both false b h k = h

-- ---- culling

mutual
  pub culled-is_structured : (around : Exits) (block : Tree) → is_structured around block ≡ true → is_structured around (culled block) ≡ true
  culled-is_structured around empty h = refl
  culled-is_structured around (push front last span) h =
      let parts = and_parts (is_structured around front) (node_is_structured around last) h in
      let before : is_structured around (culled front) ≡ true = culled-is_structured around front parts.0 in
      let inside : node_is_structured around (culled_node last) ≡ true = culled_node-is_structured around last parts.1 in
      push_reached-cases (λ b. is_structured around b ≡ true) (culled front) (culled_node last) span (λ q. before)
      (λ q. both (is_structured around (culled front)) (node_is_structured around (culled_node last)) before inside)

  culled_node-is_structured : (around : Exits) (node : Node) → node_is_structured around node ≡ true → node_is_structured around (culled_node node) ≡ true
  culled_node-is_structured around (plain what) h = h
  culled_node-is_structured around (nested inner) h = culled-is_structured around inner h
  culled_node-is_structured around (branch condition accept reject) h =
      let parts = and_parts (is_structured around accept) (is_structured around reject) h in
      both (is_structured around (culled accept)) (is_structured around (culled reject)) (culled-is_structured around accept parts.0) (culled-is_structured around reject parts.1)
  culled_node-is_structured around (switch selector cases) h = culled_cases-are_structured around cases h
  culled_node-is_structured around (loop body continuing break_if) h =
      let parts = and_parts (is_structured (in_body_of_loop around) body) (is_structured of_continuing continuing) h in
      both (is_structured (in_body_of_loop around) (culled body)) (is_structured of_continuing (culled continuing))
      (culled-is_structured (in_body_of_loop around) body parts.0) (culled-is_structured of_continuing continuing parts.1)
  culled_node-is_structured around (jump to) h = h

  culled_cases-are_structured : (around : Exits) (cases : Cases) → cases_are_structured around cases ≡ true → cases_are_structured around (culled_cases cases) ≡ true
  culled_cases-are_structured around no_cases h = h
  culled_cases-are_structured around (case value body falls_through others) h =
      let parts = and_parts (is_structured (in_case around) body) (cases_are_structured around others) h in
      both (is_structured (in_case around) (culled body)) (cases_are_structured around (culled_cases others))
      (culled-is_structured (in_case around) body parts.0) (culled_cases-are_structured around others parts.1)

-- ---- closing

returned_if-is_structured : (around : Exits) (gets : Bool) (block : Tree) → around.by_return ≡ true → is_structured around block ≡ true → is_structured around (returned_if gets block) ≡ true
returned_if-is_structured around true block returns h = both (is_structured around block) around.by_return h returns
returned_if-is_structured around false block returns h = h

mutual
  pub closed-is_structured : (rule : Rule) (around : Exits) (block : Tree) → around.by_return ≡ true → is_structured around block ≡ true → is_structured around (closed rule block) ≡ true
  closed-is_structured rule around empty returns h = returns
  closed-is_structured rule around (push front last span) returns h =
      let parts = and_parts (is_structured around front) (node_is_structured around last) h in
      returned_if-is_structured around (follows rule last) (push front (closed_inside rule last) span) returns
      (both (is_structured around front) (node_is_structured around (closed_inside rule last)) parts.0 (closed_inside-is_structured rule around last returns parts.1))

  closed_inside-is_structured : (rule : Rule) (around : Exits) (node : Node) → around.by_return ≡ true → node_is_structured around node ≡ true → node_is_structured around (closed_inside rule node) ≡ true
  closed_inside-is_structured rule around (plain what) returns h = h
  closed_inside-is_structured rule around (nested inner) returns h = closed-is_structured rule around inner returns h
  closed_inside-is_structured rule around (branch condition accept reject) returns h =
      let parts = and_parts (is_structured around accept) (is_structured around reject) h in
      both (is_structured around (closed rule accept)) (is_structured around (closed rule reject))
      (closed-is_structured rule around accept returns parts.0) (closed-is_structured rule around reject returns parts.1)
  closed_inside-is_structured rule around (switch selector cases) returns h = closed_cases-are_structured rule around cases returns h
  closed_inside-is_structured rule around (loop body continuing break_if) returns h = h
  closed_inside-is_structured rule around (jump to) returns h = h

  closed_cases-are_structured : (rule : Rule) (around : Exits) (cases : Cases) → around.by_return ≡ true → cases_are_structured around cases ≡ true → cases_are_structured around (closed_cases rule cases) ≡ true
  closed_cases-are_structured rule around no_cases returns h = h
  closed_cases-are_structured rule around (case value body true others) returns h =
      let parts = and_parts (is_structured (in_case around) body) (cases_are_structured around others) h in
      both (is_structured (in_case around) body) (cases_are_structured around (closed_cases rule others)) parts.0 (closed_cases-are_structured rule around others returns parts.1)
  closed_cases-are_structured rule around (case value body false others) returns h =
      let parts = and_parts (is_structured (in_case around) body) (cases_are_structured around others) h in
      both (is_structured (in_case around) (closed rule body)) (cases_are_structured around (closed_cases rule others))
      (closed-is_structured rule (in_case around) body returns parts.0) (closed_cases-are_structured rule around others returns parts.1)

-- ---- renaming

map_jump-allows : (on_expression : ℕ → ℕ) (around : Exits) (to : Jump) → allows around (map_jump on_expression to) ≡ allows around to
map_jump-allows on_expression around break = refl
map_jump-allows on_expression around continue = refl
map_jump-allows on_expression around (return value) = refl
map_jump-allows on_expression around kill = refl

module _ (on_plain : Statement → Statement) (on_expression : ℕ → ℕ) where
  mutual
    pub map_tree-is_structured : (around : Exits) (block : Tree) → is_structured around (map_tree on_plain on_expression block) ≡ is_structured around block
    map_tree-is_structured around empty = refl
    map_tree-is_structured around (push front last span) = λ i. map_tree-is_structured around front i && map_node-is_structured around last i

    map_node-is_structured : (around : Exits) (node : Node) → node_is_structured around (map_node on_plain on_expression node) ≡ node_is_structured around node
    map_node-is_structured around (plain what) = refl
    map_node-is_structured around (nested inner) = map_tree-is_structured around inner
    map_node-is_structured around (branch condition accept reject) = λ i. map_tree-is_structured around accept i && map_tree-is_structured around reject i
    map_node-is_structured around (switch selector cases) = map_cases-are_structured around cases
    map_node-is_structured around (loop body continuing break_if) =
        λ i. map_tree-is_structured (in_body_of_loop around) body i && map_tree-is_structured of_continuing continuing i
    map_node-is_structured around (jump to) = map_jump-allows on_expression around to

    map_cases-are_structured : (around : Exits) (cases : Cases) → cases_are_structured around (map_cases on_plain on_expression cases) ≡ cases_are_structured around cases
    map_cases-are_structured around no_cases = refl
    map_cases-are_structured around (case value body falls_through others) =
        λ i. map_tree-is_structured (in_case around) body i && map_cases-are_structured around others i
