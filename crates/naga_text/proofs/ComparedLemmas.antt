-- A body that is compared with itself gets no marks.
use Rattle.std.proofs.Common.{◌≡◌, ◌∙◌, ◌<◌, ◌+◌, ℕ, Some, None, ap, refl, sym, List, [], ◌∷◌, ◌++◌, length, codes, append_assoc, append-nil, length-append, arith}
use Rattle.std.proofs.Math.Seq.{get_or-append_seam}
use Rattle.std.proofs.lemmas.Option.{slice_get-get_or}
use Rattle.std.specs.Prelude.{Option, not, slice_get}
use Rattle.naga_ir.specs.Tree.{Tree, empty, push, Node, plain, nested, branch, switch, loop, jump, Jump, break, continue, kill, return, Cases, no_cases, case}
use Rattle.naga_text.specs.Blocks.{case_end_text, case_head_text, cases_text, deeper, head_text, jump_text, line, loop_end_text, node_text, part_text, tree_text, unless_empty}
use Rattle.naga_text.specs.Counterparts.{block_at, bodies_of, inner_at, is_inserted, is_return, nodes}

-- the element behind the first part of a list
pub slice_get-seam : {X : Type 0} (xs : List X) (y : X) (ys : List X) → slice_get (xs ++ y ∷ ys) (length xs) ≡ Some y
slice_get-seam xs y ys =
    let within : length xs < length (xs ++ y ∷ ys) = omega (arith, length-append xs (y ∷ ys)) in
    slice_get-get_or (xs ++ y ∷ ys) (length xs) y within ∙ ap Some (get_or-append_seam xs y ys y)

-- a block whose counterpart is itself
block-itself : (margin : List ℕ) (old : Option Tree) (inner : Tree) → old ≡ Some inner → tree_text margin (Some inner) inner ≡ tree_text margin None inner → tree_text margin old inner ≡ tree_text margin None inner
block-itself margin old inner is same = ap (λ o. tree_text margin o inner) is ∙ same

jump-itself : (margin : List ℕ) (whole : Tree) (position : ℕ) (to : Jump) → slice_get (nodes whole) position ≡ Some (jump to) → jump_text margin (is_inserted (Some whole) position) to ≡ jump_text margin (is_inserted None position) to
jump-itself margin whole position break at = refl
jump-itself margin whole position continue at = refl
jump-itself margin whole position kill at = refl
jump-itself margin whole position (return value) at =
    ap (λ place. jump_text margin (not (is_return place)) (return value)) at

mutual
  tree-itself : (margin : List ℕ) (whole front : Tree) (rest : List Node) → nodes whole ≡ nodes front ++ rest → tree_text margin (Some whole) front ≡ tree_text margin None front
  tree-itself margin whole empty rest is = refl
  tree-itself margin whole (push front last span) rest is =
      let split : nodes whole ≡ nodes front ++ last ∷ rest = is ∙ append_assoc (nodes front) (last ∷ []) rest in
      let at : slice_get (nodes whole) (length (nodes front)) ≡ Some last =
      ap (λ xs. slice_get xs (length (nodes front))) split ∙ slice_get-seam (nodes front) last rest
      in
      let before = tree-itself margin whole front (last ∷ rest) split in
      let here = node-itself margin whole (length (nodes front)) last at in
      λ i. before i ++ here i

  node-itself : (margin : List ℕ) (whole : Tree) (position : ℕ) (node : Node) → slice_get (nodes whole) position ≡ Some node → node_text margin (Some whole) position node ≡ node_text margin None position node
  node-itself margin whole position (plain what) at = refl
  node-itself margin whole position (nested inner) at =
      let same = block-itself (deeper margin) (inner_at (Some whole) position 0) inner (ap (λ place. block_at place 0) at) (tree-itself (deeper margin) inner inner [] (sym (append-nil (nodes inner)))) in
      λ i. part_text margin (codes "{\n") (same i) ++ line margin (codes "}")
  node-itself margin whole position (branch condition accept reject) at =
      let first = block-itself (deeper margin) (inner_at (Some whole) position 0) accept (ap (λ place. block_at place 0) at) (tree-itself (deeper margin) accept accept [] (sym (append-nil (nodes accept)))) in
      let second = block-itself (deeper margin) (inner_at (Some whole) position 1) reject (ap (λ place. block_at place 1) at) (tree-itself (deeper margin) reject reject [] (sym (append-nil (nodes reject)))) in
      λ i. head_text margin (codes "if") condition ++ (first i ++ (unless_empty reject (part_text margin (codes "} else {\n") (second i)) ++ line margin (codes "}")))
  node-itself margin whole position (switch selector cases) at =
      let same = cases-itself (deeper margin) whole position 0 (bodies_of cases) [] cases (λ index. ap (λ place. block_at place index) at) refl refl in
      λ i. head_text margin (codes "switch") selector ++ (same i ++ line margin (codes "}"))
  node-itself margin whole position (loop body continuing break_if) at =
      let first = block-itself (deeper margin) (inner_at (Some whole) position 0) body (ap (λ place. block_at place 0) at) (tree-itself (deeper margin) body body [] (sym (append-nil (nodes body)))) in
      let second = block-itself (deeper margin) (inner_at (Some whole) position 1) continuing (ap (λ place. block_at place 1) at) (tree-itself (deeper margin) continuing continuing [] (sym (append-nil (nodes continuing)))) in
      λ i. part_text margin (codes "loop {\n") (first i) ++ (unless_empty continuing (part_text margin (codes "} continuing {\n") (second i)) ++ loop_end_text margin break_if)
  node-itself margin whole position (jump to) at = jump-itself margin whole position to at

  cases-itself : (margin : List ℕ) (whole : Tree) (position index : ℕ) (bodies earlier : List Tree) (cases : Cases) → ((n : ℕ) → inner_at (Some whole) position n ≡ slice_get bodies n) → index ≡ length earlier → bodies ≡ earlier ++ bodies_of cases → cases_text margin (Some whole) position index cases ≡ cases_text margin None position index cases
  cases-itself margin whole position index bodies earlier no_cases at is split = refl
  cases-itself margin whole position index bodies earlier (case value body falls_through others) at is split =
      let found : inner_at (Some whole) position index ≡ Some body =
      at index ∙ ap (slice_get bodies) is ∙ ap (λ xs. slice_get xs (length earlier)) split ∙ slice_get-seam earlier body (bodies_of others)
      in
      let next : index + 1 ≡ length (earlier ++ body ∷ []) = omega (arith, is, length-append earlier (body ∷ [])) in
      let same = block-itself (deeper margin) (inner_at (Some whole) position index) body found (tree-itself (deeper margin) body body [] (sym (append-nil (nodes body)))) in
      let rest = cases-itself margin whole position (index + 1) bodies (earlier ++ body ∷ []) others at next (split ∙ sym (append_assoc earlier (body ∷ []) (bodies_of others))) in
      λ i. (case_head_text margin value ++ (same i ++ case_end_text margin falls_through)) ++ rest i

-- a body that is compared with itself has the same text as one that is not compared
pub tree_text-itself : (margin : List ℕ) (whole : Tree) → tree_text margin (Some whole) whole ≡ tree_text margin None whole
tree_text-itself margin whole = tree-itself margin whole whole [] (sym (append-nil (nodes whole)))
