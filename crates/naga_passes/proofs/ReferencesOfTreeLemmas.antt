-- The handles in a culled block.
use Rattle.std.proofs.Common.{List, ◌++◌, ◌∷◌, [], Bool, true, false, cond}
use Rattle.std.proofs.lemmas.List.Elements.{All-append, All-contains, All-contains_itself}
use Rattle.std.specs.List.{All, Contains}
use Rattle.naga_arena.specs.declared.span.Span.{Span}
use Rattle.naga_ir.specs.Tree.{Tree, empty, push, Node, plain, nested, branch, switch, loop, jump, Cases, no_cases, case}
use Rattle.naga_runs.specs.Diverges.{diverges}
use Rattle.naga_valid.specs.Reference.{operands, present}
use Rattle.naga_valid.specs.Statements.{references_of_cases, references_of_node, references_of_tree}
use Rattle.naga_valid.specs.declared.reference.Reference.{Reference}
use Rattle.naga_compact.specs.Culling.{culled, culled_cases, culled_node, push_reached}
use Rattle.naga_proc.proofs.AllLemmas.{All-parts}

module _ (P : Reference → Type 0) where
  -- whether or not the last statement is reached
  All-reached : (front : Tree) (last : Node) (span : Span) → All P (references_of_tree front) → All P (references_of_node last) → All P (references_of_tree (push_reached front last span))
  All-reached front last span before inside = by (diverges front)
    where
      by : (b : Bool) → All P (references_of_tree (cond b front (push front last span)))
      by true = before
      by false = All-append P (references_of_tree front) (references_of_node last) before inside

  -- on both sides
  both : (xs xs' ys ys' : List Reference) → (All P xs → All P xs') → (All P ys → All P ys') → All P (xs ++ ys) → All P (xs' ++ ys')
  both xs xs' ys ys' left right all =
      All-append P xs' ys' (left (All-parts P xs ys all).0) (right (All-parts P xs ys all).1)

  mutual
    pub All-culled : (b : Tree) → All P (references_of_tree b) → All P (references_of_tree (culled b))
    All-culled empty within = within
    All-culled (push front last span) within =
        All-reached (culled front) (culled_node last) span
        (All-culled front (All-parts P (references_of_tree front) (references_of_node last) within).0)
        (All-culled_node last (All-parts P (references_of_tree front) (references_of_node last) within).1)

    All-culled_node : (node : Node) → All P (references_of_node node) → All P (references_of_node (culled_node node))
    All-culled_node (plain what) within = within
    All-culled_node (nested inner) within = All-culled inner within
    All-culled_node (branch condition accept reject) within =
        both (operands (condition ∷ [])) (operands (condition ∷ [])) (references_of_tree accept ++ references_of_tree reject) (references_of_tree (culled accept) ++ references_of_tree (culled reject)) (λ same. same)
        (both (references_of_tree accept) (references_of_tree (culled accept)) (references_of_tree reject) (references_of_tree (culled reject)) (All-culled accept) (All-culled reject)) within
    All-culled_node (switch selector cases) within =
        both (operands (selector ∷ [])) (operands (selector ∷ [])) (references_of_cases cases) (references_of_cases (culled_cases cases)) (λ same. same) (All-culled_cases cases) within
    All-culled_node (loop body continuing break_if) within =
        both (present (break_if ∷ [])) (present (break_if ∷ [])) (references_of_tree body ++ references_of_tree continuing) (references_of_tree (culled body) ++ references_of_tree (culled continuing)) (λ same. same)
        (both (references_of_tree body) (references_of_tree (culled body)) (references_of_tree continuing) (references_of_tree (culled continuing)) (All-culled body) (All-culled continuing)) within
    All-culled_node (jump to) within = within

    All-culled_cases : (cases : Cases) → All P (references_of_cases cases) → All P (references_of_cases (culled_cases cases))
    All-culled_cases no_cases within = within
    All-culled_cases (case value body falls_through others) within =
        both (references_of_tree body) (references_of_tree (culled body)) (references_of_cases others) (references_of_cases (culled_cases others)) (All-culled body) (All-culled_cases others) within

-- a culled block contains no other handles
pub Contains-culled : (b : Tree) (handle : Reference) → Contains (references_of_tree (culled b)) handle → Contains (references_of_tree b) handle
Contains-culled b handle =
    All-contains (Contains (references_of_tree b)) (references_of_tree (culled b)) handle (All-culled (Contains (references_of_tree b)) b (All-contains_itself (references_of_tree b)))
