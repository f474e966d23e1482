-- Searches of appended lists.
use Rattle.std.proofs.Common.{◌≡◌, sym, subst, ℕ, ◌+◌, ◌≤◌, List, ◌++◌, length, take, Option, Some, None, true, false, is_some}
use Rattle.std.specs.Prelude.{All, slice_get}
use Rattle.std.proofs.lemmas.Option.{get_or_from_slice_get, slice_get_within}
use Rattle.naga_arena.proofs.AllLemmas.{All-take_all, All-take_more}
use Rattle.std.specs.List.{Contains}
use Rattle.std.proofs.lemmas.Bool.{false≢true}
use Rattle.std.proofs.lemmas.List.Elements.{All-append, Contains-append_left, Contains-append_right}
use Rattle.naga_ir.specs.Block.{statements}
use Rattle.naga_ir.specs.View.{cases_of, node_of, tree_of}
use Rattle.naga_ir.specs.declared.block.Block.{Block}
use Rattle.naga_ir.specs.declared.statement.Statement.{Statement}
use Rattle.naga_ir.specs.declared.statement.SwitchCase.{SwitchCase}
use Rattle.naga_valid.specs.Limits.{AreWithin, FindsOutside, FindsUnlike, IsWithin}
use Rattle.naga_valid.specs.Statements.{references_of_cases, references_of_statement, references_of_tree}
use Rattle.naga_valid.specs.declared.limits.Limits.{Limits}
use Rattle.naga_valid.specs.declared.reference.Reference.{Reference}
use Rattle.naga_valid.proofs.ReferencesOfTreeLemmas.{AreWithin-block, Contains-block, Contains-cases, references_inside, references_inside-parts, references_of_blocks, references_of_case}

module _ (P : Reference → Type 0) (xs ys : List Reference) where
  -- a handle of the first list
  pub FindsUnlike-left : (found : Option Reference) → is_some found ≡ true → FindsUnlike P xs found → FindsUnlike P (xs ++ ys) found
  FindsUnlike-left None some finds = absurd (false≢true some)
  FindsUnlike-left (Some reference) some finds = (Contains-append_left xs ys reference finds.0, finds.1)

  -- no handle of the first list, and what is found in the second one
  pub FindsUnlike-right : (found answer : Option Reference) → is_some found ≡ false → FindsUnlike P xs found → FindsUnlike P ys answer → FindsUnlike P (xs ++ ys) answer
  FindsUnlike-right (Some reference) answer none first second = absurd (false≢true (sym none))
  FindsUnlike-right None None none first second = All-append P xs ys first second
  FindsUnlike-right None (Some reference) none first second = (Contains-append_right xs ys reference second.0, second.1)

module _ (limits : Limits) (s : Statement) (own : Option Reference) (finds : FindsOutside limits (references_of_statement s) own) where
  -- one of the statement's own handles
  pub FindsOutside-own : is_some own ≡ true → FindsOutside limits (references_inside s) own
  FindsOutside-own some =
      subst (λ references. FindsOutside limits references own) (sym (references_inside-parts s)) (FindsUnlike-left (IsWithin limits) (references_of_statement s) (references_of_blocks (node_of s)) own some finds)

  -- none of them, and what is found in the blocks of the statement
  pub FindsOutside-blocks : is_some own ≡ false → (inner : List Reference) (answer : Option Reference) → references_of_blocks (node_of s) ≡ inner → FindsOutside limits inner answer → FindsOutside limits (references_inside s) answer
  FindsOutside-blocks none inner answer is second =
      subst (λ references. FindsOutside limits references answer) (sym (references_inside-parts s))
      (FindsUnlike-right (IsWithin limits) (references_of_statement s) (references_of_blocks (node_of s)) own answer none finds (subst (λ references. FindsOutside limits references answer) (sym is) second))

-- ---- what is found among the statements of a block or the cases of a switch

module _ (limits : Limits) (found : Option Reference) where
  pub found-in_block : (b : Block) (s : Statement) → Contains (statements b) s → is_some found ≡ true → FindsOutside limits (references_inside s) found → FindsOutside limits (references_of_tree (tree_of b)) found
  found-in_block b s inside some finds = by_answer found some finds
    where
      by_answer : (answer : Option Reference) → is_some answer ≡ true → FindsOutside limits (references_inside s) answer → FindsOutside limits (references_of_tree (tree_of b)) answer
      by_answer None some' finding = absurd (false≢true some')
      by_answer (Some reference) some' finding = (Contains-block reference b s inside finding.0, finding.1)

  pub found-in_cases : (cases : List SwitchCase) (x : SwitchCase) → Contains cases x → is_some found ≡ true → FindsOutside limits (references_of_case x) found → FindsOutside limits (references_of_cases (cases_of cases)) found
  found-in_cases cases x inside some finds = by_answer found some finds
    where
      by_answer : (answer : Option Reference) → is_some answer ≡ true → FindsOutside limits (references_of_case x) answer → FindsOutside limits (references_of_cases (cases_of cases)) answer
      by_answer None some' finding = absurd (false≢true some')
      by_answer (Some reference) some' finding = (Contains-cases reference cases x inside finding.0, finding.1)

  pub nothing-found : (references : List Reference) → is_some found ≡ false → FindsOutside limits references found → AreWithin limits references
  nothing-found references none finds = by_answer found none finds
    where
      by_answer : (answer : Option Reference) → is_some answer ≡ false → FindsOutside limits references answer → AreWithin limits references
      by_answer None none' finding = finding
      by_answer (Some reference) none' finding = absurd (false≢true (sym none'))

-- the element at a position
pub Contains-slice_get : {X : Type 0} (xs : List X) (i : ℕ) (x : X) → slice_get xs i ≡ Some x → Contains xs x
Contains-slice_get xs i x found = (i, slice_get_within xs i x found, get_or_from_slice_get xs i x x found)

module _ (limits : Limits) (b : Block) (last : ℕ) (s : Statement) (at : slice_get (statements b) last ≡ Some s) (past : length (statements b) ≤ last + 1) (before : All (λ s. AreWithin limits (references_inside s)) (take last (statements b))) where
  -- nothing is found before the last statement
  pub found-last : (found : Option Reference) → FindsOutside limits (references_inside s) found → FindsOutside limits (references_of_tree (tree_of b)) found
  found-last None finds =
      AreWithin-block limits b (All-take_all (λ s. AreWithin limits (references_inside s)) (statements b) (last + 1) past
      (All-take_more (λ s. AreWithin limits (references_inside s)) (statements b) last s (slice_get_within (statements b) last s at) (sym (get_or_from_slice_get (statements b) last s s at)) before finds))
  found-last (Some reference) finds = (Contains-block reference b s (Contains-slice_get (statements b) last s at) finds.0, finds.1)
