-- The handles of the statements of a block, and of the cases of a switch.
use Rattle.std.proofs.Common.{◌≡◌, ◌∙◌, ◌<◌, Some, ap, refl, sym, List, [], ◌∷◌, ◌++◌, map}
use Rattle.std.specs.Prelude.{All}
use Rattle.std.specs.List.{Contains}
use Rattle.std.proofs.lemmas.List.{append-nil}
use Rattle.std.proofs.lemmas.Option.{slice_get-get_or}
use Rattle.std.proofs.lemmas.List.Elements.{All-append, All-cons, All-contains, All-head, All-nil, All-tail, Contains-append_left, Contains-append_right}
use Rattle.naga_arena.specs.declared.span.Span.{Span}
use Rattle.naga_ir.specs.Block.{pairs, statements}
use Rattle.naga_ir.specs.Tree.{Tree, empty, push, Node, plain, nested, branch, switch, loop, jump}
use Rattle.naga_ir.specs.View.{cases_of, node_of, pushed, tree_of}
use Rattle.naga_ir.proofs.SizeBlockLemmas.{size-statement_at}
use Rattle.naga_ir.specs.declared.block.Block.{Block, size-Block}
use Rattle.naga_ir.specs.declared.statement.Statement.{Statement, size-Statement, Block', If', Switch', Loop', Break, Continue, Return, Kill}
use Rattle.naga_ir.specs.declared.statement.SwitchCase.{SwitchCase}
use Rattle.naga_valid.specs.Limits.{AreWithin, IsWithin}
use Rattle.naga_valid.specs.Statements.{references_of_cases, references_of_node, references_of_statement, references_of_tree}
use Rattle.naga_valid.specs.declared.limits.Limits.{Limits}
use Rattle.naga_valid.specs.declared.reference.Reference.{Reference}

-- what a statement contains, with the statements of its blocks
abbrev pub references_inside : Statement → List Reference
references_inside statement = references_of_node (node_of statement)

abbrev pub references_of_case : SwitchCase → List Reference
references_of_case the_case = references_of_tree (tree_of the_case.body)

abbrev pub statement_of : Statement × Span → Statement
statement_of pair = pair.0

-- ---- the statements of a block

module _ (limits : Limits) where
  AreWithin-pushed : (front : Tree) (xs : List (Statement × Span)) → AreWithin limits (references_of_tree front) → All (λ s. AreWithin limits (references_inside s)) (map statement_of xs) → AreWithin limits (references_of_tree (pushed front xs))
  AreWithin-pushed front [] before all = before
  AreWithin-pushed front (x ∷ xs) before all =
      AreWithin-pushed (push front (node_of x.0) x.1) xs
      (All-append (IsWithin limits) (references_of_tree front) (references_inside x.0) before (All-head (λ s. AreWithin limits (references_inside s)) x.0 (map statement_of xs) all))
      (All-tail (λ s. AreWithin limits (references_inside s)) x.0 (map statement_of xs) all)

  pub AreWithin-block : (b : Block) → All (λ s. AreWithin limits (references_inside s)) (statements b) → AreWithin limits (references_of_tree (tree_of b))
  AreWithin-block b all = AreWithin-pushed empty (pairs b) (All-nil (IsWithin limits)) all

  pub AreWithin-cases : (cases : List SwitchCase) → All (λ x. AreWithin limits (references_of_case x)) cases → AreWithin limits (references_of_cases (cases_of cases))
  AreWithin-cases [] all = All-nil (IsWithin limits)
  AreWithin-cases (x ∷ cases) all =
      All-append (IsWithin limits) (references_of_case x) (references_of_cases (cases_of cases))
      (All-head (λ y. AreWithin limits (references_of_case y)) x cases all)
      (AreWithin-cases cases (All-tail (λ y. AreWithin limits (references_of_case y)) x cases all))

module _ (reference : Reference) where
  Contains-front : (front : Tree) (xs : List (Statement × Span)) → Contains (references_of_tree front) reference → Contains (references_of_tree (pushed front xs)) reference
  Contains-front front [] inside = inside
  Contains-front front (x ∷ xs) inside =
      Contains-front (push front (node_of x.0) x.1) xs (Contains-append_left (references_of_tree front) (references_inside x.0) reference inside)

  Contains-pushed : (front : Tree) (xs : List (Statement × Span)) → All (λ s. Contains (references_inside s) reference → Contains (references_of_tree (pushed front xs)) reference) (map statement_of xs)
  Contains-pushed front [] = All-nil (λ s. Contains (references_inside s) reference → Contains (references_of_tree front) reference)
  Contains-pushed front (x ∷ xs) =
      All-cons (λ s. Contains (references_inside s) reference → Contains (references_of_tree (pushed front (x ∷ xs))) reference) x.0 (map statement_of xs)
      (λ inside. Contains-front (push front (node_of x.0) x.1) xs (Contains-append_right (references_of_tree front) (references_inside x.0) reference inside))
      (Contains-pushed (push front (node_of x.0) x.1) xs)

  pub Contains-block : (b : Block) (s : Statement) → Contains (statements b) s → Contains (references_inside s) reference → Contains (references_of_tree (tree_of b)) reference
  Contains-block b s inside =
      All-contains (λ y. Contains (references_inside y) reference → Contains (references_of_tree (tree_of b)) reference) (statements b) s (Contains-pushed empty (pairs b)) inside

  Contains-in_cases : (cases : List SwitchCase) → All (λ x. Contains (references_of_case x) reference → Contains (references_of_cases (cases_of cases)) reference) cases
  Contains-in_cases [] = All-nil (λ x. Contains (references_of_case x) reference → Contains (references_of_cases (cases_of [])) reference)
  Contains-in_cases (x ∷ cases) =
      All-cons (λ y. Contains (references_of_case y) reference → Contains (references_of_cases (cases_of (x ∷ cases))) reference) x cases
      (Contains-append_left (references_of_case x) (references_of_cases (cases_of cases)) reference)
      (λ k d lt inside. Contains-append_right (references_of_case x) (references_of_cases (cases_of cases)) reference (Contains-in_cases cases k d lt inside))

  pub Contains-cases : (cases : List SwitchCase) (x : SwitchCase) → Contains cases x → Contains (references_of_case x) reference → Contains (references_of_cases (cases_of cases)) reference
  Contains-cases cases x inside =
      All-contains (λ y. Contains (references_of_case y) reference → Contains (references_of_cases (cases_of cases)) reference) cases x (Contains-in_cases cases) inside

-- the statements of a block are smaller than the block
pub size-contained : (b : Block) (s : Statement) → Contains (statements b) s → size-Statement s < size-Block b
size-contained b s inside =
    size-statement_at b inside.0 s (slice_get-get_or (statements b) inside.0 s inside.1 ∙ ap Some inside.2)

-- ---- the blocks of a statement

-- what the blocks of a statement contain
abbrev pub references_of_blocks : Node → List Reference
references_of_blocks (plain what) = []
references_of_blocks (nested inner) = references_of_tree inner
references_of_blocks (branch condition accept reject) = references_of_tree accept ++ references_of_tree reject
references_of_blocks (switch selector cases) = references_of_cases cases
references_of_blocks (loop body continuing break_if) = references_of_tree body ++ references_of_tree continuing
references_of_blocks (jump to) = []

-- a statement contains its own handles and those of its blocks
pub references_inside-parts : (s : Statement) → references_inside s ≡ references_of_statement s ++ references_of_blocks (node_of s)
references_inside-parts (Block' shape row) = refl
references_inside-parts (If' condition shape accept shape' reject) = refl
references_inside-parts (Switch' selector shape cases) = refl
references_inside-parts (Loop' shape body shape' continuing break_if) = refl
references_inside-parts Break = refl
references_inside-parts Continue = refl
references_inside-parts (Return value) = sym (append-nil (references_of_statement (Return value)))
references_inside-parts Kill = refl
references_inside-parts s = sym (append-nil (references_of_statement s))
