-- What holds of each statement of a block.
use Rattle.std.proofs.Common.{◌≡◌, ◌∙◌, List, [], ◌∷◌, ◌++◌, refl, sym, ap}
use Rattle.std.proofs.lemmas.List.{append-nil, append_assoc}
use Rattle.std.proofs.lemmas.List.Elements.{All-append, All-cons, All-head, All-tail}
use Rattle.std.specs.Prelude.{All}
use Rattle.naga_arena.specs.declared.span.Span.{Span}
use Rattle.naga_ir.specs.Block.{pairs}
use Rattle.naga_ir.specs.Tree.{Tree, empty, push, Node}
use Rattle.naga_ir.specs.View.{cases_of, node_of, pushed, tree_of}
use Rattle.naga_ir.specs.declared.block.Block.{Block}
use Rattle.naga_ir.specs.declared.statement.Statement.{Statement}
use Rattle.naga_ir.specs.declared.statement.SwitchCase.{SwitchCase}
use Rattle.naga_flow.proofs.AllLemmas.{All-both}
use Rattle.naga_typing.specs.Statements.{statements, statements_inside, statements_of_cases}

-- ---- the statements of a list

-- a statement of a block, and those inside it
abbrev pub statements_of_pair : Statement × Span → List (Node × Span)
statements_of_pair x = (node_of x.0, x.1) ∷ statements_inside (node_of x.0)

-- the statements of each element of a list
abbrev pub each : {X : Type 0} → (X → List (Node × Span)) → List X → List (Node × Span)
each f [] = []
each f (x ∷ xs) = f x ++ each f xs

statements-pushed : (front : Tree) (xs : List (Statement × Span)) → statements (pushed front xs) ≡ statements front ++ each statements_of_pair xs
statements-pushed front [] = sym (append-nil (statements front))
statements-pushed front (x ∷ xs) =
    statements-pushed (push front (node_of x.0) x.1) xs ∙ append_assoc (statements front) (statements_of_pair x) (each statements_of_pair xs)

pub statements-pairs : (b : Block) → statements (tree_of b) ≡ each statements_of_pair (pairs b)
statements-pairs b = statements-pushed empty (pairs b)

-- the statements of the body of a case
abbrev pub statements_of_body : SwitchCase → List (Node × Span)
statements_of_body x = statements (tree_of x.body)

pub statements_of_cases-bodies : (cases : List SwitchCase) → statements_of_cases (cases_of cases) ≡ each statements_of_body cases
statements_of_cases-bodies [] = refl
statements_of_cases-bodies (x ∷ xs) = ap (λ rest. statements_of_body x ++ rest) (statements_of_cases-bodies xs)

-- ---- what holds of each

module _ (P : Node × Span → Type 0) where
  -- what holds of each statement of a block, of one more statement, and of those inside it
  pub each-pushed : (front : Tree) (last : Node) (span : Span) → All P (statements front) → P (last, span) → All P (statements_inside last) → All P (statements (push front last span))
  each-pushed front last span before here inside =
      All-append P (statements front) ((last, span) ∷ statements_inside last) before (All-cons P (last, span) (statements_inside last) here inside)

  -- the other way round
  pub each-before : (front : Tree) (last : Node) (span : Span) → All P (statements (push front last span)) → All P (statements front)
  each-before front last span h = (All-both P (statements front) ((last, span) ∷ statements_inside last) h).0

  pub each-here : (front : Tree) (last : Node) (span : Span) → All P (statements (push front last span)) → P (last, span)
  each-here front last span h =
      All-head P (last, span) (statements_inside last) (All-both P (statements front) ((last, span) ∷ statements_inside last) h).1

  pub each-inside : (front : Tree) (last : Node) (span : Span) → All P (statements (push front last span)) → All P (statements_inside last)
  each-inside front last span h =
      All-tail P (last, span) (statements_inside last) (All-both P (statements front) ((last, span) ∷ statements_inside last) h).1
