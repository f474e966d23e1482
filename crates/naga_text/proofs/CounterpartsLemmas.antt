-- The statements of the tree of a block, and the blocks in them.
use Rattle.std.proofs.Common.{◌≡◌, ◌∙◌, ◌<◌, ◌≤◌, ℕ, Some, None, ap, refl, sym, List, [], ◌∷◌, ◌++◌, map, length, get_or, append_assoc, append-nil}
use Rattle.std.proofs.lemmas.Option.{slice_get-get_or, slice_get-map, slice_get_past}
use Rattle.std.specs.Prelude.{Option, slice_get}
use Rattle.std.specs.Option.{option_map}
use Rattle.naga_arena.specs.declared.span.Span.{Span}
use Rattle.naga_ir.specs.Block.{pairs, statements}
use Rattle.naga_ir.specs.Tree.{Tree, empty, push}
use Rattle.naga_ir.specs.View.{cases_of, node_of, pushed, tree_of}
use Rattle.naga_ir.specs.declared.block.Block.{Block}
use Rattle.naga_ir.specs.declared.statement.Statement.{Statement}
use Rattle.naga_ir.specs.declared.statement.SwitchCase.{SwitchCase}
use Rattle.naga_text.specs.Counterparts.{bodies_of, nodes}

nodes-pushed : (front : Tree) (xs : List (Statement × Span)) → nodes (pushed front xs) ≡ nodes front ++ map node_of (map (λ pair. pair.0) xs)
nodes-pushed front [] = sym (append-nil (nodes front))
nodes-pushed front (x ∷ xs) =
    nodes-pushed (push front (node_of x.0) x.1) xs
    ∙ append_assoc (nodes front) (node_of x.0 ∷ []) (map node_of (map (λ pair. pair.0) xs))

-- the statement of the tree at a position is that of the block
pub slice_get-nodes : (block : Block) (position : ℕ) → slice_get (nodes (tree_of block)) position ≡ option_map node_of (slice_get (statements block) position)
slice_get-nodes block position =
    ap (λ xs. slice_get xs position) (nodes-pushed empty (pairs block)) ∙ slice_get-map node_of (statements block) position

-- a statement that was found in a block
pub node-found : (block : Block) (position : ℕ) (found : Option Statement) → found ≡ slice_get (statements block) position → slice_get (nodes (tree_of block)) position ≡ option_map node_of found
node-found block position found is = slice_get-nodes block position ∙ ap (option_map node_of) (sym is)

bodies_of-cases : (cases : List SwitchCase) → bodies_of (cases_of cases) ≡ map (λ one. tree_of one.body) cases
bodies_of-cases [] = refl
bodies_of-cases (x ∷ cases) = ap (λ bodies. tree_of x.body ∷ bodies) (bodies_of-cases cases)

-- ---- elements of lists

module _ {X Y : Type 0} (f : X → Y) (xs : List X) (index : ℕ) where
  -- what is made of the element at an index
  pub slice_get-mapped : (found : X) → index < length xs → found ≡ get_or xs index found → Some (f found) ≡ option_map f (slice_get xs index)
  slice_get-mapped found within is =
      sym (ap (option_map f) (slice_get-get_or xs index found within ∙ ap Some (sym is)))

  -- no element is past the end
  pub slice_get-mapped_past : length xs ≤ index → None ≡ option_map f (slice_get xs index)
  slice_get-mapped_past past = sym (ap (option_map f) (slice_get_past xs index past))

-- ---- the bodies of cases

abbrev body_of : SwitchCase → Tree
body_of one = tree_of one.body

bodies-at : (cases : List SwitchCase) (index : ℕ) → option_map body_of (slice_get cases index) ≡ slice_get (bodies_of (cases_of cases)) index
bodies-at cases index =
    sym (ap (λ bodies. slice_get bodies index) (bodies_of-cases cases) ∙ slice_get-map body_of cases index)

-- the body of the case at an index
pub slice_get-bodies : (cases : List SwitchCase) (index : ℕ) (found : SwitchCase) → index < length cases → found ≡ get_or cases index found → Some (tree_of found.body) ≡ slice_get (bodies_of (cases_of cases)) index
slice_get-bodies cases index found within is =
    slice_get-mapped body_of cases index found within is ∙ bodies-at cases index

-- no case is past the end
pub slice_get-bodies_past : (cases : List SwitchCase) (index : ℕ) → length cases ≤ index → None ≡ slice_get (bodies_of (cases_of cases)) index
slice_get-bodies_past cases index past = slice_get-mapped_past body_of cases index past ∙ bodies-at cases index
