-- The tree of a list of statements: appending a statement, its last statement, and replacing a statement.
use Rattle.std.proofs.Common.{◌≡◌, refl, ℕ, suc, zero, add-one, ◌<◌, List, [], ◌∷◌, ◌++◌, length, get_or, take, drop, arith}
use Rattle.std.proofs.Math.ListN.{set}
use Rattle.std.specs.Prelude.{slice_index_or}
use Rattle.naga_arena.specs.Span.{undefined}
use Rattle.naga_arena.specs.declared.span.Span.{Span}
use Rattle.naga_ir.specs.declared.block.Block.{Block}
use Rattle.naga_ir.specs.declared.statement.Statement.{Statement}
use Rattle.naga_ir.specs.Block.{pairs, spans}
use Rattle.naga_ir.specs.Lends.{with_statement}
use Rattle.naga_ir.specs.Tree.{Tree, empty, push}
use Rattle.naga_ir.specs.View.{node_of, pushed, tree, tree_of, tree_with}

pub pushed-append : (front : Tree) (xs ys : List (Statement × Span)) → pushed front (xs ++ ys) ≡ pushed (pushed front xs) ys
pushed-append front [] ys = refl
pushed-append front (x ∷ xs) ys = pushed-append (push front (node_of x.0) x.1) xs ys

-- appending a statement to the list is one `push` onto its tree
pub tree-push : (xs : List (Statement × Span)) (statement : Statement) (span : Span) → tree (xs ++ (statement, span) ∷ []) ≡ push (tree xs) (node_of statement) span
tree-push xs statement span = pushed-append empty xs ((statement, span) ∷ [])

-- the tree of the list, split at the position `i`
pub pushed-split : (front : Tree) (xs : List (Statement × Span)) (i : ℕ) (d : Statement × Span) → i < length xs → pushed front xs ≡ pushed (push (pushed front (take i xs)) (node_of (get_or xs i d).0) (get_or xs i d).1) (drop (suc i) xs)
pushed-split front [] i d h = absurd (omega arith)
pushed-split front (x ∷ xs) zero d h = refl
pushed-split front (x ∷ xs) (suc i) d h = pushed-split (push front (node_of x.0) x.1) xs i d (omega arith)

-- the tree of the list with the pair `y` at the position `i`
pub pushed-set : (front : Tree) (xs : List (Statement × Span)) (i : ℕ) (y : Statement × Span) → i < length xs → pushed front (set xs i y) ≡ pushed (push (pushed front (take i xs)) (node_of y.0) y.1) (drop (suc i) xs)
pushed-set front [] i y h = absurd (omega arith)
pushed-set front (x ∷ xs) zero y h = refl
pushed-set front (x ∷ xs) (suc i) y h = pushed-set (push front (node_of x.0) x.1) xs i y (omega arith)

-- the tree is that of the pairs before the last one with the last pair pushed; likewise if `y` replaces the last pair
-- and `zs` follows it
pub record LastOf (front : Tree) (xs : List (Statement × Span)) (n : ℕ) (d y : Statement × Span) (zs : List (Statement × Span)) : Type 0 where
  pub before : Tree
  pub whole : pushed front xs ≡ push before (node_of (get_or xs n d).0) (get_or xs n d).1
  pub written : pushed front (set xs n y ++ zs) ≡ pushed (push before (node_of y.0) y.1) zs

pub pushed-last : (front : Tree) (xs : List (Statement × Span)) (n : ℕ) (d y : Statement × Span) (zs : List (Statement × Span)) → length xs ≡ suc n → LastOf front xs n d y zs
pushed-last front [] n d y zs l = absurd (omega arith)
pushed-last front (x ∷ []) zero d y zs l = record { before = front; whole = refl; written = refl }
pushed-last front (x ∷ []) (suc n) d y zs l = absurd (omega arith)
pushed-last front (x ∷ x' ∷ xs) zero d y zs l = absurd (omega arith)
pushed-last front (x ∷ x' ∷ xs) (suc n) d y zs l =
    let rest = pushed-last (push front (node_of x.0) x.1) (x' ∷ xs) n d y zs (omega arith) in
    record { before = rest.before; whole = rest.whole; written = rest.written }

pub tree_of-with_statement : (b : Block) (i : ℕ) (s : Statement) → i < length (pairs b) → tree_of (with_statement b i s) ≡ tree_with b i s
tree_of-with_statement b i s h =
    rw add-one (pushed-set empty (pairs b) i (s, slice_index_or (spans b) i undefined) h)
