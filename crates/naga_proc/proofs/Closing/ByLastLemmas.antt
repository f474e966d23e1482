-- A block by its last statement.
use Rattle.std.proofs.Common.{◌≡◌, ◌∙◌, sym, ℕ, suc, ◌-◌, ◌<◌, List, ◌++◌, length, get_or, Some, arith}
use Rattle.std.proofs.lemmas.List.{get_or-map, length-map}
use Rattle.std.proofs.lemmas.Option.{get_or_from_slice_get, slice_get_within}
use Rattle.std.specs.Prelude.{slice_get, slice_index_or}
use Rattle.naga_arena.specs.Span.{undefined}
use Rattle.naga_arena.specs.declared.span.Span.{Span}
use Rattle.naga_ir.proofs.PushedLemmas.{pushed-last}
use Rattle.naga_ir.specs.Block.{pairs, spans, statements}
use Rattle.naga_ir.specs.Lends.{with_statement}
use Rattle.naga_ir.specs.Tree.{Tree, empty, push}
use Rattle.naga_ir.specs.View.{node_of, pushed, tree_of}
use Rattle.naga_ir.specs.declared.block.Block.{Block}
use Rattle.naga_ir.specs.declared.statement.Statement.{Statement}

-- a block by its last statement, and the block with another statement in place of that one and `more` after it
pub record ByLast (b : Block) (i : ℕ) (old new : Statement) (more : List (Statement × Span)) : Type 0 where
  pub before : Tree
  pub span : Span
  pub whole : tree_of b ≡ push before (node_of old) span
  pub written : pushed empty (pairs (with_statement b i new) ++ more) ≡ pushed (push before (node_of new) span) more

pub by_last : (b : Block) (i : ℕ) (old new : Statement) (more : List (Statement × Span)) → length (pairs b) ≡ suc i → slice_get (statements b) i ≡ Some old → ByLast b i old new more
by_last b i old new more l found =
    let inside : i < length (pairs b) = omega (arith, l) in
    let pair : Statement × Span = (old, undefined) in
    let span : Span = slice_index_or (spans b) i undefined in
    let same : (get_or (pairs b) i pair).0 ≡ old =
    sym (get_or-map (λ (p : Statement × Span). p.0) (pairs b) i pair old inside) ∙ get_or_from_slice_get (statements b) i old old found
    in
    let beside : span ≡ (get_or (pairs b) i pair).1 = get_or-map (λ (p : Statement × Span). p.1) (pairs b) i pair undefined inside in
    let last = pushed-last empty (pairs b) i pair (new, span) more l in
    record {
      before = last.before;
      span = span;
      whole = last.whole ∙ (λ j. push last.before (node_of (same j)) (sym beside j));
      written = last.written;
    }

-- the length of a block that has a last statement
pub length-by_last : (b : Block) (last : Statement) → slice_get (statements b) (length (pairs b) - 1) ≡ Some last → length (pairs b) ≡ suc (length (pairs b) - 1)
length-by_last b last found =
    let same : length (statements b) ≡ length (pairs b) = length-map (pairs b) (λ pair. pair.0) in
    let within : length (pairs b) - 1 < length (statements b) = slice_get_within (statements b) (length (pairs b) - 1) last found in
    omega (arith, same, within)
