-- A statement is smaller than the block that contains it.
use Rattle.std.proofs.Common.{◌≡◌, ◌∙◌, sym, ℕ, ◌<◌, ◌≤◌, length, get_or, Some, arith, subst}
use Rattle.std.proofs.lemmas.List.{length-map, get_or-map}
use Rattle.std.proofs.lemmas.Option.{get_or_from_slice_get, slice_get_within}
use Rattle.std.specs.Prelude.{slice_get}
use denote.Param.Weighed.{at_most}
use Rattle.naga_arena.specs.Span.{undefined}
use Rattle.naga_arena.specs.declared.span.Span.{Span}
use Rattle.naga_ir.specs.declared.block.Block.{Block, size-Block, size_is-Block}
use Rattle.naga_ir.specs.declared.statement.Statement.{Statement, size-Statement}
use Rattle.naga_ir.specs.declared.statement.Statement as variant
use Rattle.naga_ir.specs.declared.statement.Statement.TheViews.{weight-Block-entries}
use Rattle.naga_ir.specs.Block.{pairs, statements}

-- the size of a statement is less than the size of the block that contains it
pub size-Statement-lt : (b : Block) (i : ℕ) (d : Statement × Span) → i < length (pairs b) → size-Statement (get_or (pairs b) i d).0 < size-Block b
size-Statement-lt b i d h =
    let below : size-Statement (get_or (pairs b) i d).0 ≤ weight-Block-entries b.entries =
    omega (arith, at_most ((variant.TheShapes.weighed-Block-entries-at-2).weight Statement size-Statement) b.entries.items i d h)
    in
    omega (arith, size_is-Block b)

-- the size of a statement that `get` returns is less than the size of the block
pub size-statement_at : (b : Block) (i : ℕ) (s : Statement) → slice_get (statements b) i ≡ Some s → size-Statement s < size-Block b
size-statement_at b i s h =
    let inside : i < length (pairs b) = rw (length-map (pairs b) (λ pair. pair.0)) at (slice_get_within (statements b) i s h) in
    let d : Statement × Span = (s, undefined) in
    let same : (get_or (pairs b) i d).0 ≡ s = sym (get_or-map (λ pair. pair.0) (pairs b) i d s inside) ∙ get_or_from_slice_get (statements b) i s s h in
    subst (λ t. size-Statement t < size-Block b) same (size-Statement-lt b i d inside)
