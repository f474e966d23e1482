-- A block after the `&mut` borrow of one of its statements or spans ends.
use Rattle.std.specs.Prelude.{ℕ, Option, slice_index_or}
use Rattle.std.specs.Borrow.{LendsIf, MutBor, Fml}
use Rattle.std.specs.Vec.{with_item}
use Rattle.naga_arena.specs.Span.{undefined}
use Rattle.naga_arena.specs.declared.span.Span.{Span}
use Rattle.naga_arena.specs.contracts.span.Span.{the_row as span_row}
use Rattle.naga_ir.specs.Block.{statements, spans}
use Rattle.naga_ir.specs.declared.block.Block.{Block}
use Rattle.naga_ir.specs.declared.statement.Statement.{Statement}
use Rattle.naga_ir.specs.declared.statement.Statement.TheVariants.{Kill}
use Rattle.naga_ir.specs.contracts.block.Block.{the_row as block_row}
use Rattle.naga_ir.specs.contracts.statement.Statement.{the_row as statement_row}

-- the block with another statement at a position; the span there and the spare capacity are unchanged. There is no
-- borrow past the last position, so the default values here and in `with_span` are never used.
abbrev pub with_statement : Block → ℕ → Statement → Block
with_statement block position statement =
    record { entries = with_item block.entries position (statement, slice_index_or (spans block) position undefined) }

-- the block with another span at a position; the statement there and the spare capacity are unchanged
abbrev pub with_span : Block → ℕ → Span → Block
with_span block position span =
    record { entries = with_item block.entries position (slice_index_or (statements block) position Kill, span) }

-- once the borrow `lent` ends, the block has the last value written through it as the statement at this position;
-- without a borrow, the block is unchanged
abbrev pub LendsStatement : MutBor Block → ℕ → Option (MutBor Statement) → Fml
LendsStatement block position lent =
    LendsIf block_row statement_row block lent (with_statement block.now position) block.now

-- once the borrow `lent` ends, the block has the last value written through it as the span at this position; without a
-- borrow, the block is unchanged
abbrev pub LendsSpan : MutBor Block → ℕ → Option (MutBor Span) → Fml
LendsSpan block position lent =
    LendsIf block_row span_row block lent (with_span block.now position) block.now
