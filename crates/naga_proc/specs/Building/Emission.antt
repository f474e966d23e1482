-- The statement that an emitter returns when it is finished.
use Rattle.std.specs.Prelude.{ℕ, Bool, not, ◌==◌, List, Option, Some, None, slice_range, if◌then◌else◌}
use Rattle.naga_arena.specs.Arena.{spans}
use Rattle.naga_arena.specs.Span.{total}
use Rattle.naga_arena.specs.declared.span.Span.{Span}
use Rattle.naga_ir.specs.declared.expression.Expression.{Expression}
use Rattle.naga_ir.specs.declared.statement.Statement.{Statement}
use Rattle.naga_ir.specs.declared.statement.Statement.TheVariants.{Emit}

-- the two bounds differ, so the range contains a handle if its bounds are in order
abbrev pub is_filled : ℕ × ℕ → Bool
is_filled range = not (range.0 == range.1)

-- the statement that emits the expressions of this range of an arena, with the total of their spans, or `None` if the
-- range is empty
abbrev pub emission : List (Expression × Span) → ℕ × ℕ → Option (Statement × Span)
emission arena range =
    if is_filled range then Some (Emit range, total (slice_range (spans arena) range.0 range.1)) else None
