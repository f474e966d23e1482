use Rattle.std.proofs.Common.{ℕ, ◌≤◌}
use Rattle.naga_arena.specs.Location.{BeginsLine}
use Rattle.naga_arena.proofs.span.line_start.Given as goal

-- no line begins after `start` and at or before the offset
abbrev pub invariant-back : goal.invariant-back
invariant-back l = record {
  within : l.start ≤ l.offset;
  greatest : (i : ℕ) → BeginsLine l.text i → i ≤ l.offset → i ≤ l.start;
}

abbrev pub decreases-back : goal.decreases-back
decreases-back l = l.start
