use Rattle.std.proofs.Common.{◌≤◌, length}
use Rattle.naga_compact.proofs.IsReachedLemmas.{MarkedTo}
use Rattle.naga_compact.proofs.mark.mark_reached.Given as goal

-- what the marked expressions from i on refer to is marked
abbrev pub invariant-down : goal.invariant-down
invariant-down l = record {
  within : l.i ≤ length l.expressions;
  marked : MarkedTo l.expressions l.fn.marks l.marks l.i;
}

abbrev pub decreases-down : goal.decreases-down
decreases-down l = l.i
