use Rattle.std.proofs.Common.{ℕ, ◌<◌}
use Rattle.naga_valid.specs.Faults.{IsEntryPointWithin}
use Rattle.naga_valid.proofs.handles.function.check_entry_points.Given as goal

-- the entry points that were passed contain only handles within their limits
abbrev pub invariant-loop-position : goal.invariant-loop-position
invariant-loop-position l = (k : ℕ) → k < l.position → IsEntryPointWithin l.module k
