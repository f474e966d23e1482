use Rattle.std.proofs.Common.{◌≡◌}
use Rattle.indexmap.specs.IndexMap.{keys}
use Rattle.naga_compact.specs.Marks.{puts}
use Rattle.naga_compact.proofs.function.mark_names.Given as goal

-- the names that are left are still to be marked
abbrev pub invariant-loop-handle : goal.invariant-loop-handle
invariant-loop-handle l = puts l.marks l.handle-iterator ≡ puts l.initial.marks (keys l.names)
