use Rattle.std.proofs.Common.{take}
use Rattle.std.specs.Prelude.{All}
use Rattle.naga_flow.specs.Bodies.{functions_of_entries}
use Rattle.naga_bounds.specs.Modules.{AccessesFitIn}
use Rattle.naga_bounds.proofs.check.check_entry_points.Given as goal

-- the accesses of the entry points before the position fit
abbrev pub invariant-entry_points : goal.invariant-entry_points
invariant-entry_points l = All (AccessesFitIn l.«module») (take l.position (functions_of_entries l.«module».entry_points.items))
