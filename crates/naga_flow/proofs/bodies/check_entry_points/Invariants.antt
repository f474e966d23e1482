use Rattle.std.proofs.Common.{take}
use Rattle.std.specs.Prelude.{All}
use Rattle.naga_flow.specs.Bodies.{BodyPasses, functions_of_entries}
use Rattle.naga_flow.proofs.bodies.check_entry_points.Given as goal

-- the entry points before the position pass
abbrev pub invariant-entry_points : goal.invariant-entry_points
invariant-entry_points l = All BodyPasses (take l.position (functions_of_entries l.entry_points))
