use Rattle.std.proofs.Common.{take}
use Rattle.std.specs.Prelude.{All}
use Rattle.naga_flow.specs.Bodies.{functions_of_entries}
use Rattle.naga_typing.specs.TypedModules.{FunctionIsTyped}
use Rattle.naga_typing.proofs.check.check_entry_points.Given as goal

-- the entry points before the position are typed
abbrev pub invariant-entry_points : goal.invariant-entry_points
invariant-entry_points l = All (FunctionIsTyped l.«module») (take l.position (functions_of_entries l.«module».entry_points.items))
