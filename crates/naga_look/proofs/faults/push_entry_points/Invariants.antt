use Rattle.std.proofs.Common.{take}
use Rattle.naga_typing.specs.Joined.{AddsJoined}
use Rattle.naga_look.specs.Report.{AreFunctionLines, headed_entry_points, limit_of}
use Rattle.naga_look.proofs.faults.push_entry_points.Given as goal

-- the lines of the entry points before the position were appended
abbrev pub invariant-entry_points : goal.invariant-entry_points
invariant-entry_points l =
    AddsJoined (AreFunctionLines l.module (limit_of l.extent)) (take l.position (headed_entry_points l.entry_points)) l.initial.text l.text
