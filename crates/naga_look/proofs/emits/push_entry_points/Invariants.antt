use Rattle.std.proofs.Common.{take}
use Rattle.naga_typing.specs.Joined.{AddsJoined}
use Rattle.naga_look.specs.Report.{IsEmitLine, headed_entry_points}
use Rattle.naga_look.proofs.emits.push_entry_points.Given as goal

-- the lines of the entry points before the position were appended
abbrev pub invariant-entry_points : goal.invariant-entry_points
invariant-entry_points l =
    AddsJoined IsEmitLine (take l.position (headed_entry_points l.entry_points)) l.initial.text l.text
