use Rattle.std.proofs.Common.{take}
use Rattle.naga_typing.specs.Joined.{AddsJoined}
use Rattle.naga_look.specs.Findings.{AreFindingsInside, inside_entry_points}
use Rattle.naga_look.proofs.finding.list.push_entry_points.Given as goal

-- the findings in the entry points before the position were appended
abbrev pub invariant-entry_points : goal.invariant-entry_points
invariant-entry_points l =
    AddsJoined (AreFindingsInside l.module l.limit) (take l.position (inside_entry_points l.entry_points)) l.initial.found.items l.found.items
