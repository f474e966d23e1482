use Rattle.std.proofs.Common.{take}
use Rattle.naga_typing.specs.Joined.{AddsJoined}
use Rattle.naga_look.specs.Report.{IsTypeLine}
use Rattle.naga_look.proofs.faults.push_type_lines.Given as goal

-- the lines of the faults before the position were appended
abbrev pub invariant-faults : goal.invariant-faults
invariant-faults l =
    AddsJoined (IsTypeLine (record { head = l.head; whole = l.function })) (take l.position l.faults) l.initial.text l.text
