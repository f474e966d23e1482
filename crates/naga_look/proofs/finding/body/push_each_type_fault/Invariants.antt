use Rattle.std.proofs.Common.{take}
use Rattle.naga_typing.specs.Joined.{AddsJoined}
use Rattle.naga_look.specs.Findings.{IsTypeFault, inside_of}
use Rattle.naga_look.proofs.finding.body.push_each_type_fault.Given as goal

-- the faults before the position were appended
abbrev pub invariant-faults : goal.invariant-faults
invariant-faults l = AddsJoined (IsTypeFault (inside_of l.body)) (take l.position l.faults) l.initial.found.items l.found.items
