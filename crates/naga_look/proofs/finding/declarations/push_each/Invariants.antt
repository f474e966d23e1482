use Rattle.std.proofs.Common.{take}
use Rattle.naga_typing.specs.Joined.{AddsJoined}
use Rattle.naga_look.specs.Findings.{IsDeclarationFault}
use Rattle.naga_look.proofs.finding.declarations.push_each.Given as goal

-- the faults before the position were appended
abbrev pub invariant-faults : goal.invariant-faults
invariant-faults l = AddsJoined IsDeclarationFault (take l.position l.faults) l.initial.found.items l.found.items
