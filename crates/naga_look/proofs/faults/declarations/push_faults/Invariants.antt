use Rattle.std.proofs.Common.{take}
use Rattle.naga_typing.specs.Joined.{AddsJoined}
use Rattle.naga_look.specs.DeclarationLines.{IsDeclarationLine}
use Rattle.naga_look.proofs.faults.declarations.push_faults.Given as goal

-- the lines of the faults before the position were appended
abbrev pub invariant-faults : goal.invariant-faults
invariant-faults l = AddsJoined IsDeclarationLine (take l.position l.faults) l.initial.text l.text
