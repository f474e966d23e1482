use Rattle.std.proofs.Common.{take}
use Rattle.naga_typing.specs.DeclarationFaults.{AddsInitialFaults, declarations}
use Rattle.naga_typing.specs.Initials.{initials}
use Rattle.naga_typing.specs.TypedFunctions.{context_of, signature_of}
use Rattle.naga_typing.proofs.declarations.push_faults.Given as goal

-- the faults of the declarations before the position were appended
abbrev pub invariant-declarations : goal.invariant-declarations
invariant-declarations l =
    AddsInitialFaults (context_of l.typed) (signature_of l.typed) l.typed.known.now
    (take l.position (declarations l.kind (initials l.typed.«module».now l.typed.function.now l.kind))) l.initial.faults.items l.faults.items
