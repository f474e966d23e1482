use Rattle.std.proofs.Common.{◌≤◌, ◌∙◌, Some, ap, arith, length, sym}
use Rattle.naga_typing.specs.DeclarationFaults.{AreFaultsOf, declarations}
use Rattle.naga_typing.specs.Initials.{initials}
use Rattle.naga_typing.specs.TypedFunctions.{context_of, signature_of}
use Rattle.naga_typing.proofs.DeclarationFaultsLemmas.{declarations-at, declarations-length}
use Rattle.naga_typing.proofs.JoinedLemmas.{AddsJoined-all, AddsJoined-next, AddsJoined-none}
use Rattle.naga_typing.proofs.declarations.push_faults.Goals as goal

pub declarations-init : goal.declarations-init
declarations-init c =
    let typed = c.args.typed.now in
    let slots = initials typed.«module».now typed.function.now c.args.kind in
    AddsJoined-none (AreFaultsOf (context_of typed) (signature_of typed) typed.known.now) (declarations c.args.kind slots) c.args.faults.now.items

pub declarations-preserved : goal.declarations-preserved
declarations-preserved c =
    let typed = c.args.typed.now in
    let slots = initials typed.«module».now typed.function.now c.args.kind in
    let at =
    declarations-at c.args.kind slots c.declarations.position c.initial-slot.result c.initial-slot.ensures
    ∙ ap (λ declared. Some (declared, c.initial-slot.result)) (sym c.declaration_at.ensures) in
    AddsJoined-next (AreFaultsOf (context_of typed) (signature_of typed) typed.known.now) (declarations c.args.kind slots) c.declarations.position
    (c.declaration_at.result, c.initial-slot.result) c.args.faults.now.items c.declarations.faults.items c.push_fault.new.faults.items at
    c.declarations.invariant c.in_ok-push_fault.ensures

pub returns : goal.returns
returns c =
    let typed = c.args.typed.now in
    let slots = initials typed.«module».now typed.function.now c.args.kind in
    let len = declarations-length c.args.kind slots in
    let past : length (declarations c.args.kind slots) ≤ c.declarations.position =
    omega (arith, len, c.count_of-position-end.ensures.value, c.declarations-test.false) in
    AddsJoined-all (AreFaultsOf (context_of typed) (signature_of typed) typed.known.now) (declarations c.args.kind slots) c.declarations.position
    c.args.faults.now.items c.declarations.faults.items past c.declarations.invariant
