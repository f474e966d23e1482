use Rattle.std.proofs.Common.{◌≡◌, [], ◌∷◌, subst}
use Rattle.naga_arena.specs.Arena.{values}
use Rattle.naga_typing.specs.DeclarationFaults.{AreFaultsOfDeclarations, AreInitialFaults, declarations_of}
use Rattle.naga_typing.specs.Faults.{IsStop}
use Rattle.naga_typing.specs.TypedFunctions.{context_of, signature_of}
use Rattle.naga_typing.proofs.DeclarationFaultsLemmas.{AreFaultsOfDeclarations-expression, AreFaultsOfDeclarations-initial, IfOk-implies}
use Rattle.naga_typing.proofs.declarations.faults_of_global_values.Goals as goal

pub returns-in-Ok : goal.returns-in-Ok
returns-in-Ok c =
    let typed = c.args.typed.now in
    IfOk-implies (λ faults. AreInitialFaults (context_of typed) (signature_of typed) typed.known.now (declarations_of typed.«module».now) faults.items)
    (λ faults. AreFaultsOfDeclarations typed.«module».now faults.items) c.faults_of_initials.result
    (λ faults. AreFaultsOfDeclarations-initial typed c.requires.empty c.in-Ok.ensures.0 c.in-Ok.ensures.1 faults.items)
    c.faults_of_initials.ensures

pub returns-in-Err-Fault : goal.returns-in-Err-Fault
returns-in-Err-Fault c =
    let typed = c.args.typed.now in
    let found = c.in-Err-Fault.fault in
    let is = subst (IsStop (context_of typed) (signature_of typed) (values typed.«module».now.global_expressions)) c.in-Err-Fault.field-0-is c.in-Err-Fault.ensures in
    IfOk-implies (λ faults. faults.items ≡ found ∷ []) (λ faults. AreFaultsOfDeclarations typed.«module».now faults.items) c.only.result
    (λ faults. AreFaultsOfDeclarations-expression typed c.requires.empty found faults.items is)
    c.only.ensures
