use Rattle.std.proofs.Common.{◌≤◌, arith, length, subst}
use Rattle.std.proofs.lemmas.List.{take_all}
use Rattle.naga_typing.specs.FunctionFaults.{AddsFaults, AreFaultsOf, of_variable, variable_parts}
use Rattle.naga_typing.specs.Initials.{locals_of}
use Rattle.naga_typing.specs.TypedFunctions.{context_of, signature_of}
use Rattle.naga_typing.proofs.FunctionFaultsLemmas.{parts-at, parts-length}
use Rattle.naga_typing.proofs.JoinedLemmas.{AddsUpTo-next, AddsUpTo-none}
use Rattle.naga_typing.proofs.typed_function.TypedFunction.push_variables.Goals as goal

pub variables-init : goal.variables-init
variables-init c =
    let typed = c.args.self.now in
    AddsUpTo-none (AreFaultsOf (context_of typed) (signature_of typed) typed.known.now) c.args.limit c.args.faults.now.items

pub variables-preserved : goal.variables-preserved
variables-preserved c =
    let typed = c.args.self.now in
    let part = of_variable (context_of typed) (signature_of typed) typed.known.now in
    let slots = locals_of typed.function.now in
    AddsUpTo-next (AreFaultsOf (context_of typed) (signature_of typed) typed.known.now) c.args.limit
    (variable_parts (context_of typed) (signature_of typed) typed.known.now slots) c.variables.position (part (c.variables.position, c.initial-slot.result))
    c.args.faults.now.items c.variables.faults.items c.push_variable.new.faults.items
    (parts-at part c.variables.position slots c.initial-slot.result c.initial-slot.ensures) c.variables.invariant c.in_ok-push_variable.ensures

pub returns : goal.returns
returns c =
    let typed = c.args.self.now in
    let slots = locals_of typed.function.now in
    let all = variable_parts (context_of typed) (signature_of typed) typed.known.now slots in
    let len = parts-length (of_variable (context_of typed) (signature_of typed) typed.known.now) 0 slots in
    let past : length all ≤ c.variables.position = omega (arith, len, c.count_of-position-end.ensures.value, c.variables-test.false) in
    subst (λ parts. AddsFaults typed c.args.limit parts c.args.faults.now.items c.variables.faults.items) (take_all c.variables.position all past) c.variables.invariant
