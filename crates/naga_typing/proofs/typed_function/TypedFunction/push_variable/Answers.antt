use Rattle.std.proofs.Common.{◌≡◌, Some, subst}
use Rattle.naga_typing.specs.FunctionFaults.{of_variable}
use Rattle.std.specs.Prelude.{MatchOption}
use Rattle.naga_typing.specs.TypedFunctions.{FitsIn, context_of, signature_of}
use Rattle.naga_typing.specs.declared.initial.Initialized.TheVariants as initial
use Rattle.naga_typing.specs.declared.invalid_types.TypeFault.TheVariants as fault
use Rattle.naga_typing.specs.declared.invalid_types.ValueFault.TheVariants as value_fault
use Rattle.naga_typing.proofs.ChecksLemmas.{one-met, one-unmet}
use Rattle.naga_typing.proofs.FunctionFaultsLemmas.{AddsUpTo-passes, AddsUpTo-pushed, unmet-is}
use Rattle.naga_typing.proofs.typed_function.TypedFunction.push_variable.Goals as goal

pub returns-in_default : goal.returns-in_default
returns-in_default c =
    let typed = c.args.self.now in
    let part = of_variable (context_of typed) (signature_of typed) typed.known.now (c.args.position, c.args.slot.now) in
    AddsUpTo-passes (context_of typed) (signature_of typed) typed.known.now c.args.limit part c.args.faults.now.items
    (one-met (FitsIn typed) c.args.slot.now c.in_default.ensures)

pub returns : goal.returns
returns c =
    let typed = c.args.self.now in
    let slot = c.args.slot.now in
    let part = of_variable (context_of typed) (signature_of typed) typed.known.now (c.args.position, slot) in
    let misses =
    subst (λ found. MatchOption found (FitsIn typed slot) (λ unmet. (slot ≡ Some unmet) × ¬ FitsIn typed slot)) c.in-Some.is c.unmet.ensures
    in
    let first = one-unmet (FitsIn typed) slot c.in-Some.requirement misses.0 misses.1 in
    let is = unmet-is (context_of typed) (signature_of typed) typed.known.now c.unmet-unmet.result c.in-Some.requirement
    c.unmet-unmet.ensures.required c.unmet-unmet.ensures.found in
    AddsUpTo-pushed (context_of typed) (signature_of typed) typed.known.now c.args.limit c.push.result part c.in-Some.requirement
    (fault.Value (value_fault.Initial (initial.LocalVariable c.at.result) c.unmet-unmet.result)) c.args.faults.now.items c.push.new.faults.items
    first (λ i. fault.Value (value_fault.Initial (initial.LocalVariable (c.at.ensures i)) (is i))) c.push.ensures
