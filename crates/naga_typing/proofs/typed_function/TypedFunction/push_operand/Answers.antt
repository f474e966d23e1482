use Rattle.std.proofs.Common.{ap}
use Rattle.naga_typing.specs.FunctionFaults.{of_expression}
use Rattle.naga_typing.specs.TypedFunctions.{context_of, signature_of}
use Rattle.naga_typing.specs.declared.invalid_types.TypeFault.TheVariants as fault
use Rattle.naga_typing.specs.declared.invalid_types.ValueFault.TheVariants as value_fault
use Rattle.naga_typing.proofs.FunctionFaultsLemmas.{AddsUpTo-passes, AddsUpTo-pushed, unmet-is}
use Rattle.naga_typing.proofs.typed_function.TypedFunction.push_operand.Goals as goal

pub returns-in_default : goal.returns-in_default
returns-in_default c =
    let typed = c.args.self.now in
    let part = of_expression (context_of typed) (signature_of typed) typed.known.now (c.args.handle, c.args.expression.now) in
    AddsUpTo-passes (context_of typed) (signature_of typed) typed.known.now c.args.limit part c.args.faults.now.items c.in_default.ensures

pub returns : goal.returns
returns c =
    let typed = c.args.self.now in
    let part = of_expression (context_of typed) (signature_of typed) typed.known.now (c.args.handle, c.args.expression.now) in
    let is = unmet-is (context_of typed) (signature_of typed) typed.known.now c.unmet-unmet.result c.in-Err.requirement
    c.unmet-unmet.ensures.required c.unmet-unmet.ensures.found in
    AddsUpTo-pushed (context_of typed) (signature_of typed) typed.known.now c.args.limit c.push.result part c.in-Err.requirement
    (fault.Value (value_fault.Operand c.args.handle c.unmet-unmet.result)) c.args.faults.now.items c.push.new.faults.items
    c.in-Err.ensures (ap (λ unmet. fault.Value (value_fault.Operand c.args.handle unmet)) is) c.push.ensures
