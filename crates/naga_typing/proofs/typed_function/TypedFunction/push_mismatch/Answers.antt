use Rattle.std.proofs.Common.{ap}
use Rattle.naga_ir.specs.View.{node_of}
use Rattle.naga_typing.specs.FunctionFaults.{of_statement}
use Rattle.naga_typing.specs.TypedFunctions.{context_of, signature_of}
use Rattle.naga_typing.specs.declared.invalid_types.TypeFault.TheVariants as fault
use Rattle.naga_typing.specs.declared.mismatch.TypeMismatch.{TypeMismatch}
use Rattle.naga_typing.proofs.FunctionFaultsLemmas.{AddsUpTo-passes, AddsUpTo-pushed}
use Rattle.naga_typing.proofs.typed_function.TypedFunction.push_mismatch.Goals as goal

pub returns-in_default : goal.returns-in_default
returns-in_default c =
    let typed = c.args.self.now in
    let part = of_statement (context_of typed) (signature_of typed) typed.known.now (c.args.number, (node_of c.args.statement.now, c.args.span)) in
    AddsUpTo-passes (context_of typed) (signature_of typed) typed.known.now c.args.limit part c.args.faults.now.items c.in_default.ensures

pub returns : goal.returns
returns c =
    let typed = c.args.self.now in
    let part = of_statement (context_of typed) (signature_of typed) typed.known.now (c.args.number, (node_of c.args.statement.now, c.args.span)) in
    let mismatch : TypeMismatch = record { statement = c.args.number; span = c.args.span; requirement = c.in-Err.requirement } in
    AddsUpTo-pushed (context_of typed) (signature_of typed) typed.known.now c.args.limit c.push.result part c.in-Err.requirement
    (fault.Mismatch mismatch c.found-found.result) c.args.faults.now.items c.push.new.faults.items
    c.in-Err.ensures (ap (fault.Mismatch mismatch) c.found-found.ensures) c.push.ensures
