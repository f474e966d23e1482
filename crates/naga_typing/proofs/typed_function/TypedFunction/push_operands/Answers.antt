use Rattle.std.proofs.Common.{◌≡◌, ◌∙◌, ◌∷◌, [], Some, ap, arith, subst, sym, take}
use Rattle.std.specs.Prelude.{slice_get}
use Rattle.naga_arena.specs.Arena.{values}
use Rattle.naga_typing.specs.FunctionFaults.{AddsFaults, AreFaultsOf, expression_parts, of_expression}
use Rattle.naga_typing.specs.TypedFunctions.{context_of, signature_of}
use Rattle.naga_typing.proofs.FunctionFaultsLemmas.{parts-at}
use Rattle.naga_typing.proofs.JoinedLemmas.{AddsUpTo-next, AddsUpTo-none}
use Rattle.naga_typing.proofs.typed_function.TypedFunction.push_operands.Goals as goal

pub expressions-init : goal.expressions-init
expressions-init c =
    let typed = c.args.self.now in
    AddsUpTo-none (AreFaultsOf (context_of typed) (signature_of typed) typed.known.now) c.args.limit c.args.faults.now.items

pub expressions-preserved : goal.expressions-preserved
expressions-preserved c =
    let typed = c.args.self.now in
    let part = of_expression (context_of typed) (signature_of typed) typed.known.now in
    let all = values typed.function.now.expressions in
    let at : slice_get all c.expressions.index ≡ Some c.index.result.now = ap (slice_get all) (sym c.at-handle.ensures) ∙ c.index.ensures in
    AddsUpTo-next (AreFaultsOf (context_of typed) (signature_of typed) typed.known.now) c.args.limit
    (expression_parts (context_of typed) (signature_of typed) typed.known.now all) c.expressions.index (part (c.expressions.index, c.index.result.now))
    c.args.faults.now.items c.expressions.faults.items c.push_operand.new.faults.items (parts-at part c.expressions.index all c.index.result.now at)
    c.expressions.invariant
    (subst (λ i. AddsFaults typed c.args.limit (part (i, c.index.result.now) ∷ []) c.expressions.faults.items c.push_operand.new.faults.items) c.at-handle.ensures c.in_ok-push_operand.ensures)

pub returns : goal.returns
returns c =
    let typed = c.args.self.now in
    let same : c.expressions.index ≡ c.args.count = omega (arith, c.expressions-test.false, c.expressions.auto.index-end) in
    subst (λ i. AddsFaults typed c.args.limit
    (take i (expression_parts (context_of typed) (signature_of typed) typed.known.now (values typed.function.now.expressions)))
    c.args.faults.now.items c.expressions.faults.items) same c.expressions.invariant
