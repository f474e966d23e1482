use Rattle.std.proofs.Common.{◌≡◌, ◌∙◌, ℕ, Some, None, ap, sym}
use Rattle.std.specs.List.{slice_get}
use Rattle.naga_arena.specs.Arena.{values}
use Rattle.naga_layouter.specs.Faults.{type_fault}
use Rattle.naga_layouter.proofs.FaultLemmas.{types_fault-more, types_fault-stop}
use Rattle.naga_layouter.proofs.faults.types_fault.Goals as goal

pub returns-in-Some : goal.returns-in-Some
returns-in-Some c =
    let types = c.args.types.now in
    let known = c.args.known.now in
    let type = c.index.result.now in
    let here : slice_get (values types) c.each.index ≡ Some type = rw c.at-ty.ensures at c.index.ensures in
    let found : type_fault types known c.each.index type.inner ≡ Some c.in-Some.fault =
    ap (λ (k : ℕ). type_fault types known k type.inner) (sym c.at-ty.ensures) ∙ sym c.type_fault.ensures ∙ c.in-Some.is in
    sym (types_fault-stop types known c.each.index type here c.in-Some.fault found) ∙ c.each.invariant

pub each-preserved : goal.each-preserved
each-preserved c =
    let types = c.args.types.now in
    let known = c.args.known.now in
    let type = c.index.result.now in
    let here : slice_get (values types) c.each.index ≡ Some type = rw c.at-ty.ensures at c.index.ensures in
    let none : type_fault types known c.each.index type.inner ≡ None =
    ap (λ (k : ℕ). type_fault types known k type.inner) (sym c.at-ty.ensures) ∙ sym c.type_fault.ensures ∙ c.in_default.is in
    sym (types_fault-more types known c.each.index type here none) ∙ c.each.invariant
