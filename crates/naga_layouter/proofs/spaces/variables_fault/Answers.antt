use Rattle.std.proofs.Common.{◌≡◌, ◌∙◌, Some, None, ap, sym}
use Rattle.std.specs.List.{slice_get}
use Rattle.naga_arena.specs.Arena.{values}
use Rattle.naga_layouter.specs.Spaces.{fault_in, faults_at}
use Rattle.naga_layouter.specs.declared.spaces.SpaceFaults.{SpaceFaults}
use Rattle.naga_layouter.proofs.FaultLemmas.{variables-more, variables-stop}
use Rattle.naga_layouter.proofs.spaces.variables_fault.Goals as goal

pub returns-in-Some : goal.returns-in-Some
returns-in-Some c =
    let known = c.args.known.now in
    let variable = c.index-variable.result.now in
    let here : slice_get (values c.args.variables.now) c.each.index ≡ Some variable = rw c.at.ensures at c.index-variable.ensures in
    let found : fault_in variable.space (faults_at known variable.ty) ≡ Some c.in-Some.fault =
    ap (λ (faults : SpaceFaults). fault_in variable.space faults) (sym c.faults_at.ensures) ∙ sym c.fault_in.ensures ∙ c.in-Some.is in
    sym (variables-stop known c.args.variables.now c.each.index variable here c.in-Some.fault found) ∙ c.each.invariant

pub each-preserved : goal.each-preserved
each-preserved c =
    let known = c.args.known.now in
    let variable = c.index-variable.result.now in
    let here : slice_get (values c.args.variables.now) c.each.index ≡ Some variable = rw c.at.ensures at c.index-variable.ensures in
    let none : fault_in variable.space (faults_at known variable.ty) ≡ None =
    ap (λ (faults : SpaceFaults). fault_in variable.space faults) (sym c.faults_at.ensures) ∙ sym c.fault_in.ensures ∙ c.in_default.is in
    sym (variables-more known c.args.variables.now c.each.index variable here none) ∙ c.each.invariant
