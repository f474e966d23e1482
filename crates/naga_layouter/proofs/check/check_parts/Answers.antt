use Rattle.std.proofs.Common.{◌≡◌, ◌∙◌, List, Some, None, ap, sym}
use Rattle.naga_arena.specs.Arena.{values}
use Rattle.naga_layouter.specs.Faults.{types_fault}
use Rattle.naga_layouter.specs.declared.layouter.TypeLayout.{TypeLayout}
use Rattle.naga_layouter.proofs.CheckLemmas.{types-invalid, variables-checked}
use Rattle.naga_layouter.proofs.check.check_parts.Goals as goal

pub returns-in-Some : goal.returns-in-Some
returns-in-Some c =
    let types = c.args.gctx.types.now in
    let found : types_fault types c.in-Ok.layouter 0 (values types) ≡ Some c.in-Some.fault =
    ap (λ (known : List TypeLayout). types_fault types known 0 (values types)) (sym c.as_slice.ensures) ∙ sym c.types_fault.ensures ∙ c.in-Some.is in
    types-invalid c.args.gctx c.args.variables.now c.in-Ok.layouter c.in-Some.fault c.in-Ok.ensures found

pub returns : goal.returns
returns c =
    let types = c.args.gctx.types.now in
    let none : types_fault types c.in-Ok.layouter 0 (values types) ≡ None =
    ap (λ (known : List TypeLayout). types_fault types known 0 (values types)) (sym c.as_slice.ensures) ∙ sym c.types_fault.ensures ∙ c.in_default.is in
    variables-checked c.args.gctx c.args.variables.now c.in-Ok.layouter c.check_variables.result c.in-Ok.ensures none c.check_variables.ensures
