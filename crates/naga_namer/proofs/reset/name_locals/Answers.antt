use Rattle.std.proofs.Common.{◌≡◌, ◌∙◌, ◌≤◌, ◌∷◌, [], Some, ap, arith, length, subst}
use Rattle.std.specs.List.{slice_get}
use Rattle.std.specs.Prelude.{codes}
use Rattle.naga_namer.specs.Names.{label_or}
use Rattle.naga_arena.specs.Arena.{values}
use Rattle.naga_namer.specs.Namers.{naming}
use Rattle.naga_namer.specs.ModuleNames.{AddsNames}
use Rattle.naga_namer.specs.declared.name_key.NameKey.{NameKey}
use Rattle.naga_namer.specs.Declarations.{local_key}
use Rattle.naga_namer.proofs.AddsNamesLemmas.{adds-more}
use Rattle.naga_namer.proofs.AddsValuesLemmas.{adds-all-values}
use Rattle.naga_ir.specs.declared.module.LocalVariable as local_variable
use Rattle.naga_namer.proofs.reset.name_locals.Goals as goal

pub each-preserved : goal.each-preserved
each-preserved c =
    let variable = c.index.result.now in
    let here : slice_get (values c.args.locals.now) c.each.index ≡ Some variable = rw c.at-handle.ensures at c.index.ensures in
    let P : NameKey → Type 0 = λ k. AddsNames (naming c.each.namer) c.each.entries.items ((k, label_or (codes "local") variable.name) ∷ []) (naming c.add_or.new.namer) c.add_or.new.entries.items in
    let named : P (local_key c.args.owner.now c.each.index) =
    subst P (c.local.ensures ∙ ap (local_key c.args.owner.now) c.at-handle.ensures) c.in_ok-add_or.ensures in
    adds-more (λ i (it : local_variable.LocalVariable). (local_key c.args.owner.now i, label_or (codes "local") it.name) ∷ [])
    (values c.args.locals.now) c.each.index variable (naming c.args.namer.now) (naming c.each.namer) (naming c.add_or.new.namer)
    c.args.entries.now.items c.each.entries.items c.add_or.new.entries.items
    here c.each.invariant named

pub returns : goal.returns
returns c =
    let past : length c.args.locals.now ≤ c.each.index = omega (arith, c.len-index-end.ensures.value, c.each-test.false) in
    adds-all-values (λ i (it : local_variable.LocalVariable). (local_key c.args.owner.now i, label_or (codes "local") it.name) ∷ [])
    c.args.locals.now c.each.index (naming c.args.namer.now) (naming c.each.namer) c.args.entries.now.items c.each.entries.items
    past c.each.invariant
