use Rattle.std.proofs.Common.{◌≡◌, ◌≤◌, ◌∷◌, [], Some, ap, arith, length, subst}
use Rattle.std.specs.List.{slice_get}
use Rattle.std.specs.Prelude.{codes}
use Rattle.naga_namer.specs.Names.{label_or}
use Rattle.naga_arena.specs.Arena.{values}
use Rattle.naga_namer.specs.Namers.{naming}
use Rattle.naga_namer.specs.ModuleNames.{AddsNames}
use Rattle.naga_namer.specs.declared.name_key.NameKey.{NameKey}
use Rattle.naga_namer.specs.declared.name_key.NameKey.TheVariants as key
use Rattle.naga_namer.proofs.AddsNamesLemmas.{adds-more}
use Rattle.naga_namer.proofs.AddsValuesLemmas.{adds-all-values}
use Rattle.naga_ir.specs.declared.module.GlobalVariable as global_variable
use Rattle.naga_namer.proofs.reset.name_globals.Goals as goal

pub each-preserved : goal.each-preserved
each-preserved c =
    let global = c.index-global.result.now in
    let here : slice_get (values c.args.globals.now) c.each.index ≡ Some global = rw c.at-handle.ensures at c.index-global.ensures in
    let P : NameKey → Type 0 = λ k. AddsNames (naming c.each.namer) c.each.entries.items ((k, label_or (codes "global") global.name) ∷ []) (naming c.add_or.new.namer) c.add_or.new.entries.items in
    let named : P (key.GlobalVariable c.each.index) = subst P (ap key.GlobalVariable c.at-handle.ensures) c.in_ok-add_or.ensures in
    adds-more (λ i (it : global_variable.GlobalVariable). (key.GlobalVariable i, label_or (codes "global") it.name) ∷ [])
    (values c.args.globals.now) c.each.index global (naming c.args.namer.now) (naming c.each.namer) (naming c.add_or.new.namer)
    c.args.entries.now.items c.each.entries.items c.add_or.new.entries.items
    here c.each.invariant named

pub returns : goal.returns
returns c =
    let past : length c.args.globals.now ≤ c.each.index = omega (arith, c.len-index-end.ensures.value, c.each-test.false) in
    adds-all-values (λ i (it : global_variable.GlobalVariable). (key.GlobalVariable i, label_or (codes "global") it.name) ∷ [])
    c.args.globals.now c.each.index (naming c.args.namer.now) (naming c.each.namer) c.args.entries.now.items c.each.entries.items
    past c.each.invariant
