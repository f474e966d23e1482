use Rattle.std.proofs.Common.{◌≡◌, ◌≤◌, ◌∷◌, [], ◌++◌, ℕ, List, Some, ap, arith, length, subst}
use Rattle.std.specs.List.{slice_get}
use Rattle.std.specs.Prelude.{codes}
use Rattle.naga_namer.specs.Names.{label_or}
use Rattle.naga_arena.specs.Arena.{values}
use Rattle.naga_namer.specs.Namers.{naming}
use Rattle.naga_namer.specs.ModuleNames.{AddsNames}
use Rattle.naga_namer.specs.declared.name_key.NameKey.{NameKey}
use Rattle.naga_namer.specs.declared.name_key.NameKey.TheVariants as key
use Rattle.naga_namer.specs.Declarations.{name_of_type}
use Rattle.naga_namer.proofs.AddsNamesLemmas.{adds-more}
use Rattle.naga_namer.proofs.AddsValuesLemmas.{adds-all-values}
use Rattle.naga_ir.specs.declared.module.Override as override
use Rattle.naga_namer.proofs.reset.name_overrides.Goals as goal

pub each-preserved : goal.each-preserved
each-preserved c =
    let value = c.index-value.result.now in
    let here : slice_get (values c.args.overrides.now) c.each.index ≡ Some value = rw c.at-handle.ensures at c.index-value.ensures in
    let P : NameKey → Type 0 = λ k. AddsNames (naming c.each.namer) c.each.entries.items ((k, label_or (codes "override_" ++ c.name_of_type-ty.result.now) value.name) ∷ []) (naming c.add_described.new.namer) c.add_described.new.entries.items in
    let Q : List ℕ → Type 0 = λ text. AddsNames (naming c.each.namer) c.each.entries.items ((key.Override c.each.index, label_or (codes "override_" ++ text) value.name) ∷ []) (naming c.add_described.new.namer) c.add_described.new.entries.items in
    let named : Q (name_of_type c.args.types.now value.ty) =
    subst Q c.name_of_type-ty.ensures (subst P (ap key.Override c.at-handle.ensures) c.in_ok-add_described.ensures) in
    adds-more (λ i (it : override.Override). (key.Override i, label_or (codes "override_" ++ name_of_type c.args.types.now it.ty) it.name) ∷ [])
    (values c.args.overrides.now) c.each.index value (naming c.args.namer.now) (naming c.each.namer) (naming c.add_described.new.namer)
    c.args.entries.now.items c.each.entries.items c.add_described.new.entries.items
    here c.each.invariant named

pub returns : goal.returns
returns c =
    let past : length c.args.overrides.now ≤ c.each.index = omega (arith, c.len-index-end.ensures.value, c.each-test.false) in
    adds-all-values (λ i (it : override.Override). (key.Override i, label_or (codes "override_" ++ name_of_type c.args.types.now it.ty) it.name) ∷ [])
    c.args.overrides.now c.each.index (naming c.args.namer.now) (naming c.each.namer) c.args.entries.now.items c.each.entries.items
    past c.each.invariant
