use Rattle.std.proofs.Common.{◌≡◌, ◌∙◌, ◌≤◌, ◌∷◌, [], ℕ, List, Some, ap, arith, length, subst}
use Rattle.std.specs.List.{slice_get}
use Rattle.naga_namer.specs.Names.{label_or}
use Rattle.naga_arena.specs.Arena.{values}
use Rattle.naga_namer.specs.Namers.{naming}
use Rattle.naga_namer.specs.ModuleNames.{AddsNames}
use Rattle.naga_namer.specs.declared.name_key.NameKey.{NameKey}
use Rattle.naga_namer.specs.declared.name_key.NameKey.TheVariants as key
use Rattle.std.specs.Prelude.{nat_eq}
use Rattle.std.specs.HashMap.{get}
use Rattle.naga_namer.specs.Declarations.{unnamed_type_label}
use Rattle.naga_namer.proofs.AddsNamesLemmas.{adds-more}
use Rattle.naga_namer.proofs.AddsValuesLemmas.{adds-all-values}
use Rattle.naga_ir.specs.declared.types.«Type».{«Type» as NamedType}
use Rattle.naga_namer.proofs.reset.name_each_type.Goals as goal

pub each-preserved : goal.each-preserved
each-preserved c =
    let type = c.index-value.result.now in
    let here : slice_get (values c.args.types.now) c.each.index ≡ Some type = rw c.at-ty.ensures at c.index-value.ensures in
    let fallback : c.unnamed_type_label-fallback.result.now ≡ unnamed_type_label (get nat_eq c.args.stages.now c.each.index) type.inner =
    c.unnamed_type_label-fallback.ensures ∙ ap (λ stage. unnamed_type_label stage type.inner) c.stage_of.ensures in
    let P : NameKey → Type 0 = λ k. AddsNames (naming c.each.namer) c.each.entries.items ((k, label_or c.unnamed_type_label-fallback.result.now type.name) ∷ []) (naming c.add_or.new.namer) c.add_or.new.entries.items in
    let Q : List ℕ → Type 0 = λ text. AddsNames (naming c.each.namer) c.each.entries.items ((key.«Type» c.each.index, label_or text type.name) ∷ []) (naming c.add_or.new.namer) c.add_or.new.entries.items in
    let named : Q (unnamed_type_label (get nat_eq c.args.stages.now c.each.index) type.inner) =
    subst Q fallback (subst P (ap key.«Type» c.at-ty.ensures) c.in_ok-add_or.ensures) in
    adds-more (λ i (it : NamedType). (key.«Type» i, label_or (unnamed_type_label (get nat_eq c.args.stages.now i) it.inner) it.name) ∷ [])
    (values c.args.types.now) c.each.index type (naming c.args.namer.now) (naming c.each.namer) (naming c.add_or.new.namer)
    c.args.entries.now.items c.each.entries.items c.add_or.new.entries.items
    here c.each.invariant named

pub returns : goal.returns
returns c =
    let past : length c.args.types.now ≤ c.each.index = omega (arith, c.len-index-end.ensures.value, c.each-test.false) in
    adds-all-values (λ i (it : NamedType). (key.«Type» i, label_or (unnamed_type_label (get nat_eq c.args.stages.now i) it.inner) it.name) ∷ [])
    c.args.types.now c.each.index (naming c.args.namer.now) (naming c.each.namer) c.args.entries.now.items c.each.entries.items
    past c.each.invariant
