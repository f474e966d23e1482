use Rattle.std.proofs.Common.{◌≡◌, ◌≤◌, ◌∷◌, [], ℕ, Some, ap, arith, length, subst}
use Rattle.std.specs.List.{slice_get}
use Rattle.naga_arena.specs.Arena.{values}
use Rattle.naga_namer.specs.Namers.{naming}
use Rattle.naga_namer.specs.ModuleNames.{AddsNames}
use Rattle.naga_ir.specs.declared.types.«Type».{«Type» as NamedType}
use Rattle.naga_namer.specs.Names.{Naming}
use Rattle.naga_namer.specs.Declarations.{member_declarations}
use Rattle.naga_namer.proofs.AddsNamesLemmas.{adds-more-scopes}
use Rattle.naga_namer.proofs.AddsValuesLemmas.{adds-all-value-scopes}
use Rattle.naga_namer.proofs.reset.name_all_members.Goals as goal

pub each-preserved : goal.each-preserved
each-preserved c =
    let type = c.index.result.now in
    let here : slice_get (values c.args.types.now) c.each.index ≡ Some type = rw c.at-ty.ensures at c.index.ensures in
    let scope = naming c.namespace-scope.result in
    let P : ℕ → Type 0 = λ ty. AddsNames scope c.each.entries.items (member_declarations ty type.inner)
    (naming c.name_members.new.namer) c.name_members.new.entries.items in
    let named : P c.each.index = subst P c.at-ty.ensures c.in_ok-name_members.ensures in
    adds-more-scopes (λ ty (it : NamedType). member_declarations ty it.inner) (values c.args.types.now) c.each.index type
    (naming c.args.namer.now).reserved scope (naming c.name_members.new.namer) c.args.entries.now.items c.each.entries.items c.name_members.new.entries.items
    here (ap (λ (it : Naming). it.reserved) c.namespace-scope.ensures) (ap (λ (it : Naming). it.counts) c.namespace-scope.ensures)
    c.each.invariant named

pub returns : goal.returns
returns c =
    let past : length c.args.types.now ≤ c.each.index = omega (arith, c.len-index-end.ensures.value, c.each-test.false) in
    adds-all-value-scopes (λ ty (it : NamedType). member_declarations ty it.inner ∷ []) c.args.types.now c.each.index (naming c.args.namer.now).reserved c.args.entries.now.items c.each.entries.items
    past c.each.invariant
