use Rattle.std.proofs.Common.{◌≡◌, ◌∙◌, ◌∷◌, [], Some, refl, rules, subst}
use Rattle.std.specs.List.{enumerate_from}
use Rattle.naga_arena.specs.Arena.{value_at, values}
use Rattle.naga_valid.specs.Faults.{IsPartFault, IsPartWithin}
use Rattle.naga_valid.specs.Places.{lengths, limits_inside}
use Rattle.naga_valid.specs.declared.handles.fault.Owner.TheVariants as owned
use Rattle.naga_valid.specs.declared.limits.Limits.{Limits}
use Rattle.naga_valid.specs.declared.place.Part.{Part}
use Rattle.naga_valid.proofs.FaultLemmas.{ArePlacesWithin-functions, IsFunctionWithin, IsOutside-function}
use Rattle.naga_valid.proofs.FindsElementLemmas.{Contains-at}
use Rattle.naga_valid.proofs.IsRestLemmas.{IsRest-end, IsRest-first, IsRest-itself, IsRest-next}
use Rattle.naga_valid.proofs.handles.function.check_functions.Goals as goal

pub loop-handle-init : goal.loop-handle-init
loop-handle-init c =
    IsRest-itself (λ entry. IsFunctionWithin c.args.module.now entry.0 entry.1) _ _ (c.into_iter-handle-iterator.ensures.into_iter_gives ∙ c.iter-handle-items.ensures.rest)

pub returns-in-Err : goal.returns-in-Err
returns-in-Err c =
    let is : c.loop-handle.handle-iterator ≡ (c.in-Some.handle, c.in-Some.function.now) ∷ c.next.new.self = c.in-Some.ensures.steps in
    let inside = IsRest-first (λ entry. IsFunctionWithin c.args.module.now entry.0 entry.1) _ _ _ _ is c.loop-handle.invariant in
    let found : value_at c.args.module.now.functions c.in-Some.handle ≡ Some c.in-Some.function.now = Contains-at (values c.args.module.now.functions) (enumerate_from 0 (values c.args.module.now.functions)) refl c.in-Some.handle c.in-Some.function.now inside in
    let same : ◌≡◌ {A = Limits} (record c.args.limits.now { functions = c.index.result }) (record (lengths c.args.module.now) { functions = c.in-Some.handle }) = λ i. record (c.requires i) { functions = c.index.ensures.value i } in
    IsOutside-function c.args.module.now c.in-Some.handle c.in-Some.function.now found c.in-Err.fault
    (subst (λ limits. IsPartFault (limits_inside limits c.in-Some.function.now) c.in-Some.function.now (owned.Function c.in-Some.handle) c.in-Err.fault) same c.in-Err.ensures)

pub loop-handle-preserved : goal.loop-handle-preserved
loop-handle-preserved c =
    let is : c.loop-handle.handle-iterator ≡ (c.in-Some.handle, c.in-Some.function.now) ∷ c.next.new.self = c.in-Some.ensures.steps in
    let same : ◌≡◌ {A = Limits} (record c.args.limits.now { functions = c.index.result }) (record (lengths c.args.module.now) { functions = c.in-Some.handle }) = λ i. record (c.requires i) { functions = c.index.ensures.value i } in
    IsRest-next (λ entry. IsFunctionWithin c.args.module.now entry.0 entry.1) _ _ _ _ is c.loop-handle.invariant
    (subst (λ limits. (inner : Part) → IsPartWithin (limits_inside limits c.in-Some.function.now) c.in-Some.function.now inner) same c.in_default.ensures)

pub returns : goal.returns
returns c =
    let is : c.loop-handle.handle-iterator ≡ [] = search rules in
    ArePlacesWithin-functions c.args.module.now (IsRest-end (λ entry. IsFunctionWithin c.args.module.now entry.0 entry.1) _ _ is c.loop-handle.invariant)
