use Rattle.std.proofs.Common.{◌≡◌, ◌≤◌, Some, ap, arith, below_more, length, refl, subst}
use Rattle.std.specs.Prelude.{slice_get}
use Rattle.std.proofs.lemmas.Option.{slice_get_read}
use Rattle.naga_valid.specs.Faults.{IsEntryPointWithin, IsFaultOf, IsPartFault, IsPartWithin}
use Rattle.naga_valid.specs.Limits.{AreWithin}
use Rattle.naga_valid.specs.Places.{lengths, limits_inside, references_of_entry_point}
use Rattle.naga_valid.specs.declared.handles.fault.Owner.TheVariants as owned
use Rattle.naga_valid.specs.declared.place.Part.{Part}
use Rattle.naga_valid.specs.declared.place.Place.TheVariants as place
use Rattle.naga_valid.proofs.FaultLemmas.{IsEntryPointWithin-all, IsEntryPointWithin-entry, IsOutside-entry_point, IsOutside-entry_point_function}
use Rattle.naga_valid.proofs.handles.function.check_entry_points.Goals as goal

pub returns-in-Err : goal.returns-in-Err
returns-in-Err c =
    let is : slice_get c.args.module.now.entry_points.items c.loop-position.position ≡ Some c.index-entry_points-position.result =
    subst (λ xs. slice_get xs c.loop-position.position ≡ Some c.index-entry_points-position.result) c.as_slice-entry_points.ensures.value
    (slice_get_read _ _ _ _ refl c.loop-position-test.true c.index-entry_points-position.is)
    in
    IsOutside-entry_point c.args.module.now c.loop-position.position c.index-entry_points-position.result is c.in-Err.fault
    (subst (λ limits. IsFaultOf limits (references_of_entry_point c.index-entry_points-position.result) (place.EntryPoint c.loop-position.position) c.in-Err.fault) c.requires c.in-Err.ensures)

pub returns-in-Err-check_function : goal.returns-in-Err-check_function
returns-in-Err-check_function c =
    let is : slice_get c.args.module.now.entry_points.items c.loop-position.position ≡ Some c.index-entry_points-position.result =
    subst (λ xs. slice_get xs c.loop-position.position ≡ Some c.index-entry_points-position.result) c.as_slice-entry_points.ensures.value
    (slice_get_read _ _ _ _ refl c.loop-position-test.true c.index-entry_points-position.is)
    in
    IsOutside-entry_point_function c.args.module.now c.loop-position.position c.index-entry_points-position.result is c.in-Err-check_function.fault
    (subst (λ limits. IsPartFault (limits_inside limits c.index-entry_points-position.result.function) c.index-entry_points-position.result.function (owned.EntryPoint c.loop-position.position) c.in-Err-check_function.fault) c.requires c.in-Err-check_function.ensures)

pub loop-position-preserved : goal.loop-position-preserved
loop-position-preserved c =
    let is : slice_get c.args.module.now.entry_points.items c.loop-position.position ≡ Some c.index-entry_points-position.result =
    subst (λ xs. slice_get xs c.loop-position.position ≡ Some c.index-entry_points-position.result) c.as_slice-entry_points.ensures.value
    (slice_get_read _ _ _ _ refl c.loop-position-test.true c.index-entry_points-position.is)
    in
    let own : AreWithin (lengths c.args.module.now) (references_of_entry_point c.index-entry_points-position.result) =
    subst (λ limits. AreWithin limits (references_of_entry_point c.index-entry_points-position.result)) c.requires c.in_default.ensures
    in
    let parts : (inner : Part) → IsPartWithin (limits_inside (lengths c.args.module.now) c.index-entry_points-position.result.function) c.index-entry_points-position.result.function inner =
    subst (λ limits. (inner : Part) → IsPartWithin (limits_inside limits c.index-entry_points-position.result.function) c.index-entry_points-position.result.function inner) c.requires c.in_default-check_function.ensures
    in
    below_more (λ k. IsEntryPointWithin c.args.module.now k) c.loop-position.position c.loop-position.invariant (IsEntryPointWithin-entry c.args.module.now c.loop-position.position c.index-entry_points-position.result is (own, parts))

pub returns : goal.returns
returns c =
    let past : length c.args.module.now.entry_points.items ≤ c.loop-position.position = omega (arith, ap length c.as_slice-entry_points.ensures.value, c.loop-position-test.false) in
    IsEntryPointWithin-all c.args.module.now c.loop-position.position past c.loop-position.invariant
