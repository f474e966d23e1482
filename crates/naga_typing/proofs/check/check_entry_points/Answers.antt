use Rattle.std.proofs.Common.{◌≡◌, ◌≤◌, ◌<◌, ◌∙◌, ℕ, List, Some, ap, arith, get_or, length}
use Rattle.std.proofs.lemmas.List.{length-map}
use Rattle.std.specs.Prelude.{slice_get}
use Rattle.naga_ir.specs.declared.module.EntryPoint as entry_point
use Rattle.naga_flow.specs.Bodies.{functions_of_entries}
use Rattle.naga_flow.proofs.BodiesLemmas.{All-take_all, All-take_next, slice_get-map}
use Rattle.naga_typing.specs.TypedModules.{FunctionIsTyped}
use Rattle.naga_typing.proofs.TypedModulesLemmas.{IsInvalid-entry_point}
use Rattle.naga_typing.proofs.check.check_entry_points.Goals as goal

-- the function of an entry point that is read from the slice of all of them
function-at : (slice entries : List entry_point.EntryPoint) (position : ℕ) (entry : entry_point.EntryPoint)
    → slice ≡ entries → position < length slice → entry ≡ get_or slice position entry
    → slice_get (functions_of_entries entries) position ≡ Some entry.function
function-at slice entries position entry same within is =
    let equal = ap length same in
    slice_get-map (λ (each : entry_point.EntryPoint). each.function) entries position entry (omega (arith, equal, within))
    (is ∙ ap (λ all. get_or all position entry) same)

pub returns-in-Err : goal.returns-in-Err
returns-in-Err c =
    let whole = c.args.«module».now in
    let slice = c.as_slice-entry_points.result.now in
    let entry = get_or slice c.entry_points.position c.index-entry_points-position.result in
    let at = function-at slice whole.entry_points.items c.entry_points.position entry
    c.as_slice-entry_points.ensures.value c.entry_points-test.true
    (ap (get_or slice c.entry_points.position) c.index-entry_points-position.is) in
    IsInvalid-entry_point whole entry.function c.requires.declarations c.entry_points.position c.in-Err.invalid c.in-Err.ensures c.requires.functions at
    c.entry_points.invariant

pub entry_points-preserved : goal.entry_points-preserved
entry_points-preserved c =
    let whole = c.args.«module».now in
    let slice = c.as_slice-entry_points.result.now in
    let entry = get_or slice c.entry_points.position c.index-entry_points-position.result in
    let at = function-at slice whole.entry_points.items c.entry_points.position entry
    c.as_slice-entry_points.ensures.value c.entry_points-test.true
    (ap (get_or slice c.entry_points.position) c.index-entry_points-position.is) in
    All-take_next (FunctionIsTyped whole) (functions_of_entries whole.entry_points.items) c.entry_points.position entry.function at
    c.entry_points.invariant c.in_default.ensures

pub returns : goal.returns
returns c =
    let entries = c.args.«module».now.entry_points.items in
    let len : length (functions_of_entries entries) ≡ length entries = length-map entries _ in
    let same = ap length c.as_slice-entry_points.ensures.value in
    let past : length (functions_of_entries entries) ≤ c.entry_points.position =
    omega (arith, len, same, c.entry_points-test.false) in
    All-take_all (FunctionIsTyped c.args.«module».now) (functions_of_entries entries) c.entry_points.position past c.entry_points.invariant
