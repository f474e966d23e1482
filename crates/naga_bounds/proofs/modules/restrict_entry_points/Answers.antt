use Rattle.std.proofs.Common.{◌≡◌, ◌<◌, ◌∙◌, Some, ap, arith, refl, subst, sym, length}
use Rattle.std.proofs.lemmas.List.{get_or_default}
use Rattle.std.specs.Prelude.{slice_get}
use Rattle.std.specs.Vec.{with_item}
use Rattle.naga_ir.specs.declared.module.EntryPoint.{EntryPoint}
use Rattle.naga_ir.specs.declared.module.Module as the_module
use Rattle.naga_flow.specs.Bodies.{functions_of_entries}
use Rattle.naga_flow.proofs.BodiesLemmas.{slice_get-map}
use Rattle.naga_compact.proofs.AllZipLemmas.{ReplacedTo-end, ReplacedTo-length, ReplacedTo-next}
use Rattle.naga_bounds.specs.Prepared.{IsPrepared}
use Rattle.naga_bounds.specs.RestrictedModules.{RestrictsEntry, RestrictsIn}
use Rattle.naga_bounds.proofs.AreChangedToLemmas.{ReplacedTo-AreChangedTo, ReplacedTo-read}
use Rattle.naga_bounds.proofs.RestrictsLemmas.{IsObstacle-entry_points, IsPrepared-applied, IsPrepared-ready, RestrictsIn-entry_points}
use Rattle.naga_bounds.proofs.modules.restrict_entry_points.Goals as goal

pub index-requires : goal.index-requires
index-requires c =
    let whole = c.args.«module».now in
    omega (arith, c.len-position-end.ensures, ReplacedTo-length (RestrictsEntry whole) c.entry_points.position whole.entry_points.items c.entry_points.«module».entry_points.items c.entry_points.invariant.0)

pub index_mut-requires : goal.index_mut-requires
index_mut-requires c =
    let whole = c.args.«module».now in
    omega (arith, c.len-position-end.ensures, ReplacedTo-length (RestrictsEntry whole) c.entry_points.position whole.entry_points.items c.entry_points.«module».entry_points.items c.entry_points.invariant.0)

pub apply-requires : goal.apply-requires
apply-requires c =
    let whole = c.args.«module».now in
    let now = c.entry_points.«module» in
    let within : c.entry_points.position < length now.entry_points.items =
    omega (arith, c.len-position-end.ensures, ReplacedTo-length (RestrictsEntry whole) c.entry_points.position whole.entry_points.items now.entry_points.items c.entry_points.invariant.0) in
    let same : c.index.result.now ≡ c.index_mut.result.now =
    c.index.ensures ∙ get_or_default now.entry_points.items c.entry_points.position c.index.result.now c.index_mut.result.now within ∙ sym c.index_mut.ensures.value in
    IsPrepared-ready now c.index_mut.result.now.function c.in-Ok.found
    (subst (λ (given : EntryPoint). IsPrepared now given.function c.in-Ok.found) same c.in-Ok.ensures)

pub returns-in-Err : goal.returns-in-Err
returns-in-Err c =
    let whole = c.args.«module».now in
    let now = c.entry_points.«module» in
    let inside = c.index.result.now.function in
    let position = c.entry_points.position in
    let so = c.entry_points.invariant.0 in
    let within : position < length now.entry_points.items =
    omega (arith, c.len-position-end.ensures, ReplacedTo-length (RestrictsEntry whole) position whole.entry_points.items now.entry_points.items so) in
    let at : slice_get (functions_of_entries whole.entry_points.items) position ≡ Some inside =
    sym (ReplacedTo-read (RestrictsEntry whole) (λ (entry : EntryPoint). entry.function) position whole.entry_points.items now.entry_points.items so)
    ∙ slice_get-map (λ (entry : EntryPoint). entry.function) now.entry_points.items position c.index.result.now within c.index.ensures in
    let obstacle = IsObstacle-entry_points whole now c.entry_points.invariant.1 inside c.in-Err.obstacle c.in-Err.ensures in
    ((inside, at, obstacle), ReplacedTo-AreChangedTo (RestrictsEntry whole) position whole.entry_points.items now.entry_points.items so, c.entry_points.invariant.1)

pub entry_points-preserved : goal.entry_points-preserved
entry_points-preserved c =
    let whole = c.args.«module».now in
    let now = c.entry_points.«module» in
    let entry = c.index_mut.result.now in
    let new = c.apply.new.function in
    let position = c.entry_points.position in
    let so = c.entry_points.invariant.0 in
    let long = ReplacedTo-length (RestrictsEntry whole) position whole.entry_points.items now.entry_points.items so in
    let within : position < length now.entry_points.items = omega (arith, c.len-position-end.ensures, long) in
    let same : c.index.result.now ≡ entry =
    c.index.ensures ∙ get_or_default now.entry_points.items position c.index.result.now entry within ∙ sym c.index_mut.ensures.value in
    let prepared : IsPrepared now entry.function c.in-Ok.found =
    subst (λ (given : EntryPoint). IsPrepared now given.function c.in-Ok.found) same c.in-Ok.ensures in
    let restricts : RestrictsIn whole entry.function new =
    RestrictsIn-entry_points whole now c.entry_points.invariant.1 entry.function new
    (IsPrepared-applied now entry.function new c.in-Ok.found prepared c.apply.ensures.kept c.apply.ensures.changed) in
    let written : EntryPoint = record entry { function = new } in (
      ReplacedTo-next (RestrictsEntry whole) position whole.entry_points.items now.entry_points.items entry written so (omega (arith, within, long)) c.index_mut.ensures.value (refl, restricts),
      ap (λ (given : the_module.Module). record given { entry_points = with_item now.entry_points position written }) c.entry_points.invariant.1,
    )

pub returns : goal.returns
returns c =
    let whole = c.args.«module».now in
    (ReplacedTo-end (RestrictsEntry whole) c.entry_points.position whole.entry_points.items c.entry_points.«module».entry_points.items (omega (arith, c.len-position-end.ensures)) c.entry_points.invariant.0, c.entry_points.invariant.1)
