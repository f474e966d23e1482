use Rattle.std.proofs.Common.{◌≡◌, ◌∙◌, Some, ap, arith, refl, subst, sym}
use Rattle.std.specs.Prelude.{unwrap_or}
use Rattle.naga_arena.specs.Arena.{value_at, with_value}
use Rattle.naga_ir.specs.declared.module.Module as the_module
use Rattle.naga_flow.specs.Bodies.{functions_of}
use Rattle.naga_compact.proofs.AllZipLemmas.{ReplacedTo-end, ReplacedTo-length, ReplacedTo-with_value}
use Rattle.naga_bounds.specs.Prepared.{IsPrepared}
use Rattle.naga_bounds.specs.RestrictedModules.{AreChangedTo, HasObstacleAt, RestrictsElement, RestrictsIn}
use Rattle.naga_bounds.proofs.AreChangedToLemmas.{ReplacedTo-AreChangedTo, ReplacedTo-read}
use Rattle.naga_bounds.proofs.RestrictsLemmas.{IsObstacle-functions, IsPrepared-applied, IsPrepared-ready, RestrictsIn-functions}
use Rattle.naga_bounds.proofs.modules.restrict_functions.Goals as goal

pub index-requires : goal.index-requires
index-requires c =
    let whole = c.args.«module».now in
    omega (arith, c.at-handle.ensures, c.len-index-end.ensures.value, ReplacedTo-length (RestrictsElement whole) c.functions.index whole.functions c.functions.«module».functions c.functions.invariant.0)

pub returns-in-Err : goal.returns-in-Err
returns-in-Err c =
    let whole = c.args.«module».now in
    let now = c.functions.«module» in
    let inside = c.index.result.now in
    let index = c.functions.index in
    let so = c.functions.invariant.0 in
    let at : value_at whole.functions index ≡ Some inside =
    sym (ReplacedTo-read (RestrictsElement whole) (λ entry. entry.0) index whole.functions now.functions so)
    ∙ ap (value_at now.functions) (sym c.at-handle.ensures) ∙ c.index.ensures in
    let obstacle = IsObstacle-functions whole now index so c.functions.invariant.1 inside c.in-Err.obstacle c.in-Err.ensures in
    subst (λ handle. HasObstacleAt whole (functions_of whole) handle c.in-Err.obstacle × AreChangedTo (RestrictsElement whole) handle whole.functions now.functions × (now ≡ record whole { functions = now.functions }))
    (sym c.at-handle.ensures)
    ((inside, at, obstacle), ReplacedTo-AreChangedTo (RestrictsElement whole) index whole.functions now.functions so, c.functions.invariant.1)

pub apply-requires : goal.apply-requires
apply-requires c =
    let now = c.functions.«module» in
    let same : c.index.result.now ≡ c.get_mut.result.now =
    ap (λ found. unwrap_or found c.get_mut.result.now) (sym c.index.ensures ∙ c.get_mut.ensures.value) in
    IsPrepared-ready now c.get_mut.result.now c.in-Ok.found (subst (λ inside. IsPrepared now inside c.in-Ok.found) same c.in-Ok.ensures)

pub functions-preserved : goal.functions-preserved
functions-preserved c =
    let whole = c.args.«module».now in
    let now = c.functions.«module» in
    let inside = c.get_mut.result.now in
    let new = c.apply.new.function in
    let so = c.functions.invariant.0 in
    let same : c.index.result.now ≡ inside =
    ap (λ found. unwrap_or found inside) (sym c.index.ensures ∙ c.get_mut.ensures.value) in
    let prepared : IsPrepared now inside c.in-Ok.found = subst (λ given. IsPrepared now given c.in-Ok.found) same c.in-Ok.ensures in
    let restricts : RestrictsIn whole inside new =
    RestrictsIn-functions whole now c.functions.index so c.functions.invariant.1 inside new
    (IsPrepared-applied now inside new c.in-Ok.found prepared c.apply.ensures.kept c.apply.ensures.changed) in (
      ReplacedTo-with_value (RestrictsElement whole) c.functions.index c.at-handle.result whole.functions now.functions inside c.at-handle.ensures so (omega (arith, c.len-index-end.ensures.value)) c.get_mut.ensures.value new (restricts, refl),
      ap (λ (given : the_module.Module). record given { functions = with_value now.functions c.at-handle.result new }) c.functions.invariant.1,
    )

pub returns : goal.returns
returns c =
    let whole = c.args.«module».now in
    (ReplacedTo-end (RestrictsElement whole) c.functions.index whole.functions c.functions.«module».functions (omega (arith, c.len-index-end.ensures.value)) c.functions.invariant.0, c.functions.invariant.1)
