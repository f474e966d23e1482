use Rattle.std.proofs.Common.{◌∙◌, ℕ, ap, refl, sym}
use Rattle.std.specs.Prelude.{sum_by}
use Rattle.naga_ir.specs.declared.module.EntryPoint as entry_point
use Rattle.naga_ir.specs.declared.module.Module as the_module
use Rattle.naga_look.specs.Accesses.{misfits_in}
use Rattle.naga_look.specs.Summary.{saturating_sum}
use Rattle.naga_look.proofs.AccessesLemmas.{sum_by-map}
use Rattle.naga_look.proofs.SaturatingSumLemmas.{added-at, added-past, saturating_sum-fits}
use Rattle.naga_look.proofs.accesses.count_entry_points.Goals as goal

-- the number for the function of an entry point
abbrev misfits_at : the_module.Module → entry_point.EntryPoint → ℕ
misfits_at whole entry = misfits_in whole entry.function

pub entry_points-init : goal.entry_points-init
entry_points-init c = record { counted = refl; fits = c.ranges.counted.fits }

pub entry_points-preserved : goal.entry_points-preserved
entry_points-preserved c =
    let whole = c.args.«module».now in
    let all = saturating_sum c.args.counted (sum_by (misfits_at whole) c.args.entry_points.now) in record {
      counted = added-at (misfits_at whole) c.entry_points.total c.in_ok-total.total all c.args.entry_points.now c.entry_points.entry_point-index c.entry_point-item.result c.entry_points-test.true c.entry_point-item.is c.entry_points.invariant.counted c.in_ok-total.ensures;
      fits = saturating_sum-fits c.entry_points.total c.in_ok-total.total _ c.in_ok-total.ensures;
    }

pub returns : goal.returns
returns c =
    let whole = c.args.«module».now in
    let entries = c.args.entry_points.now in
    let all = saturating_sum c.args.counted (sum_by (misfits_at whole) entries) in
    added-past (misfits_at whole) c.entry_points.total all entries c.entry_points.entry_point-index c.entry_points-test.false c.entry_points.invariant.fits c.entry_points.invariant.counted
    ∙ ap (saturating_sum c.args.counted) (sym (sum_by-map (misfits_in whole) (λ (entry : entry_point.EntryPoint). entry.function) entries))
