use Rattle.std.proofs.Common.{◌≡◌, ◌<◌, ◌^◌, drop}
use Rattle.std.specs.Prelude.{sum_by}
use Rattle.naga_ir.specs.declared.module.EntryPoint as entry_point
use Rattle.naga_look.specs.Accesses.{misfits_in}
use Rattle.naga_look.specs.Summary.{saturating_sum}
use Rattle.naga_look.proofs.accesses.count_entry_points.Given as goal

-- the entry points from this one on are still to be counted
abbrev pub invariant-entry_points : goal.invariant-entry_points
invariant-entry_points l = record {
  counted : saturating_sum l.total (sum_by (λ (entry : entry_point.EntryPoint). misfits_in l.«module» entry.function) (drop l.entry_point-index l.entry_points))
      ≡ saturating_sum l.counted (sum_by (λ (entry : entry_point.EntryPoint). misfits_in l.«module» entry.function) l.entry_points);
  fits : l.total < 2 ^ 64;
}
