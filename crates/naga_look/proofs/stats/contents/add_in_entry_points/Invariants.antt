use Rattle.std.proofs.Common.{◌≡◌, ◌<◌, ◌^◌, drop}
use Rattle.std.specs.Prelude.{sum_by}
use Rattle.naga_look.specs.Stats.{entry_expression_count}
use Rattle.naga_look.specs.Summary.{saturating_sum}
use Rattle.naga_look.proofs.stats.contents.add_in_entry_points.Given as goal

-- the expressions from this element on are still to be added
abbrev pub invariant-entry_points : goal.invariant-entry_points
invariant-entry_points l = record {
  added : saturating_sum l.total (sum_by entry_expression_count (drop l.entry_point-index l.entry_points)) ≡ saturating_sum l.initial.total (sum_by entry_expression_count l.entry_points);
  fits : l.total < 2 ^ 64;
}
