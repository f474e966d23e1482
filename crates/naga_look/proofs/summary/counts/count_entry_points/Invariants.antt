use Rattle.std.proofs.Common.{◌≡◌, drop, map}
use Rattle.naga_look.specs.Summary.{entry_body_of, no_counts, with_blocks}
use Rattle.naga_look.proofs.WithBlocksLemmas.{AreInRange}
use Rattle.naga_look.proofs.summary.counts.count_entry_points.Given as goal

-- the bodies from this one on are still to be counted
abbrev pub invariant-entry_points : goal.invariant-entry_points
invariant-entry_points l = record {
  counted : with_blocks l.total (map entry_body_of (drop l.entry_point-index l.entry_points)) ≡ with_blocks no_counts (map entry_body_of l.entry_points);
  fits : AreInRange l.total;
}
