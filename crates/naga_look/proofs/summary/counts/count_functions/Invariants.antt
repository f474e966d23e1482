use Rattle.std.proofs.Common.{◌≡◌, drop, map}
use Rattle.naga_look.specs.Summary.{body_of, no_counts, with_blocks}
use Rattle.naga_look.proofs.WithBlocksLemmas.{AreInRange}
use Rattle.naga_look.proofs.summary.counts.count_functions.Given as goal

-- the bodies from this one on are still to be counted
abbrev pub invariant-functions : goal.invariant-functions
invariant-functions l = record {
  counted : with_blocks l.total (map body_of (drop l.function-index l.functions)) ≡ with_blocks no_counts (map body_of l.functions);
  fits : AreInRange l.total;
}
