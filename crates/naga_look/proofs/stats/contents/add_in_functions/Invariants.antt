use Rattle.std.proofs.Common.{◌≡◌, ◌<◌, ◌^◌, drop}
use Rattle.std.specs.Prelude.{sum_by}
use Rattle.naga_look.specs.Stats.{expression_count}
use Rattle.naga_look.specs.Summary.{saturating_sum}
use Rattle.naga_look.proofs.stats.contents.add_in_functions.Given as goal

-- the expressions from this element on are still to be added
abbrev pub invariant-functions : goal.invariant-functions
invariant-functions l = record {
  added : saturating_sum l.total (sum_by expression_count (drop l.function-index l.functions)) ≡ saturating_sum l.initial.total (sum_by expression_count l.functions);
  fits : l.total < 2 ^ 64;
}
