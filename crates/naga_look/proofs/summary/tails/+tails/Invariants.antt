use Rattle.std.proofs.Common.{◌≡◌, ◌<◌, ◌^◌, drop}
use Rattle.std.specs.Prelude.{sum_by}
use Rattle.naga_look.specs.Counts.{open_in_case}
use Rattle.naga_look.specs.Summary.{saturating_sum}
use Rattle.naga_look.proofs.summary.tails.+tails.Given as goal

-- the cases from this one on are still to be added
abbrev pub invariant-add_open_in_cases-loop-case : goal.invariant-add_open_in_cases-loop-case
invariant-add_open_in_cases-loop-case l = record {
  added : saturating_sum l.total (sum_by (open_in_case l.rule) (drop l.case-index l.cases)) ≡ saturating_sum l.initial.total (sum_by (open_in_case l.rule) l.cases);
  fits : l.total < 2 ^ 64;
}
