use Rattle.std.proofs.Common.{◌≡◌, ◌<◌, ◌^◌, drop}
use Rattle.std.specs.Prelude.{sum_by}
use Rattle.naga_ir.specs.Block.{statements}
use Rattle.naga_valid.proofs.IsRestLemmas.{IsRest}
use Rattle.naga_look.specs.Summary.{saturating_sum}
use Rattle.naga_look.proofs.CountsLemmas.{count_of, count_of_case}
use Rattle.naga_look.proofs.summary.statements.+statements.Given as goal

-- the statements that are left are still to be added
abbrev pub invariant-add_statements-loop-statement : goal.invariant-add_statements-loop-statement
invariant-add_statements-loop-statement l = record {
  rest : IsRest (λ _. Unit {0}) l.statement-iterator (statements l.block);
  added : saturating_sum l.total (sum_by count_of l.statement-iterator) ≡ saturating_sum l.initial.total (sum_by count_of (statements l.block));
  fits : l.total < 2 ^ 64;
}

-- the cases from this one on are still to be added
abbrev pub invariant-add_in_cases-loop-case : goal.invariant-add_in_cases-loop-case
invariant-add_in_cases-loop-case l = record {
  added : saturating_sum l.total (sum_by count_of_case (drop l.case-index l.cases)) ≡ saturating_sum l.initial.total (sum_by count_of_case l.cases);
  fits : l.total < 2 ^ 64;
}
