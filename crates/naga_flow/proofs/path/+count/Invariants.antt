use Rattle.std.proofs.Common.{◌≡◌, ◌<◌, ◌^◌, drop}
use Rattle.naga_ir.specs.Block.{statements}
use Rattle.naga_ir.specs.View.{cases_of, tree_of}
use Rattle.naga_valid.proofs.IsRestLemmas.{IsRest}
use Rattle.naga_flow.specs.Paths.{counted, paths_in, paths_in_cases}
use Rattle.naga_flow.proofs.PathsLemmas.{count_in, count_of, counts}
use Rattle.naga_flow.proofs.path.+count.Given as goal

-- the statements that are left are statements of the block; counted after those that were, they make the number of all
abbrev pub invariant-count_statements-statements : goal.invariant-count_statements-statements
invariant-count_statements-statements l = record {
  rest : IsRest (λ _. Unit {0}) l.statement-iterator (statements l.block);
  whole : counts l.count (count_of l.statement-iterator) ≡ counted (paths_in (tree_of l.block));
  fits : l.count < 2 ^ 64;
}

-- the cases from this one on, counted after those before it, make the number of those of all
abbrev pub invariant-count_in_cases-cases : goal.invariant-count_in_cases-cases
invariant-count_in_cases-cases l = record {
  whole : counts l.count (count_in (drop l.case-index l.cases)) ≡ counted (paths_in_cases 0 (cases_of l.cases));
  fits : l.count < 2 ^ 64;
}
