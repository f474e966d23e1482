use Rattle.std.proofs.Common.{◌<◌, ◌^◌, drop}
use Rattle.naga_ir.specs.Block.{pairs}
use Rattle.naga_valid.proofs.IsRestLemmas.{IsRest}
use Rattle.naga_explain.proofs.StatementsLemmas.{Completes, case_body, each, statement_pair}
use Rattle.naga_explain.proofs.statements.+seek.Given as goal

-- a search in the statements that are left completes one in the block
abbrev pub invariant-seek_in_block-statements : goal.invariant-seek_in_block-statements
invariant-seek_in_block-statements l = record {
  rest : IsRest (λ _. Unit {0}) l.statement-iterator (pairs l.block);
  left : Completes l.reference (each statement_pair (pairs l.block)) (each statement_pair l.statement-iterator) l.met l.next;
  fits : l.next < 2 ^ 64;
}

-- a search in the cases from this one on completes one in all
abbrev pub invariant-seek_in_cases-cases : goal.invariant-seek_in_cases-cases
invariant-seek_in_cases-cases l = record {
  left : Completes l.reference (each case_body l.cases) (each case_body (drop l.case-index l.cases)) l.met l.next;
  fits : l.next < 2 ^ 64;
}
