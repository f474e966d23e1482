use Rattle.std.proofs.Common.{◌<◌, ◌^◌, drop}
use Rattle.naga_ir.specs.Block.{pairs}
use Rattle.naga_valid.proofs.IsRestLemmas.{IsRest}
use Rattle.naga_typing.proofs.StatementsLemmas.{each, statements_of_body, statements_of_pair}
use Rattle.naga_typing.proofs.WalksOverLemmas.{Completes}
use Rattle.naga_typing.proofs.typed_function.TypedFunction.+push.Given as goal

-- a walk over the statements that are left completes one over the block
abbrev pub invariant-push_block-statements : goal.invariant-push_block-statements
invariant-push_block-statements l = record {
  rest : IsRest (λ _. Unit {0}) l.statement-iterator (pairs l.block);
  left : Completes l.self l.limit (each statements_of_pair (pairs l.block)) (each statements_of_pair l.statement-iterator) l.number l.met
      l.initial.faults.items l.faults.items;
  fits : l.met < 2 ^ 64;
}

-- a walk over the cases from this one on completes one over all
abbrev pub invariant-push_cases-cases : goal.invariant-push_cases-cases
invariant-push_cases-cases l = record {
  left : Completes l.self l.limit (each statements_of_body l.cases) (each statements_of_body (drop l.case-index l.cases)) l.number l.met
      l.initial.faults.items l.faults.items;
  fits : l.met < 2 ^ 64;
}
