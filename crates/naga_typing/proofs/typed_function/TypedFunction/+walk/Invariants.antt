use Rattle.std.proofs.Common.{◌<◌, ◌^◌, drop}
use Rattle.naga_ir.specs.Block.{pairs}
use Rattle.naga_valid.proofs.IsRestLemmas.{IsRest}
use Rattle.naga_typing.specs.TypedFunctions.{FitsIn}
use Rattle.naga_typing.proofs.StatementsLemmas.{each, statements_of_body, statements_of_pair}
use Rattle.naga_typing.proofs.WalksLemmas.{Completes}
use Rattle.naga_typing.proofs.typed_function.TypedFunction.+walk.Given as goal

-- a walk over the statements that are left completes one over the block
abbrev pub invariant-walk_block-statements : goal.invariant-walk_block-statements
invariant-walk_block-statements l = record {
  rest : IsRest (λ _. Unit {0}) l.statement-iterator (pairs l.block);
  left : Completes (FitsIn l.self) (each statements_of_pair (pairs l.block)) (each statements_of_pair l.statement-iterator) l.number l.met;
  fits : l.met < 2 ^ 64;
}

-- a walk over the cases from this one on completes one over all
abbrev pub invariant-walk_cases-cases : goal.invariant-walk_cases-cases
invariant-walk_cases-cases l = record {
  left : Completes (FitsIn l.self) (each statements_of_body l.cases) (each statements_of_body (drop l.case-index l.cases)) l.number l.met;
  fits : l.met < 2 ^ 64;
}
