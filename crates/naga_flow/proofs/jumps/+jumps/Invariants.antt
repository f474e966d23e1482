use Rattle.std.proofs.Common.{◌<◌, ◌^◌, drop}
use Rattle.naga_ir.specs.Block.{pairs}
use Rattle.naga_valid.proofs.IsRestLemmas.{IsRest}
use Rattle.naga_flow.proofs.JumpsLemmas.{Completes, each, placed_body, placed_pair}
use Rattle.naga_flow.proofs.jumps.+jumps.Given as goal

-- a walk over the statements that are left completes one over the block
abbrev pub invariant-walk_block-statements : goal.invariant-walk_block-statements
invariant-walk_block-statements l = record {
  rest : IsRest (λ _. Unit {0}) l.statement-iterator (pairs l.block);
  left : Completes (each (placed_pair l.around) (pairs l.block)) (each (placed_pair l.around) l.statement-iterator) l.fn.place.met l.place.met;
  fits : l.place.met < 2 ^ 64;
}

-- a walk over the cases from this one on completes one over all
abbrev pub invariant-walk_cases-cases : goal.invariant-walk_cases-cases
invariant-walk_cases-cases l = record {
  left : Completes (each (placed_body l.around) l.cases) (each (placed_body l.around) (drop l.case-index l.cases)) l.fn.place.met l.place.met;
  fits : l.place.met < 2 ^ 64;
}
