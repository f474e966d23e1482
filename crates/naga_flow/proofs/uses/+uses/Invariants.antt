use Rattle.std.proofs.Common.{drop}
use Rattle.naga_ir.specs.Block.{pairs}
use Rattle.naga_ir.specs.View.{tree_of}
use Rattle.naga_valid.proofs.IsRestLemmas.{IsRest}
use Rattle.naga_flow.specs.Readings.{read_in}
use Rattle.naga_flow.proofs.WalkLemmas.{IsCasing, IsWalking}
use Rattle.naga_flow.proofs.uses.+uses.Given as goal

-- the statements before those that are left have been walked over
abbrev pub invariant-walk_block-statements : goal.invariant-walk_block-statements
invariant-walk_block-statements l = record {
  rest : IsRest (λ _. Unit {0}) l.statement-iterator (pairs l.block);
  walking : IsWalking (read_in l.reading) l.number l.fn.known (tree_of l.block) l.statement-iterator l.walked l.known;
}

-- the cases before this one have been walked over
abbrev pub invariant-walk_cases-cases : goal.invariant-walk_cases-cases
invariant-walk_cases-cases l =
    IsCasing (read_in l.reading) l.number l.fn.known l.cases (drop l.case-index l.cases) l.next l.ways l.known
