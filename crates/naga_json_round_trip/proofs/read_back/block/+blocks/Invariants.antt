use Rattle.std.proofs.Common.{All}
use Rattle.std.specs.List.{AllWithin}
use Rattle.naga_ir.specs.Block.{statements}
use Rattle.naga_json_write.proofs.BlockLemmas.{AreLast}
use Rattle.naga_json_round_trip.specs.Module.{StatementFits}
use Rattle.naga_json_round_trip.proofs.BlockLemmas.{CaseFits}
use Rattle.naga_json_round_trip.proofs.read_back.block.+blocks.Given as goal

-- if the statements that are left are read as they were written, all are
abbrev pub invariant-block_reads_back-loop-statement : goal.invariant-block_reads_back-loop-statement
invariant-block_reads_back-loop-statement l = record {
  last : AreLast l.block l.statement-iterator;
  each : All (StatementFits l.within) l.statement-iterator → All (StatementFits l.within) (statements l.block);
}

-- the cases before the index are read as they were written
abbrev pub invariant-cases_read_back-loop-case : goal.invariant-cases_read_back-loop-case
invariant-cases_read_back-loop-case l = AllWithin (CaseFits l.depth) l.cases 0 l.case-index
