use Rattle.std.proofs.Common.{◌≡◌, drop, map}
use Rattle.naga_ir.specs.Block.{statements}
use Rattle.naga_ir.specs.View.{cases_of}
use Rattle.naga_json_write.specs.Appends.{append_items}
use Rattle.naga_json.specs.Block.{cases_json}
use Rattle.naga_json.specs.StatementValue.{cases_value}
use Rattle.naga_json.specs.Lists.{items_of}
use Rattle.naga_json_write.proofs.BlockLemmas.{AreLast, written}
use Rattle.naga_json_write.proofs.write.block.+block.Given as goal

-- the statements that are left are still to be written
abbrev pub invariant-write_statements-loop-statement : goal.invariant-write_statements-loop-statement
invariant-write_statements-loop-statement l = record {
  last : AreLast l.block l.statement-iterator;
  before : l.out.before ≡ l.initial.out.before;
  tokens : append_items l.out.tokens (items_of (map written l.statement-iterator))
      ≡ append_items l.initial.out.tokens (items_of (map written (statements l.block)));
}

-- the cases from this one on are still to be written
abbrev pub invariant-write_cases-loop-case : goal.invariant-write_cases-loop-case
invariant-write_cases-loop-case l = record {
  before : l.out.before ≡ l.initial.out.before;
  tokens : append_items l.out.tokens (items_of (cases_json (cases_value (cases_of (drop l.case-index l.cases)))))
      ≡ append_items l.initial.out.tokens (items_of (cases_json (cases_value (cases_of l.cases))));
}
