use Rattle.std.proofs.Common.{◌≡◌, ◌≤◌, take, vec_len, vec_capacity}
use Rattle.std.specs.List.{AllZip}
use Rattle.naga_ir.specs.Clones.{IsCaseClone}
use Rattle.naga_ir.proofs.IsTreeCloneLemmas.{IsPairClone}
use Rattle.naga_ir.proofs.+statement.Given as goal

abbrev pub invariant-block::BlockClone::clone-statements : goal.invariant-block::BlockClone::clone-statements
invariant-block::BlockClone::clone-statements l = record {
  len : vec_len l.entries ≡ l.statement-index;
  capacity : l.statement-index-end ≤ vec_capacity l.entries;
  clones : AllZip IsPairClone (take l.statement-index l.self.entries.items) l.entries.items;
}

abbrev pub invariant-statement::clone_cases-cases : goal.invariant-statement::clone_cases-cases
invariant-statement::clone_cases-cases l = record {
  len : vec_len l.copies ≡ l.case-index;
  capacity : l.case-index-end ≤ vec_capacity l.copies;
  clones : AllZip IsCaseClone (take l.case-index l.cases.items) l.copies.items;
}
