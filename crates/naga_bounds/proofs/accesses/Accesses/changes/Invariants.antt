use Rattle.std.proofs.Common.{◌≡◌, ◌≤◌, length}
use Rattle.std.specs.Prelude.{vec_capacity}
use Rattle.naga_bounds.specs.Changes.{counts_by}
use Rattle.naga_bounds.proofs.PlannedLemmas.{ArePlanned}
use Rattle.naga_bounds.proofs.accesses.Accesses.changes.Given as goal

-- the changes of the expressions before this one are there, with memory for the others
abbrev pub invariant-expressions : goal.invariant-expressions
invariant-expressions l = record {
  len : length l.changes.items ≡ l.index;
  planned : ArePlanned (counts_by l.overrides l.self.types) l.self l.changes.items;
  room : length l.self.arena ≤ vec_capacity l.changes;
}
