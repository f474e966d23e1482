use Rattle.std.proofs.Common.{◌≡◌, ◌≤◌, ℕ, ◌+◌, ◌<◌, get_or, length}
use Rattle.std.specs.Prelude.{vec_capacity}
use Rattle.std.specs.FinSet.{contains}
use Rattle.naga_compact.specs.Kept.{rank}
use Rattle.naga_compact.proofs.renumbering.Renumbering.new.Given as goal

-- the ranks of the handles below the index are in the table, and `next` is the rank of the index
abbrev pub invariant-indices : goal.invariant-indices
invariant-indices g l = record {
  room : l.bound + 1 ≤ vec_capacity l.ranks;
  count : length l.ranks.items ≡ l.index;
  in_table : (n : ℕ) → n < l.index → get_or l.ranks.items n 0 ≡ rank (contains l.kept.members) n;
  following : l.next ≡ rank (contains l.kept.members) l.index;
}
