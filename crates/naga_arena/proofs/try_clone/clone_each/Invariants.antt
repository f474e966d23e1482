use Rattle.std.proofs.Common.{◌≡◌, ◌≤◌, length, take}
use Rattle.std.specs.List.{AllZip}
use Rattle.std.specs.Prelude.{vec_len, vec_capacity}
use Rattle.naga_arena.proofs.try_clone.clone_each.Given as goal

abbrev pub invariant-loop-value : goal.invariant-loop-value
invariant-loop-value g l = record {
  len : vec_len l.copies ≡ l.value-index;
  room : length l.values ≤ vec_capacity l.copies;
  clones : AllZip g.T.TryClone.clone_gives (take l.value-index l.values) l.copies.items;
}
