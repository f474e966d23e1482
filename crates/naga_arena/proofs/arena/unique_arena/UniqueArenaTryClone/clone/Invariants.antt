use Rattle.std.proofs.Common.{◌≡◌, ◌≤◌, length}
use Rattle.naga_arena.proofs.IsUniqueCloneOfLemmas.{Cloned}
use Rattle.naga_arena.proofs.arena.unique_arena.UniqueArenaTryClone.clone.Given as goal

abbrev pub invariant-each : goal.invariant-each
invariant-each g l = record {
  aligned : length l.span_info.items ≡ length l.set.keys;
  fits : length l.set.keys ≤ l.i;
  cloned : Cloned g.T.PartialEq.eq g.T.TryClone.clone_gives l.self-inside.set.keys l.self-inside.span_info.items l.i l.set.keys l.span_info.items;
}
