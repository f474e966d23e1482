use Rattle.std.proofs.Common.{◌≡◌, ◌+◌, ◌≤◌, drop, length}
use Rattle.std.specs.List.{enumerate_from, zip}
use Rattle.std.specs.Prelude.{vec_capacity, vec_len}
use Rattle.std.specs.Vec.Iter.{into_iter_items, into_iter_len}
use Rattle.naga_arena.specs.Limits.{max_len}
use Rattle.naga_arena.proofs.RetainsLemmas.{Completes}
use Rattle.naga_arena.proofs.arena.retain.retain_entries.Given as goal

-- No more values are kept than were taken, `kept` has capacity for the rest, and the values that the calls for the
-- remaining entries retain complete those that are kept.
abbrev pub invariant-each : goal.invariant-each
invariant-each g l =
    goal.P-IsAlwaysCallable g l.predicate
    × record {
      counted : into_iter_len l.rest ≡ length (into_iter_items l.rest);
      aligned : l.index + length (into_iter_items l.rest) ≡ length l.spans.items;
      fits : length l.spans.items ≤ max_len;
      behind : length l.kept.items ≤ l.index;
      room : vec_len l.kept + length (into_iter_items l.rest) ≤ vec_capacity l.kept;
      completes : Completes (goal.P-step g) l.fn.predicate (enumerate_from 0 (zip l.fn.values.items l.fn.spans.items)) l.predicate (enumerate_from l.index (zip (into_iter_items l.rest) (drop l.index l.spans.items))) (zip l.kept.items l.spans.items);
    }

abbrev pub decreases-each : goal.decreases-each
decreases-each g l = length (into_iter_items l.rest)
