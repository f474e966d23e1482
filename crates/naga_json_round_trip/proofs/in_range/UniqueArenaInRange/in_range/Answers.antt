use Rattle.std.proofs.Common.{ℕ, All, map, subst}
use Rattle.std.proofs.lemmas.List.Elements.{All-cons}
use Rattle.naga_arena.specs.Arena.{values}
use Rattle.naga_json_write.proofs.ArenasLemmas.{values_of_entries}
use Rattle.naga_json_round_trip.proofs.in_range.UniqueArenaInRange.in_range.Goals as goal

pub loop-value-init : goal.loop-value-init
loop-value-init g c = subst (All g.T.InRange.Fits) (rw (c.into_iter-value-iterator.ensures.into_iter_gives, c.iter-value-items.ensures.rest) (values_of_entries 0 (values c.args.self.now)))

pub loop-value-preserved : goal.loop-value-preserved
loop-value-preserved g c =
    let rest = map {A = ℕ × g.row.T.Denot} {B = g.row.T.Denot} (λ entry. entry.1) c.next.new.self in
    λ each. c.loop-value.invariant (rw c.in-Some.ensures.steps (All-cons g.T.InRange.Fits c.in-Some.value.now rest c.in_range.ensures each))
