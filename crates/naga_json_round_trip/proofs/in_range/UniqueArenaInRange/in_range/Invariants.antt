use Rattle.std.proofs.Common.{All, map}
use Rattle.naga_arena.specs.Arena.{values}
use Rattle.naga_json_round_trip.proofs.in_range.UniqueArenaInRange.in_range.Given as goal

-- if the values that are left are in range, all are
abbrev pub invariant-loop-value : goal.invariant-loop-value
invariant-loop-value g l = All g.T.InRange.Fits (map (λ entry. entry.1) l.value-iterator) → All g.T.InRange.Fits (values l.self)
