use Rattle.std.proofs.Common.{All}
use Rattle.indexmap.specs.IndexMap.{keys}
use Rattle.naga_json_round_trip.proofs.in_range.maps.keys_in_range.Given as goal

-- if the keys that are left are in range, all are
abbrev pub invariant-loop-key : goal.invariant-loop-key
invariant-loop-key g l = All g.K.InRange.Fits l.key-iterator → All g.K.InRange.Fits (keys l.entries)
