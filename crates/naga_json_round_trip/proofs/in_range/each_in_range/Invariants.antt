use Rattle.std.specs.List.{AllWithin}
use Rattle.naga_json_round_trip.proofs.in_range.each_in_range.Given as goal

-- the values before the index are in range
abbrev pub invariant-loop-value : goal.invariant-loop-value
invariant-loop-value g l = AllWithin g.T.InRange.Fits l.values 0 l.value-index
