use Rattle.std.specs.List.{AllWithin}
use Rattle.naga_json_round_trip.proofs.read_back.function.each_reads_back.Given as goal

-- the values before the index are read as they were written
abbrev pub invariant-loop-value : goal.invariant-loop-value
invariant-loop-value g l = AllWithin g.T.ReadsBack.Fits l.values 0 l.value-index
