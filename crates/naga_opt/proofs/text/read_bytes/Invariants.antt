use Rattle.std.proofs.Common.{◌≡◌, ◌-◌, ◌^◌, length}
use Rattle.std.specs.Io.KnownBytes.{Consumes}
use Rattle.naga_streams.specs.Counted.{failed_calls, stream_of}
use Rattle.naga_opt.proofs.text.read_bytes.Given as goal

-- the bytes were read, and no call failed
abbrev pub invariant-bytes : goal.invariant-bytes
invariant-bytes g l = record {
  read : Consumes (g.R.Read.remaining (stream_of l.fn.input)) (g.R.Read.remaining (stream_of l.input)) l.bytes.items;
  same : failed_calls l.input ≡ failed_calls l.fn.input;
}

abbrev pub decreases-bytes : goal.decreases-bytes
decreases-bytes g l = 2 ^ 64 - length l.bytes.items
