use Rattle.std.proofs.Common.{◌≡◌, ◌-◌, length}
use Rattle.naga_streams.specs.Counted.{stream_of, failed_calls}
use Rattle.naga_shape.specs.Lines.{BeginsLine}
use Rattle.naga_shape.proofs.line.read_line.Given as goal

abbrev pub invariant-line : goal.invariant-line
invariant-line g l = record {
  begins : BeginsLine (g.R.Read.remaining (stream_of l.fn.input)) (g.R.Read.remaining (stream_of l.input)) l.line.items;
  same : failed_calls l.input ≡ failed_calls l.fn.input;
}

abbrev pub decreases-line : goal.decreases-line
decreases-line g l = 65537 - length l.line.items
