use Rattle.std.proofs.Common.{rules}
use Rattle.naga_streams.specs.Counted.{stream_of}
use Rattle.naga_shape.proofs.FaultsLemmas.{MayFault-any_line}
use Rattle.naga_shape.proofs.line.read_line.Goals as goal

pub returns-in_err-read_part-clause-fault : goal.returns-in_err-read_part-clause-fault
returns-in_err-read_part-clause-fault g c =
    MayFault-any_line c.from_residual.result (g.R.Read.remaining (stream_of c.args.input.now)) (search rules)
