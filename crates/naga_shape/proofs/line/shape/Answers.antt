use Rattle.std.proofs.Common.{rules}
use Rattle.naga_streams.specs.Counted.{stream_of}
use Rattle.naga_shape.specs.Lines.{IsLine}
use Rattle.naga_shape.proofs.FaultsLemmas.{MayFault-output, WritesAnswer-append}
use Rattle.naga_shape.proofs.line.shape.Goals as goal

pub returns-clause-written : goal.returns-clause-written
returns-clause-written g c =
    let is : IsLine (g.R.Read.remaining (stream_of c.args.input.now)) c.in-Ok.text.now = search rules in
    WritesAnswer-append c.write_line.result c.args.rule _ _ _ c.in-Ok.text.now c.as_bytes.result.now is (search rules) c.write_line.ensures.written

pub returns-clause-fault : goal.returns-clause-fault
returns-clause-fault g c =
    let is : IsLine (g.R.Read.remaining (stream_of c.args.input.now)) c.in-Ok.text.now = search rules in
    MayFault-output c.write_line.result _ c.in-Ok.text.now is (search rules) c.write_line.ensures.fault
