use Rattle.naga_streams.specs.Counted.{stream_of}
use Rattle.naga_opt.proofs.MessagesLemmas.{PrintsArgumentFault-exclude}
use Rattle.naga_opt.proofs.report.print_exclusion.Goals as goal

pub returns-clause-said : goal.returns-clause-said
returns-clause-said g c is =
    PrintsArgumentFault-exclude c.args.first c.args.second c.text.result.now c.text-2.result.now (g.W.Write.contents (stream_of c.args.errors.now))
    (g.W.Write.contents (stream_of c.print_line.new.errors)) c.text.ensures c.text-2.ensures (c.print_line.ensures.said is)
