use Rattle.naga_streams.specs.Counted.{stream_of}
use Rattle.naga_opt.specs.Messages.{part_text}
use Rattle.naga_opt.proofs.MessagesLemmas.{PrintsFault-input}
use Rattle.naga_opt.proofs.report.print_fault.Goals as goal

pub returns-in-Input-clause-said : goal.returns-in-Input-clause-said
returns-in-Input-clause-said g c said =
    PrintsFault-input c.args.command.now c.args.fault.now c.in-Input.error (part_text c.input_name.result)
    (g.W.Write.contents (stream_of c.args.errors.now)) (g.W.Write.contents (stream_of c.print_input_failure.new.errors)) c.in-Input.is
    c.input_name.ensures (c.print_input_failure.ensures.said said)
