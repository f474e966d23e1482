use Rattle.naga_streams.specs.Counted.{stream_of}
use Rattle.naga_passes.specs.declared.names.TheConstants.{PASS_NAMES}
use Rattle.naga_text.specs.Escapes.{in_quotes}
use Rattle.naga_opt.specs.declared.usage.TheConstants.{USAGE}
use Rattle.naga_opt.proofs.MessagesLemmas.{PrintsLine-unknown}
use Rattle.naga_opt.proofs.report.print_unknown_pass.Goals as goal

pub returns-clause-said : goal.returns-clause-said
returns-clause-said g c is =
    PrintsLine-unknown (in_quotes c.args.name.now) PASS_NAMES.now USAGE.now (g.W.Write.contents (stream_of c.args.errors.now))
    (g.W.Write.contents (stream_of c.print_line.new.errors)) (c.print_line.ensures.said is)
