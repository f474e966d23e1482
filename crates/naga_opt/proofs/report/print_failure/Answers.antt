use Rattle.std.proofs.Common.{rules, ◌++◌}
use Rattle.std.specs.Io.KnownBytes.{Appends}
use Rattle.std.specs.Prelude.{codes}
use Rattle.naga_streams.specs.Counted.{stream_of}
use Rattle.naga_opt.specs.Messages.{part_text}
use Rattle.naga_opt.proofs.MessagesLemmas.{PrintsFailure-parts}
use Rattle.naga_opt.proofs.report.print_failure.Goals as goal

pub returns-then-print_start-clause-said : goal.returns-then-print_start-clause-said
returns-then-print_start-clause-said g c is =
    let before = g.W.Write.contents (stream_of c.args.errors.now) in
    let now = g.W.Write.contents (stream_of c.print_start.new.errors) in
    let start : Appends before now (codes "naga_opt: " ++ (c.args.what.now ++ part_text c.args.name.now)) = search rules in
    PrintsFailure-parts c.args.what.now (part_text c.args.name.now) c.as_str.result.now before now (g.W.Write.contents (stream_of c.print_end.new.errors))
    start (c.print_end.ensures.said is)
