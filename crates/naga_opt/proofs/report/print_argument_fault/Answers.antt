use Rattle.std.proofs.Common.{ap, refl, ◌++◌}
use Rattle.std.specs.Prelude.{codes}
use Rattle.naga_streams.specs.Counted.{stream_of}
use Rattle.naga_passes.specs.Names.{unknown_text}
use Rattle.naga_text.specs.Escapes.{in_quotes}
use Rattle.naga_opt.specs.declared.report.ArgumentFault.TheVariants as wrong
use Rattle.naga_opt.proofs.MessagesLemmas.{PrintsArgumentFault-same}
use Rattle.naga_opt.proofs.report.print_argument_fault.Goals as goal

pub returns-in-NotUtf8-clause-said : goal.returns-in-NotUtf8-clause-said
returns-in-NotUtf8-clause-said g c is =
    PrintsArgumentFault-same c.args.wrong.now wrong.NotUtf8 (codes "unexpected argument") (g.W.Write.contents (stream_of c.args.errors.now))
    (g.W.Write.contents (stream_of c.print_named.new.errors)) c.in-NotUtf8.is refl (c.print_named.ensures.said is)

pub returns-in-Unexpected-clause-said : goal.returns-in-Unexpected-clause-said
returns-in-Unexpected-clause-said g c is =
    PrintsArgumentFault-same c.args.wrong.now (wrong.Unexpected c.in-Unexpected.named) (codes "unexpected argument: " ++ in_quotes c.as_str.result.now)
    (g.W.Write.contents (stream_of c.args.errors.now)) (g.W.Write.contents (stream_of c.print_named-in-Unexpected.new.errors)) c.in-Unexpected.is
    (ap (λ named. codes "unexpected argument: " ++ in_quotes named) c.as_str.ensures.value) (c.print_named-in-Unexpected.ensures.said is)

pub returns-in-NoValue-clause-said : goal.returns-in-NoValue-clause-said
returns-in-NoValue-clause-said g c is =
    PrintsArgumentFault-same c.args.wrong.now (wrong.NoValue c.in-NoValue.flag) (codes "no value for " ++ c.text.result.now)
    (g.W.Write.contents (stream_of c.args.errors.now)) (g.W.Write.contents (stream_of c.print_named-in-NoValue.new.errors)) c.in-NoValue.is
    (ap (λ named. codes "no value for " ++ named) c.text.ensures) (c.print_named-in-NoValue.ensures.said is)

pub returns-in-Twice-clause-said : goal.returns-in-Twice-clause-said
returns-in-Twice-clause-said g c is =
    PrintsArgumentFault-same c.args.wrong.now (wrong.Twice c.in-Twice.flag) (codes "option given twice: " ++ c.text-in-Twice.result.now)
    (g.W.Write.contents (stream_of c.args.errors.now)) (g.W.Write.contents (stream_of c.print_named-in-Twice.new.errors)) c.in-Twice.is
    (ap (λ named. codes "option given twice: " ++ named) c.text-in-Twice.ensures) (c.print_named-in-Twice.ensures.said is)

pub returns-in-NoCheck-clause-said : goal.returns-in-NoCheck-clause-said
returns-in-NoCheck-clause-said g c is =
    PrintsArgumentFault-same c.args.wrong.now (wrong.NoCheck c.in-NoCheck.flag) (c.text-in-NoCheck.result.now ++ codes " must follow --check")
    (g.W.Write.contents (stream_of c.args.errors.now)) (g.W.Write.contents (stream_of c.print_named-in-NoCheck.new.errors)) c.in-NoCheck.is
    (ap (λ named. named ++ codes " must follow --check") c.text-in-NoCheck.ensures) (c.print_named-in-NoCheck.ensures.said is)

pub returns-in-UnknownPass-clause-said : goal.returns-in-UnknownPass-clause-said
returns-in-UnknownPass-clause-said g c is =
    PrintsArgumentFault-same c.args.wrong.now (wrong.UnknownPass c.in-UnknownPass.named) (unknown_text (in_quotes c.as_str-in-UnknownPass.result.now))
    (g.W.Write.contents (stream_of c.args.errors.now)) (g.W.Write.contents (stream_of c.print_unknown_pass.new.errors)) c.in-UnknownPass.is
    (ap (λ named. unknown_text (in_quotes named)) c.as_str-in-UnknownPass.ensures.value) (c.print_unknown_pass.ensures.said is)
