use Rattle.naga_look.specs.Report.{headed_function}
use Rattle.naga_look.proofs.EmitsLemmas.{AddsEmitLine-pushed}
use Rattle.naga_look.proofs.ReportLemmas.{headed_function-plain}
use Rattle.naga_look.proofs.emits.push_function.Goals as goal

pub returns-then-branch : goal.returns-then-branch
returns-then-branch c =
    AddsEmitLine-pushed c.push_function_line.result (headed_function (c.args.index, c.args.function.now)) c.args.text.now c.push_function_line.new.text
    (headed_function-plain (c.args.index, c.args.function.now)) (c.in_ok-lacks_emit.ensures.0 c.if-branch.true) c.push_function_line.ensures
