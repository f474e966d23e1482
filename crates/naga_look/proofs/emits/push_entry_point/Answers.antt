use Rattle.naga_look.specs.Report.{headed_entry_point}
use Rattle.naga_look.proofs.EmitsLemmas.{AddsEmitLine-pushed}
use Rattle.naga_look.proofs.ReportLemmas.{headed_entry_point-plain}
use Rattle.naga_look.proofs.emits.push_entry_point.Goals as goal

pub returns-then-branch : goal.returns-then-branch
returns-then-branch c =
    AddsEmitLine-pushed c.push_entry_point_line.result (headed_entry_point (c.args.position, c.args.entry_point.now)) c.args.text.now c.push_entry_point_line.new.text
    (headed_entry_point-plain (c.args.position, c.args.entry_point.now)) (c.in_ok-lacks_emit.ensures.0 c.if-branch.true) c.push_entry_point_line.ensures
