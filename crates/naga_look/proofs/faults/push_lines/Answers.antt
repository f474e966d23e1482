use Rattle.naga_look.specs.Report.{limit_of}
use Rattle.naga_look.proofs.ReportLemmas.{AddsFunctionLines-both}
use Rattle.naga_look.proofs.faults.push_lines.Goals as goal

pub returns : goal.returns
returns c =
    AddsFunctionLines-both c.push_types.result c.args.module.now (limit_of c.args.extent) (record { head = c.args.head.now; whole = c.args.function.now })
    c.args.text.now c.push_body.new.text c.push_types.new.text c.in_ok-push_body.ensures c.push_types.ensures
