use Rattle.std.proofs.Common.{subst, sym}
use Rattle.naga_look.specs.Report.{IsSaidOfTypes}
use Rattle.naga_look.proofs.ReportLemmas.{AddsTypeLine-pushed}
use Rattle.naga_look.proofs.faults.push_type_line.Goals as goal

pub returns : goal.returns
returns c =
    AddsTypeLine-pushed c.push_fault_line.result (record { head = c.args.head.now; whole = c.args.function.now }) c.args.fault.now c.as_str.result.now
    c.args.text.now c.push_fault_line.new.text c.requires
    (subst (IsSaidOfTypes c.args.function.now c.args.fault.now) (sym c.as_str.ensures.value) c.in_ok-said.ensures)
    c.push_fault_line.ensures
