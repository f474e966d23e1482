use Rattle.std.proofs.Common.{subst, sym}
use Rattle.naga_look.specs.DeclarationLines.{IsSaid}
use Rattle.naga_look.proofs.ReportLemmas.{Adds-fault_line}
use Rattle.naga_look.proofs.faults.declarations.push_fault_line.Goals as goal

pub returns : goal.returns
returns c =
    Adds-fault_line c.push_fault.result c.args.fault.now c.as_str.result.now c.args.text.now c.push_head.new.text c.push_fault.new.text
    (subst (IsSaid c.args.fault.now) (sym c.as_str.ensures.value) c.in_ok-said.ensures)
    c.in_ok-push_head.ensures c.push_fault.ensures
