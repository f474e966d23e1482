use Rattle.std.proofs.Common.{subst, sym}
use Rattle.std.specs.Prelude.{MatchOption, string_bytes}
use Rattle.naga_flow.specs.Bodies.{BodyPasses}
use Rattle.naga_look.specs.Report.{IsBodyFault}
use Rattle.naga_look.proofs.ReportLemmas.{AddsBodyLine-pushed}
use Rattle.naga_look.proofs.faults.push_body.Goals as goal

pub returns : goal.returns
returns c =
    let inside = c.args.function.now in
    let found = subst (λ fault. MatchOption fault (BodyPasses inside) (λ text. ¬ BodyPasses inside × IsBodyFault inside (string_bytes text))) c.in-Some.is c.in_ok-fault.ensures in
    AddsBodyLine-pushed c.push_fault_line.result (record { head = c.args.head.now; whole = inside }) c.as_str.result.now c.args.text.now c.push_fault_line.new.text
    c.requires found.0 (subst (IsBodyFault inside) (sym c.as_str.ensures.value) found.1) c.push_fault_line.ensures
