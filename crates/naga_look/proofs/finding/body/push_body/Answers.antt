use Rattle.naga_look.specs.Findings.{inside_of}
use Rattle.naga_look.proofs.FindingsLemmas.{AddsFindings-all}
use Rattle.naga_look.proofs.finding.body.push_body.Goals as goal

pub returns : goal.returns
returns c =
    AddsFindings-all c.push_accesses.result c.args.module.now c.args.limit (inside_of c.args.body.now)
    c.args.found.now.items c.push_body_fault.new.found.items c.push_type_faults.new.found.items c.push_emit.new.found.items
    c.push_returns.new.found.items c.push_accesses.new.found.items
    c.in_ok-push_body_fault.ensures c.in_ok-push_type_faults.ensures c.in_ok-push_emit.ensures c.in_ok-push_returns.ensures c.push_accesses.ensures
