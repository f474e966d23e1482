use Rattle.std.proofs.Common.{subst, sym}
use Rattle.naga_typing.specs.FunctionFaults.{AreFirstFaults}
use Rattle.naga_look.specs.Findings.{inside_of}
use Rattle.naga_look.proofs.FindingsLemmas.{AddsTypeFaults-joined}
use Rattle.naga_look.proofs.finding.body.push_type_faults.Goals as goal

pub returns : goal.returns
returns c =
    let whole = c.args.module.now in
    let inside = inside_of c.args.body.now in
    let are = subst (AreFirstFaults whole inside.whole c.args.limit) (sym c.as_slice.ensures.value) c.in_ok-faults.ensures in
    AddsTypeFaults-joined c.push_each_type_fault.result whole c.args.limit inside c.as_slice.result.now
    c.args.found.now.items c.push_each_type_fault.new.found.items are c.push_each_type_fault.ensures
