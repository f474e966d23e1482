use Rattle.std.proofs.Common.{subst, sym}
use Rattle.naga_typing.specs.FunctionFaults.{AreFirstFaults}
use Rattle.naga_look.specs.Report.{limit_of}
use Rattle.naga_look.proofs.ReportLemmas.{AddsTypeLines-joined}
use Rattle.naga_look.proofs.faults.push_types.Goals as goal

pub returns : goal.returns
returns c =
    let whole = c.args.module.now in
    let inside = c.args.function.now in
    let first = subst (λ limit. AreFirstFaults whole inside limit c.in_ok-faults.faults.items) c.limit.ensures c.in_ok-faults.ensures in
    let are = subst (AreFirstFaults whole inside (limit_of c.args.extent)) (sym c.as_slice.ensures.value) first in
    AddsTypeLines-joined c.push_type_lines.result whole (limit_of c.args.extent) (record { head = c.args.head.now; whole = inside }) c.as_slice.result.now
    c.args.text.now c.push_type_lines.new.text are c.push_type_lines.ensures
