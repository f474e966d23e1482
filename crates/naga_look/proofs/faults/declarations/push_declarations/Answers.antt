use Rattle.std.proofs.Common.{subst, sym}
use Rattle.naga_typing.specs.DeclarationFaults.{AreFaultsOfDeclarations}
use Rattle.naga_look.proofs.ReportLemmas.{AddsDeclarationLines-joined}
use Rattle.naga_look.proofs.faults.declarations.push_declarations.Goals as goal

pub returns : goal.returns
returns c =
    let whole = c.args.module.now in
    let are = subst (AreFaultsOfDeclarations whole) (sym c.as_slice.ensures.value) c.in_ok-faults.ensures in
    AddsDeclarationLines-joined c.push_faults.result whole c.as_slice.result.now c.args.text.now c.push_faults.new.text are c.push_faults.ensures
