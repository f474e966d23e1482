use Rattle.std.proofs.Common.{subst, sym}
use Rattle.naga_typing.specs.DeclarationFaults.{AreFaultsOfDeclarations}
use Rattle.naga_look.proofs.FindingsLemmas.{AddsDeclarationFaults-joined}
use Rattle.naga_look.proofs.finding.declarations.push_declarations.Goals as goal

pub returns : goal.returns
returns c =
    let whole = c.args.module.now in
    let are = subst (AreFaultsOfDeclarations whole) (sym c.as_slice.ensures.value) c.in_ok-faults.ensures in
    AddsDeclarationFaults-joined c.push_each.result whole c.as_slice.result.now c.args.found.now.items c.push_each.new.found.items are c.push_each.ensures
