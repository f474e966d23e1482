use Rattle.std.proofs.Common.{◌≡◌, ◌∙◌, Some, ap, sym}
use Rattle.std.proofs.lemmas.Option.{slice_get-get_or}
use Rattle.std.specs.Prelude.{slice_get}
use Rattle.naga_typing.proofs.JoinedLemmas.{AddsJoined-all, AddsJoined-next, AddsJoined-none}
use Rattle.naga_look.specs.Findings.{IsDeclarationFault}
use Rattle.naga_look.proofs.finding.declarations.push_each.Goals as goal

pub faults-init : goal.faults-init
faults-init c = AddsJoined-none IsDeclarationFault c.args.faults.now c.args.found.now.items

pub faults-preserved : goal.faults-preserved
faults-preserved c =
    let faults = c.args.faults.now in
    let fault = c.index-faults-position.result in
    let at : slice_get faults c.faults.position ≡ Some fault =
    slice_get-get_or faults c.faults.position fault c.faults-test.true ∙ ap Some (sym c.index-faults-position.is) in
    AddsJoined-next IsDeclarationFault faults c.faults.position fault
    c.args.found.now.items c.faults.found.items c.push_fault.new.found.items at c.faults.invariant c.in_ok-push_fault.ensures

pub returns : goal.returns
returns c =
    AddsJoined-all IsDeclarationFault c.args.faults.now c.faults.position
    c.args.found.now.items c.faults.found.items c.faults-test.false c.faults.invariant
