use Rattle.std.proofs.Common.{◌≡◌, ◌∙◌, Some, ap, sym}
use Rattle.std.proofs.lemmas.Option.{slice_get-get_or}
use Rattle.std.specs.Prelude.{slice_get}
use Rattle.naga_typing.proofs.JoinedLemmas.{AddsJoined-all, AddsJoined-next, AddsJoined-none}
use Rattle.naga_look.specs.Report.{IsTypeLine}
use Rattle.naga_look.proofs.faults.push_type_lines.Goals as goal

pub faults-init : goal.faults-init
faults-init c = AddsJoined-none (IsTypeLine (record { head = c.args.head.now; whole = c.args.function.now })) c.args.faults.now c.args.text.now

pub faults-preserved : goal.faults-preserved
faults-preserved c =
    let faults = c.args.faults.now in
    let found = c.index-faults-position.result in
    let at : slice_get faults c.faults.position ≡ Some found =
    slice_get-get_or faults c.faults.position found c.faults-test.true ∙ ap Some (sym c.index-faults-position.is) in
    AddsJoined-next (IsTypeLine (record { head = c.args.head.now; whole = c.args.function.now })) faults c.faults.position found
    c.args.text.now c.faults.text c.push_type_line.new.text at c.faults.invariant c.in_ok-push_type_line.ensures

pub returns : goal.returns
returns c =
    AddsJoined-all (IsTypeLine (record { head = c.args.head.now; whole = c.args.function.now })) c.args.faults.now c.faults.position
    c.args.text.now c.faults.text c.faults-test.false c.faults.invariant
