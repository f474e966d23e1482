use Rattle.std.proofs.Common.{◌≡◌, ◌∙◌, Some, ap, sym}
use Rattle.std.proofs.lemmas.Option.{slice_get-get_or}
use Rattle.std.specs.Prelude.{slice_get}
use Rattle.naga_typing.proofs.JoinedLemmas.{AddsJoined-next}
use Rattle.naga_look.specs.Report.{AreFunctionLines, headed_entry_point, headed_entry_points, limit_of}
use Rattle.naga_look.proofs.ReportLemmas.{AddsJoined-entry_points, headed_entry_points-at}
use Rattle.naga_look.proofs.faults.push_entry_points.Goals as goal

pub entry_points-preserved : goal.entry_points-preserved
entry_points-preserved c =
    let entries = c.args.entry_points.now in
    let entry = c.index-entry_points-position.result in
    let at : slice_get entries c.entry_points.position ≡ Some entry =
    slice_get-get_or entries c.entry_points.position entry c.entry_points-test.true ∙ ap Some (sym c.index-entry_points-position.is) in
    AddsJoined-next (AreFunctionLines c.args.module.now (limit_of c.args.extent)) (headed_entry_points entries) c.entry_points.position (headed_entry_point (c.entry_points.position, entry))
    c.args.text.now c.entry_points.text c.push_entry_point.new.text
    (headed_entry_points-at entries c.entry_points.position entry at) c.entry_points.invariant c.in_ok-push_entry_point.ensures

pub returns : goal.returns
returns c =
    AddsJoined-entry_points (AreFunctionLines c.args.module.now (limit_of c.args.extent)) c.args.entry_points.now c.entry_points.position c.args.text.now c.entry_points.text
    c.entry_points-test.false c.entry_points.invariant
