use Rattle.std.proofs.Common.{◌≡◌, ◌∙◌, Some, ap, sym}
use Rattle.std.proofs.lemmas.Option.{slice_get-get_or}
use Rattle.std.specs.Prelude.{slice_get}
use Rattle.naga_typing.proofs.JoinedLemmas.{AddsJoined-next, AddsJoined-none}
use Rattle.naga_look.specs.Findings.{AreFindingsInside, inside_entry_point, inside_entry_points}
use Rattle.naga_look.proofs.FindingsLemmas.{inside_entry_points-at}
use Rattle.naga_look.proofs.ReportLemmas.{AddsJoined-numbered}
use Rattle.naga_look.proofs.finding.list.push_entry_points.Goals as goal

pub entry_points-init : goal.entry_points-init
entry_points-init c = AddsJoined-none (AreFindingsInside c.args.module.now c.args.limit) (inside_entry_points c.args.entry_points.now) c.args.found.now.items

pub entry_points-preserved : goal.entry_points-preserved
entry_points-preserved c =
    let entries = c.args.entry_points.now in
    let entry = c.index-entry_points-position.result in
    let at : slice_get entries c.entry_points.position ≡ Some entry =
    slice_get-get_or entries c.entry_points.position entry c.entry_points-test.true ∙ ap Some (sym c.index-entry_points-position.is) in
    AddsJoined-next (AreFindingsInside c.args.module.now c.args.limit) (inside_entry_points entries) c.entry_points.position (inside_entry_point (c.entry_points.position, entry))
    c.args.found.now.items c.entry_points.found.items c.push_entry_point.new.found.items
    (inside_entry_points-at entries c.entry_points.position entry at) c.entry_points.invariant c.in_ok-push_entry_point.ensures

pub returns : goal.returns
returns c =
    AddsJoined-numbered inside_entry_point (AreFindingsInside c.args.module.now c.args.limit) c.args.entry_points.now c.entry_points.position
    c.args.found.now.items c.entry_points.found.items c.entry_points-test.false c.entry_points.invariant
