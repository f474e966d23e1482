use Rattle.std.proofs.Common.{◌≡◌, ◌≤◌, ◌∙◌, Some, ap, arith, length, sym}
use Rattle.std.proofs.lemmas.Option.{slice_get-get_or}
use Rattle.std.specs.Prelude.{slice_get}
use Rattle.naga_look.specs.Report.{headed_entry_point, headed_entry_points, notes_on}
use Rattle.naga_look.proofs.ReportLemmas.{headed_entry_points-at, headed_entry_points-length}
use Rattle.naga_look.proofs.StatsLemmas.{appended-all, appended-next, appended-none}
use Rattle.naga_look.proofs.notes.push_entry_points.Goals as goal

pub entry_points-init : goal.entry_points-init
entry_points-init c = appended-none (notes_on c.args.module.now c.args.limit) (headed_entry_points c.args.entry_points.now) c.args.text.now

pub entry_points-preserved : goal.entry_points-preserved
entry_points-preserved c =
    let entries = c.args.entry_points.now in
    let entry = c.index-entry_points-position.result in
    let at : slice_get entries c.entry_points.position ≡ Some entry =
    slice_get-get_or entries c.entry_points.position entry c.entry_points-test.true ∙ ap Some (sym c.index-entry_points-position.is) in
    appended-next (notes_on c.args.module.now c.args.limit) (headed_entry_points entries) c.entry_points.position (headed_entry_point (c.entry_points.position, entry))
    c.args.text.now c.entry_points.text c.push_entry_point.new.text
    (headed_entry_points-at entries c.entry_points.position entry at) c.entry_points.invariant c.in_ok-push_entry_point.ensures

pub returns : goal.returns
returns c =
    let entries = c.args.entry_points.now in
    let headed : length (headed_entry_points entries) ≡ length entries = headed_entry_points-length entries in
    let past : length (headed_entry_points entries) ≤ c.entry_points.position = omega (arith, headed, c.entry_points-test.false) in
    appended-all (notes_on c.args.module.now c.args.limit) (headed_entry_points entries) c.entry_points.position c.args.text.now c.entry_points.text past c.entry_points.invariant
