use Rattle.std.proofs.Common.{◌≡◌, ◌∙◌, Some, ap, sym}
use Rattle.std.proofs.lemmas.Option.{slice_get-get_or}
use Rattle.std.specs.Prelude.{slice_get}
use Rattle.naga_look.specs.Notes.{missing_line}
use Rattle.naga_look.proofs.StatsLemmas.{appended-all, appended-next, appended-none}
use Rattle.naga_look.proofs.notes.push_missing.Goals as goal

pub paths-init : goal.paths-init
paths-init c = appended-none (missing_line c.args.head.now) c.args.paths.now c.args.text.now

pub paths-preserved : goal.paths-preserved
paths-preserved c =
    let paths = c.args.paths.now in
    let path = c.index-paths-position.result in
    let at : slice_get paths c.paths.position ≡ Some path =
    slice_get-get_or paths c.paths.position path c.paths-test.true ∙ ap Some (sym c.index-paths-position.is) in
    appended-next (missing_line c.args.head.now) paths c.paths.position path c.args.text.now c.paths.text c.push_missing_line.new.text at
    c.paths.invariant c.in_ok-push_missing_line.ensures

pub returns : goal.returns
returns c =
    appended-all (missing_line c.args.head.now) c.args.paths.now c.paths.position c.args.text.now c.paths.text
    c.paths-test.false c.paths.invariant
