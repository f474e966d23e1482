use Rattle.std.proofs.Common.{◌≡◌, ◌∙◌, Some, ap, sym}
use Rattle.std.proofs.lemmas.Option.{slice_get-get_or}
use Rattle.std.specs.Prelude.{slice_get}
use Rattle.naga_look.specs.Notes.{access_line}
use Rattle.naga_look.proofs.StatsLemmas.{appended-all, appended-next, appended-none}
use Rattle.naga_look.proofs.notes.push_accesses.Goals as goal

pub accesses-init : goal.accesses-init
accesses-init c = appended-none (access_line c.args.head.now) c.args.accesses.now c.args.text.now

pub accesses-preserved : goal.accesses-preserved
accesses-preserved c =
    let accesses = c.args.accesses.now in
    let access = c.index-accesses-position.result in
    let at : slice_get accesses c.accesses.position ≡ Some access =
    slice_get-get_or accesses c.accesses.position access c.accesses-test.true ∙ ap Some (sym c.index-accesses-position.is) in
    appended-next (access_line c.args.head.now) accesses c.accesses.position access c.args.text.now c.accesses.text c.push_access.new.text at
    c.accesses.invariant c.in_ok-push_access.ensures

pub returns : goal.returns
returns c =
    appended-all (access_line c.args.head.now) c.args.accesses.now c.accesses.position c.args.text.now c.accesses.text
    c.accesses-test.false c.accesses.invariant
