use Rattle.std.proofs.Common.{◌≡◌, ◌∙◌, Some, ap, sym}
use Rattle.std.proofs.lemmas.Option.{slice_get-get_or}
use Rattle.std.specs.Prelude.{slice_get}
use Rattle.naga_look.specs.Findings.{inside_of, access_finding}
use Rattle.naga_look.proofs.FindingsLemmas.{mapped-all, mapped-next, mapped-none}
use Rattle.naga_look.proofs.finding.body.push_each_access.Goals as goal

pub accesses-init : goal.accesses-init
accesses-init c = mapped-none (access_finding (inside_of c.args.body.now)) c.args.accesses.now c.args.found.now.items

pub accesses-preserved : goal.accesses-preserved
accesses-preserved c =
    let accesses = c.args.accesses.now in
    let access = c.index-accesses-position.result in
    let at : slice_get accesses c.accesses.position ≡ Some access =
    slice_get-get_or accesses c.accesses.position access c.accesses-test.true ∙ ap Some (sym c.index-accesses-position.is) in
    mapped-next (access_finding (inside_of c.args.body.now)) accesses c.accesses.position access
    c.args.found.now.items c.accesses.found.items c.push_access.new.found.items at c.accesses.invariant c.in_ok-push_access.ensures

pub returns : goal.returns
returns c =
    mapped-all (access_finding (inside_of c.args.body.now)) c.args.accesses.now c.accesses.position
    c.args.found.now.items c.accesses.found.items c.accesses-test.false c.accesses.invariant
