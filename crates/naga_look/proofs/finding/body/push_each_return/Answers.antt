use Rattle.std.proofs.Common.{◌≡◌, ◌∙◌, Some, ap, sym}
use Rattle.std.proofs.lemmas.Option.{slice_get-get_or}
use Rattle.std.specs.Prelude.{slice_get}
use Rattle.naga_look.specs.Findings.{inside_of, return_finding}
use Rattle.naga_look.proofs.FindingsLemmas.{mapped-all, mapped-next, mapped-none}
use Rattle.naga_look.proofs.finding.body.push_each_return.Goals as goal

pub paths-init : goal.paths-init
paths-init c = mapped-none (return_finding (inside_of c.args.body.now)) c.args.paths.now c.args.found.now.items

pub paths-preserved : goal.paths-preserved
paths-preserved c =
    let paths = c.args.paths.now in
    let path = c.index-paths-position.result in
    let at : slice_get paths c.paths.position ≡ Some path =
    slice_get-get_or paths c.paths.position path c.paths-test.true ∙ ap Some (sym c.index-paths-position.is) in
    mapped-next (return_finding (inside_of c.args.body.now)) paths c.paths.position path
    c.args.found.now.items c.paths.found.items c.push_return.new.found.items at c.paths.invariant c.in_ok-push_return.ensures

pub returns : goal.returns
returns c =
    mapped-all (return_finding (inside_of c.args.body.now)) c.args.paths.now c.paths.position
    c.args.found.now.items c.paths.found.items c.paths-test.false c.paths.invariant
