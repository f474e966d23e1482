use Rattle.std.proofs.Common.{◌≡◌, ◌∙◌, Some, None, sym}
use Rattle.std.specs.List.{slice_get}
use Rattle.naga_layouter.specs.Spaces.{faults_at}
use Rattle.naga_layouter.proofs.FaultLemmas.{shared-more, shared-stop}
use Rattle.naga_layouter.proofs.LayingLemmas.{here-at}
use Rattle.naga_layouter.proofs.spaces.shared_members_fault.Goals as goal

pub returns-in-Some : goal.returns-in-Some
returns-in-Some c =
    let known = c.args.known.now in
    let members = c.args.members.now in
    let member = c.index-members-index.result in
    let here : slice_get members c.each.index ≡ Some member =
    here-at members c.each.index member c.each-test.true c.index-members-index.is in
    let found : (faults_at known member.ty).shared ≡ Some c.in-Some.fault = sym c.shared_at.ensures ∙ c.in-Some.is in
    sym (shared-stop known members c.each.index member here c.in-Some.fault found) ∙ c.each.invariant

pub each-preserved : goal.each-preserved
each-preserved c =
    let known = c.args.known.now in
    let members = c.args.members.now in
    let member = c.index-members-index.result in
    let here : slice_get members c.each.index ≡ Some member =
    here-at members c.each.index member c.each-test.true c.index-members-index.is in
    let none : (faults_at known member.ty).shared ≡ None = sym c.shared_at.ensures ∙ c.in_default.is in
    sym (shared-more known members c.each.index member here none) ∙ c.each.invariant
