use Rattle.std.proofs.Common.{◌≡◌, ◌+◌, ◌∙◌, ℕ, Some, drop, ap, sym}
use Rattle.std.specs.List.{slice_get}
use Rattle.naga_layouter.specs.Spaces.{uniform_members_fault}
use Rattle.naga_layouter.proofs.FaultLemmas.{uniform-more, uniform-stop}
use Rattle.naga_layouter.proofs.LayingLemmas.{here-at}
use Rattle.naga_layouter.proofs.spaces.uniform_members_fault.Goals as goal

pub returns-in-Some : goal.returns-in-Some
returns-in-Some c =
    let types = c.args.types.now in
    let known = c.args.known.now in
    let members = c.args.members.now in
    let member = c.index-members-index.result in
    let here : slice_get members c.each.index ≡ Some member =
    here-at members c.each.index member c.each-test.true c.index-members-index.is in
    sym (uniform-stop types known c.args.ty members c.each.index c.each.least member here c.in-Some.fault
    (sym c.uniform_member_fault.ensures ∙ c.in-Some.is)) ∙ c.each.invariant

pub each-preserved : goal.each-preserved
each-preserved c =
    let types = c.args.types.now in
    let known = c.args.known.now in
    let ty = c.args.ty in
    let members = c.args.members.now in
    let member = c.index-members-index.result in
    let i = c.each.index in
    let here : slice_get members c.each.index ≡ Some member =
    here-at members c.each.index member c.each-test.true c.index-members-index.is in
    ap (λ (least : ℕ). uniform_members_fault types known ty (i + 1) least (drop (i + 1) members)) c.least_after-least.ensures
    ∙ sym (uniform-more types known ty members i c.each.least member here (sym c.uniform_member_fault.ensures ∙ c.in_default.is))
    ∙ c.each.invariant
