use Rattle.std.proofs.Common.{◌≡◌, ◌+◌, ◌∙◌, ◌==◌, Some, None, drop, length, ap, sym, arith}
use Rattle.std.specs.List.{slice_get}
use Rattle.naga_layouter.specs.Faults.{member_cause, members_fault}
use Rattle.naga_layouter.specs.declared.layouter.TypeLayout.{TypeLayout}
use Rattle.naga_layouter.proofs.FaultLemmas.{members_fault-more, members_fault-stop}
use Rattle.naga_layouter.proofs.LayingLemmas.{here-at}
use Rattle.naga_layouter.proofs.faults.members_fault.Goals as goal

pub returns-in-Some : goal.returns-in-Some
returns-in-Some c =
    let members = c.args.members.now in
    let member = c.index-members-index.result in
    let here : slice_get members c.each.index ≡ Some member =
    here-at members c.each.index member c.each-test.true c.index-members-index.is in
    let found : member_cause c.args.types.now c.args.known.now c.each.start c.args.span (c.each.index + 1 == length members) member
    ≡ Some c.in-Some.cause = sym c.member_cause-cause.ensures.cause ∙ c.in-Some.is in
    sym (members_fault-stop c.args.types.now c.args.known.now c.args.ty c.args.span (length members) members c.each.index
    c.each.start member here c.in-Some.cause found) ∙ c.each.invariant.left

pub each-preserved : goal.each-preserved
each-preserved c =
    let types = c.args.types.now in
    let known = c.args.known.now in
    let ty = c.args.ty in
    let span = c.args.span in
    let members = c.args.members.now in
    let member = c.index-members-index.result in
    let i = c.each.index in
    let here : slice_get members c.each.index ≡ Some member =
    here-at members c.each.index member c.each-test.true c.index-members-index.is in
    let none : member_cause c.args.types.now c.args.known.now c.each.start c.args.span (c.each.index + 1 == length members) member
    ≡ None = sym c.member_cause-cause.ensures.cause ∙ c.in_default.is in
    record {
      left = ap (λ (layout : TypeLayout). members_fault types known ty span (length members) (i + 1) (member.offset + layout.size) (drop (i + 1) members)) c.layout_at.ensures
          ∙ sym (members_fault-more types known ty span (length members) members i c.each.start member here none)
          ∙ c.each.invariant.left;
      within = omega (arith, ap (λ (layout : TypeLayout). layout.size) c.layout_at.ensures, c.in_default.ensures.within);
    }
