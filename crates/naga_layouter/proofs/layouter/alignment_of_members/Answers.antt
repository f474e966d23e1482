use Rattle.std.proofs.Common.{◌≡◌, ◌+◌, ◌∙◌, Some, None, drop, ap, sym, ℕ}
use Rattle.std.specs.List.{slice_get}
use Rattle.naga_layouter.specs.Layout.{alignment_of_members}
use Rattle.naga_layouter.proofs.LayingLemmas.{here-at, none-past, members-more, members-stop}
use Rattle.naga_layouter.proofs.layouter.alignment_of_members.Goals as goal

pub returns-in-None : goal.returns-in-None
returns-in-None c =
    let known = c.args.known.now in
    let members = c.args.members.now in
    let member = c.index-members-index.result in
    let here : slice_get members c.each.index ≡ Some member = here-at members c.each.index member c.each-test.true c.index-members-index.is in
    let missing : slice_get known member.ty ≡ None =
    ap (slice_get known) (sym c.index.ensures.value) ∙ none-past known c.index.result c.in-None.ensures.lookup.3 in
    sym (members-stop known members c.each.index c.each.alignment member here missing) ∙ c.each.invariant

pub each-preserved : goal.each-preserved
each-preserved c =
    let known = c.args.known.now in
    let members = c.args.members.now in
    let member = c.index-members-index.result in
    let here : slice_get members c.each.index ≡ Some member = here-at members c.each.index member c.each-test.true c.index-members-index.is in
    let layout = c.in-Some.layout.now in
    let found : slice_get known member.ty ≡ Some layout =
    ap (slice_get known) (sym c.index.ensures.value)
    ∙ here-at known c.index.result layout c.in-Some.ensures.lookup.3.0 (c.in-Some.ensures.lookup.3.1 layout) in
    ap (λ (so-far : ℕ). alignment_of_members known (c.each.index + 1) so-far (drop (c.each.index + 1) members)) c.greater-alignment.ensures
    ∙ sym (members-more known members c.each.index c.each.alignment member here c.in-Some.layout.now found)
    ∙ c.each.invariant
