use Rattle.std.proofs.Common.{None, Some, subst}
use Rattle.std.proofs.lemmas.List.Elements.{All-nil}
use Rattle.naga_flow.specs.Chains.{IsLink}
use Rattle.naga_flow.specs.Tracking.{known_of}
use Rattle.naga_flow.specs.Uses.{IsKnown, expressions_in}
use Rattle.naga_flow.specs.declared.chains.Link.TheVariants.{Place}
use Rattle.naga_flow.proofs.ChainsLemmas.{place-finds}
use Rattle.naga_flow.proofs.reading.unread_of_chain.Goals as goal

pub returns-in-None : goal.returns-in-None
returns-in-None c =
    let arena = c.args.expressions.now in
    let known = known_of c.args.known.now in
    let link : IsLink arena c.args.handle (Place None) =
    subst (λ first. IsLink arena c.args.handle (Place first)) c.in-None.is (subst (IsLink arena c.args.handle) c.in-Place.is c.link.ensures) in
    place-finds arena known c.args.handle None None link.0 link.1 (All-nil (IsKnown (expressions_in arena) known))

pub returns-in-Some : goal.returns-in-Some
returns-in-Some c =
    let arena = c.args.expressions.now in
    let link : IsLink arena c.args.handle (Place (Some c.in-Some.first)) =
    subst (λ first. IsLink arena c.args.handle (Place first)) c.in-Some.is (subst (IsLink arena c.args.handle) c.in-Place.is c.link.ensures) in
    place-finds arena (known_of c.args.known.now) c.args.handle (Some c.in-Some.first) c.unread_index.result link.0 link.1 c.unread_index.ensures
