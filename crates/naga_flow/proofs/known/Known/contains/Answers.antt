use Rattle.std.proofs.Common.{◌∙◌, IsTrue, ap, subst}
use Rattle.std.specs.List.{Contains}
use Rattle.naga_flow.specs.Tracking.{is_known, known_of, state_at}
use Rattle.naga_flow.proofs.TracksLemmas.{Tracks-contains}
use Rattle.naga_flow.proofs.known.Known.contains.Goals as goal

pub returns : goal.returns
returns c =
    subst (λ all. (IsTrue c.is_known.result → Contains (known_of all) c.args.handle) × (Contains (known_of all) c.args.handle → IsTrue c.is_known.result)) c.self.view_is
    (Tracks-contains c.self.inside.states.items c.self.inside.order.items c.args.handle c.is_known.result c.self.invariant
    (c.is_known.ensures ∙ ap is_known (c.state_at.ensures ∙ ap (λ xs. state_at xs c.args.handle) c.as_slice.ensures.value)))
