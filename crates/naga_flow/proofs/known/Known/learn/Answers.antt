use Rattle.std.proofs.Common.{◌≡◌, ◌≢◌, ◌∙◌, ℕ, ap, false, subst, sym, true}
use Rattle.naga_flow.specs.Tracking.{Learns, is_in_scope, seen_by, state_at}
use Rattle.naga_flow.proofs.TracksLemmas.{Learns-new, Learns-old, Tracks-learned}
use Rattle.naga_flow.proofs.known.Known.learn.Goals as goal

pub returns-then-is_in_scope : goal.returns-then-is_in_scope
returns-then-is_in_scope c =
    let there : is_in_scope (state_at c.self.inside.states.items c.args.handle) ≡ true =
    sym (c.is_in_scope.ensures ∙ ap is_in_scope (c.state_at.ensures ∙ ap (λ xs. state_at xs c.args.handle) c.as_slice.ensures.value)) ∙ c.if-is_in_scope.true in
    subst (λ old. Learns old c.args.handle false c.args.self.now) c.self.view_is
    (Learns-old c.self.inside.states.items c.self.inside.order.items c.args.handle c.self.invariant there)

pub invariant_of-self-2 : goal.invariant_of-self-2
invariant_of-self-2 c =
    let new : is_in_scope (state_at c.self.inside.states.items c.args.handle) ≡ false =
    sym (c.is_in_scope.ensures ∙ ap is_in_scope (c.state_at.ensures ∙ ap (λ xs. state_at xs c.args.handle) c.as_slice.ensures.value)) ∙ c.if-is_in_scope.false in
    let others : (x : ℕ) → x ≢ c.args.handle → state_at c.put.new.states.items x ≡ state_at c.self.inside.states.items x =
    λ x differs. c.put.ensures.others x differs ∙ c.lengthen.ensures.same x in
    Tracks-learned c.self.inside.states.items c.self.inside.order.items c.args.handle c.self.invariant new c.put.new.states.items c.put.ensures.here others c.push.new.self.items c.in_ok-push.ensures.items

pub returns : goal.returns
returns c =
    let new : is_in_scope (state_at c.self.inside.states.items c.args.handle) ≡ false =
    sym (c.is_in_scope.ensures ∙ ap is_in_scope (c.state_at.ensures ∙ ap (λ xs. state_at xs c.args.handle) c.as_slice.ensures.value)) ∙ c.if-is_in_scope.false in
    let others : (x : ℕ) → x ≢ c.args.handle → state_at c.put.new.states.items x ≡ state_at c.self.inside.states.items x =
    λ x differs. c.put.ensures.others x differs ∙ c.lengthen.ensures.same x in
    subst (λ old. Learns old c.args.handle true (seen_by c.put.new.states.items c.push.new.self.items)) c.self.view_is
    (Learns-new c.self.inside.states.items c.self.inside.order.items c.args.handle c.self.invariant new c.put.new.states.items c.put.ensures.here others c.push.new.self.items c.in_ok-push.ensures.items)
