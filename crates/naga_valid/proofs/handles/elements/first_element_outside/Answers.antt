use Rattle.std.proofs.Common.{◌≡◌, ◌∷◌, [], rules, subst}
use Rattle.naga_valid.specs.Limits.{AreWithin, IsWithin}
use Rattle.naga_valid.proofs.IsRestLemmas.{IsRest-end, IsRest-first, IsRest-itself, IsRest-next}
use Rattle.naga_valid.proofs.handles.elements.first_element_outside.Goals as goal

pub loop-handle-init : goal.loop-handle-init
loop-handle-init g c =
    IsRest-itself (λ entry. AreWithin (g.T.Element.limits_for c.args.limits.now entry.0) (g.T.Refers.references entry.1)) _ _ c.into_iter-handle-iterator.ensures.into_iter_gives

pub returns-in-Some-first_outside : goal.returns-in-Some-first_outside
returns-in-Some-first_outside g c =
    let is : c.loop-handle.handle-iterator ≡ (c.in-Some.handle, c.in-Some.element.now) ∷ c.next.new.self = c.in-Some.ensures.steps in
    let outside : IsWithin (g.T.Element.limits_for c.args.limits.now c.in-Some.handle) c.in-Some-first_outside.reference → ⊥ =
    subst (λ i. IsWithin (g.T.Element.limits_for c.args.limits.now i) c.in-Some-first_outside.reference → ⊥) c.index.ensures.value c.in-Some-first_outside.ensures.1
    in (
      c.in-Some.element.now,
      IsRest-first (λ entry. AreWithin (g.T.Element.limits_for c.args.limits.now entry.0) (g.T.Refers.references entry.1)) _ _ _ _ is c.loop-handle.invariant,
      c.in-Some-first_outside.ensures.0,
      outside,
    )

pub loop-handle-preserved : goal.loop-handle-preserved
loop-handle-preserved g c =
    let is : c.loop-handle.handle-iterator ≡ (c.in-Some.handle, c.in-Some.element.now) ∷ c.next.new.self = c.in-Some.ensures.steps in
    IsRest-next (λ entry. AreWithin (g.T.Element.limits_for c.args.limits.now entry.0) (g.T.Refers.references entry.1)) _ _ _ _ is c.loop-handle.invariant
    (subst (λ i. AreWithin (g.T.Element.limits_for c.args.limits.now i) (g.T.Refers.references c.in-Some.element.now)) c.index.ensures.value c.in_default.ensures)

pub returns : goal.returns
returns g c =
    let is : c.loop-handle.handle-iterator ≡ [] = search rules in
    IsRest-end (λ entry. AreWithin (g.T.Element.limits_for c.args.limits.now entry.0) (g.T.Refers.references entry.1)) _ _ is c.loop-handle.invariant
