use Rattle.std.proofs.Common.{◌≡◌, ◌∷◌, [], IsTrue, map, rules, subst, sym}
use Rattle.std.specs.List.{Contains}
use Rattle.std.proofs.lemmas.List.Elements.{All-map}
use Rattle.indexmap.specs.IndexMap.{values}
use Rattle.naga_valid.specs.Limits.{IsWithin}
use Rattle.naga_valid.proofs.ContainsLemmas.{Contains-map}
use Rattle.naga_valid.proofs.IsRestLemmas.{IsRest-end, IsRest-first, IsRest-itself, IsRest-next}
use Rattle.naga_valid.proofs.handles.lists.first_value_outside.Goals as goal

pub loop-value-init : goal.loop-value-init
loop-value-init g c = IsRest-itself (λ value. IsWithin c.args.limits.now (g.V.HasReference.reference value)) _ _ (search rules)

pub returns-then-not-allow : goal.returns-then-not-allow
returns-then-not-allow g c =
    let is : c.loop-value.value-iterator ≡ c.in-Some.value.now ∷ c.next.new.self = c.in-Some.ensures.steps in
    let inside = IsRest-first (λ value. IsWithin c.args.limits.now (g.V.HasReference.reference value)) _ _ _ _ is c.loop-value.invariant in
    let refused : IsTrue c.allow.result → ⊥ = search rules in (
      subst (λ reference. Contains (map g.V.HasReference.reference (values c.args.entries.now)) reference) (sym c.reference-reference.ensures) (Contains-map g.V.HasReference.reference (values c.args.entries.now) c.in-Some.value.now inside),
      λ within. refused (c.allow.ensures.1 within),
    )

pub loop-value-preserved : goal.loop-value-preserved
loop-value-preserved g c =
    let is : c.loop-value.value-iterator ≡ c.in-Some.value.now ∷ c.next.new.self = c.in-Some.ensures.steps in
    let within : IsWithin c.args.limits.now c.reference-reference.result = c.allow.ensures.0 (search rules) in
    IsRest-next (λ value. IsWithin c.args.limits.now (g.V.HasReference.reference value)) _ _ _ _ is c.loop-value.invariant (subst (IsWithin c.args.limits.now) c.reference-reference.ensures within)

pub returns : goal.returns
returns g c =
    let is : c.loop-value.value-iterator ≡ [] = search rules in
    All-map (IsWithin c.args.limits.now) g.V.HasReference.reference (values c.args.entries.now) (IsRest-end (λ value. IsWithin c.args.limits.now (g.V.HasReference.reference value)) _ _ is c.loop-value.invariant)
