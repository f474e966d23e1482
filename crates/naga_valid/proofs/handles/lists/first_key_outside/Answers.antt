use Rattle.std.proofs.Common.{◌≡◌, ◌∷◌, [], IsTrue, map, rules, subst, sym}
use Rattle.std.specs.List.{Contains}
use Rattle.std.proofs.lemmas.List.Elements.{All-map}
use Rattle.indexmap.specs.IndexMap.{keys}
use Rattle.naga_valid.specs.Limits.{IsWithin}
use Rattle.naga_valid.proofs.ContainsLemmas.{Contains-map}
use Rattle.naga_valid.proofs.IsRestLemmas.{IsRest-end, IsRest-first, IsRest-itself, IsRest-next}
use Rattle.naga_valid.proofs.handles.lists.first_key_outside.Goals as goal

pub loop-key-init : goal.loop-key-init
loop-key-init g c = IsRest-itself (λ key. IsWithin c.args.limits.now (g.K.HasReference.reference key)) _ _ (search rules)

pub returns-then-not-allow : goal.returns-then-not-allow
returns-then-not-allow g c =
    let is : c.loop-key.key-iterator ≡ c.in-Some.key.now ∷ c.next.new.self = c.in-Some.ensures.steps in
    let inside = IsRest-first (λ key. IsWithin c.args.limits.now (g.K.HasReference.reference key)) _ _ _ _ is c.loop-key.invariant in
    let refused : IsTrue c.allow.result → ⊥ = search rules in (
      subst (λ reference. Contains (map g.K.HasReference.reference (keys c.args.entries.now)) reference) (sym c.reference-reference.ensures) (Contains-map g.K.HasReference.reference (keys c.args.entries.now) c.in-Some.key.now inside),
      λ within. refused (c.allow.ensures.1 within),
    )

pub loop-key-preserved : goal.loop-key-preserved
loop-key-preserved g c =
    let is : c.loop-key.key-iterator ≡ c.in-Some.key.now ∷ c.next.new.self = c.in-Some.ensures.steps in
    let within : IsWithin c.args.limits.now c.reference-reference.result = c.allow.ensures.0 (search rules) in
    IsRest-next (λ key. IsWithin c.args.limits.now (g.K.HasReference.reference key)) _ _ _ _ is c.loop-key.invariant (subst (IsWithin c.args.limits.now) c.reference-reference.ensures within)

pub returns : goal.returns
returns g c =
    let is : c.loop-key.key-iterator ≡ [] = search rules in
    All-map (IsWithin c.args.limits.now) g.K.HasReference.reference (keys c.args.entries.now) (IsRest-end (λ key. IsWithin c.args.limits.now (g.K.HasReference.reference key)) _ _ is c.loop-key.invariant)
