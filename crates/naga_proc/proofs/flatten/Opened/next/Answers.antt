use Rattle.std.proofs.Common.{◌≡◌, [], ◌∷◌, rules}
use Rattle.std.proofs.lemmas.List.{nil_from_length}
use Rattle.naga_proc.specs.Flatten.{parts}
use Rattle.naga_proc.proofs.Flattening.AreLevelsLemmas.{Gave-inner, Gave-middle, Gave-outer, Left-opened_middle, Left-opened_outer}
use Rattle.naga_proc.proofs.flatten.Opened.next.Goals as goal

pub invariant_of-self : goal.invariant_of-self
invariant_of-self c =
    let some : c.open.self-inside.inner.now ≡ c.in-Some.first.now ∷ c.in-Some.rest.now = search rules in
    (Gave-inner _ _ _ _ _ _ _ some c.open.invariant).levels

pub open-preserved-in-Some-components_at : goal.open-preserved-in-Some-components_at
open-preserved-in-Some-components_at c =
    let none : c.open.self-inside.inner.now ≡ [] = nil_from_length _ (search rules) in
    let some : c.open.self-inside.middle.now ≡ c.in-Some-split_first.first.now ∷ c.in-Some-split_first.rest.now = search rules in
    let is : parts c.open.self-inside.expressions.now c.in-Some-split_first.first.now ≡ c.in-Some-components_at.components.now = search rules in
    Left-opened_middle _ _ _ _ _ _ _ _ none some is c.open.invariant

pub invariant_of-self-in-None : goal.invariant_of-self-in-None
invariant_of-self-in-None c =
    let none : c.open.self-inside.inner.now ≡ [] = nil_from_length _ (search rules) in
    let some : c.open.self-inside.middle.now ≡ c.in-Some-split_first.first.now ∷ c.in-Some-split_first.rest.now = search rules in
    let is : parts c.open.self-inside.expressions.now c.in-Some-split_first.first.now ≡ c.in-Some-split_first.first.now ∷ [] = search rules in
    (Gave-middle _ _ _ _ _ _ _ none some is c.open.invariant).levels

pub open-preserved : goal.open-preserved
open-preserved c =
    let none : c.open.self-inside.inner.now ≡ [] = nil_from_length _ (search rules) in
    let also_none : c.open.self-inside.middle.now ≡ [] = nil_from_length _ (search rules) in
    let some : c.open.self-inside.outer.now ≡ c.in_ok-first.first.now ∷ c.in_ok-first.rest.now = search rules in
    let is : parts c.open.self-inside.expressions.now c.in_ok-first.first.now ≡ c.in-Some-components_at-2.components.now = search rules in
    Left-opened_outer _ _ _ _ _ _ _ _ none also_none some is c.open.invariant

pub invariant_of-self-in-None-components_at : goal.invariant_of-self-in-None-components_at
invariant_of-self-in-None-components_at c =
    let none : c.open.self-inside.inner.now ≡ [] = nil_from_length _ (search rules) in
    let also_none : c.open.self-inside.middle.now ≡ [] = nil_from_length _ (search rules) in
    let some : c.open.self-inside.outer.now ≡ c.in_ok-first.first.now ∷ c.in_ok-first.rest.now = search rules in
    let is : parts c.open.self-inside.expressions.now c.in_ok-first.first.now ≡ c.in_ok-first.first.now ∷ [] = search rules in
    (Gave-outer _ _ _ _ _ _ _ none also_none some is c.open.invariant).levels
