-- What holds of all elements of a list, because the handles of each are within its limits.
use Rattle.std.proofs.Common.{◌≡◌, ◌∙◌, sym, ap, subst, ℕ, ◌<◌, List, length, get_or, Some, zero-add}
use Rattle.std.specs.Prelude.{All, slice_get}
use Rattle.std.specs.List.{enumerate_from}
use Rattle.std.proofs.lemmas.List.FromFn.{get_or-enumerate_from, length-enumerate_from}
use Rattle.std.proofs.lemmas.Option.{slice_get-get_or}
use Rattle.naga_valid.specs.Limits.{AreWithin}
use Rattle.naga_valid.specs.Places.{references_found}
use Rattle.naga_valid.specs.declared.limits.Limits.{Limits}
use Rattle.naga_valid.specs.declared.reference.Reference.{Reference}

-- what the element with this index contains
abbrev pub references_at : {X : Type 0} → (X → List Reference) → List X → ℕ → List Reference
references_at references elements index = references_found references (slice_get elements index)

-- each element contains only handles that are within the limits for its index
abbrev pub EachIsWithin : {X : Type 0} → (X → List Reference) → (ℕ → Limits) → List X → Type 0
EachIsWithin references limits elements = (index : ℕ) → AreWithin (limits index) (references_at references elements index)

module _ {X : Type 0} (references : X → List Reference) (limits : ℕ → Limits) (xs : List X) (each : EachIsWithin references limits xs) where
  pub EachIsWithin-at : (index : ℕ) (x : X) → slice_get xs index ≡ Some x → AreWithin (limits index) (references x)
  EachIsWithin-at index x found = subst (λ o. AreWithin (limits index) (references_found references o)) found (each index)

  pub EachIsWithin-All : (P : X → Type 0) → ((index : ℕ) (x : X) → AreWithin (limits index) (references x) → P x) → All P xs
  EachIsWithin-All P step = λ k d within.
      step k (get_or xs k d) (EachIsWithin-at k (get_or xs k d) (slice_get-get_or xs k d within))

  pub EachIsWithin-enumerate_from : (P : ℕ × X → Type 0) → ((index : ℕ) (x : X) → AreWithin (limits index) (references x) → P (index, x)) → All P (enumerate_from 0 xs)
  EachIsWithin-enumerate_from P step = λ k d within.
      let inside : k < length xs = subst (λ n. k < n) (length-enumerate_from 0 xs) within in
      let x = get_or xs k d.1 in
      let entry : get_or (enumerate_from 0 xs) k d ≡ (k, x) = get_or-enumerate_from 0 xs k d inside ∙ ap (λ n. (n, x)) (zero-add k) in
      subst P (sym entry) (step k x (EachIsWithin-at k x (slice_get-get_or xs k d.1 inside)))
