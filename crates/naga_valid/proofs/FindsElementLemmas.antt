-- The handles of the elements of an arena, each with its index.
use Rattle.std.proofs.Common.{◌≡◌, ◌∙◌, sym, ap, subst, refl, ℕ, ◌<◌, List, get_or, Option, Some, None, zero-add}
use Rattle.std.specs.Prelude.{All, slice_get}
use Rattle.std.specs.List.{Contains, enumerate_from}
use Rattle.std.proofs.lemmas.List.Elements.{All-nil, All-contains}
use Rattle.std.proofs.lemmas.List.FromFn.{get_or-enumerate_from, length-enumerate_from}
use Rattle.std.proofs.lemmas.Option.{slice_get-get_or}
use Rattle.naga_ir.proofs.EnumerateFromLemmas.{All-enumerate_from_at}
use Rattle.naga_valid.specs.Limits.{AreWithin, IsWithin}
use Rattle.naga_valid.specs.Places.{references_found}
use Rattle.naga_valid.proofs.EachIsWithinLemmas.{EachIsWithin, references_at}
use Rattle.naga_valid.specs.declared.limits.Limits.{Limits}
use Rattle.naga_valid.specs.declared.reference.Reference.{Reference}

-- each entry is an index with its element
pub All-slice_get : {X : Type 0} (xs : List X) → All (λ entry. slice_get xs entry.0 ≡ Some entry.1) (enumerate_from 0 xs)
All-slice_get xs k d inside =
    let within = subst (λ n. k < n) (length-enumerate_from 0 xs) inside in
    let place = ap (λ n. (n, get_or xs k d.1)) (zero-add k) in
    subst (λ entry. slice_get xs entry.0 ≡ Some entry.1) (sym (get_or-enumerate_from 0 xs k d within ∙ place)) (slice_get-get_or xs k d.1 within)

module _ {X : Type 0} (P : ℕ → X → Type 0) (xs : List X) (entries : List (ℕ × X)) (is : entries ≡ enumerate_from 0 xs) where
  pub All-at : All (λ entry. P entry.0 entry.1) entries → (index : ℕ) (x : X) → slice_get xs index ≡ Some x → P index x
  All-at all index x found = All-enumerate_from_at (λ entry. P entry.0 entry.1) xs index x found (subst (All (λ entry. P entry.0 entry.1)) is all)

pub Contains-at : {X : Type 0} (xs : List X) (entries : List (ℕ × X)) → entries ≡ enumerate_from 0 xs → (index : ℕ) (x : X) → Contains entries (index, x) → slice_get xs index ≡ Some x
Contains-at xs entries is index x inside =
    All-contains (λ entry. slice_get xs entry.0 ≡ Some entry.1) (enumerate_from 0 xs) (index, x) (All-slice_get xs) (subst (λ ys. Contains ys (index, x)) is inside)

module _ {X : Type 0} (references : X → List Reference) (limits : ℕ → Limits) (xs : List X) (entries : List (ℕ × X)) (is : entries ≡ enumerate_from 0 xs) where
  pub FindsElement-none : All (λ entry. AreWithin (limits entry.0) (references entry.1)) entries → EachIsWithin references limits xs
  FindsElement-none all index = by_element (slice_get xs index) refl
    where
      by_element : (element : Option X) → slice_get xs index ≡ element → AreWithin (limits index) (references_found references element)
      by_element None found = All-nil (IsWithin (limits index))
      by_element (Some x) found = All-at (λ k y. AreWithin (limits k) (references y)) xs entries is all index x found

  pub FindsElement-some : (index : ℕ) (reference : Reference) → (element : X) × Contains entries (index, element) × Contains (references element) reference × ¬ IsWithin (limits index) reference → Contains (references_at references xs index) reference × ¬ IsWithin (limits index) reference
  FindsElement-some index reference found =
      (subst (λ element. Contains (references_found references element) reference) (sym (Contains-at xs entries is index found.0 found.1)) found.2, found.3)

-- the limits are those of a module
module _ {X : Type 0} (references : X → List Reference) (limits_for : Limits → ℕ → Limits) (xs : List X) (entries : List (ℕ × X)) (is : entries ≡ enumerate_from 0 xs) (limits bounds : Limits) (same : limits ≡ bounds) where
  pub FindsElement-none_at : All (λ entry. AreWithin (limits_for limits entry.0) (references entry.1)) entries → EachIsWithin references (limits_for bounds) xs
  FindsElement-none_at all = subst (λ b. EachIsWithin references (limits_for b) xs) same (FindsElement-none references (limits_for limits) xs entries is all)

  pub FindsElement-some_at : (index : ℕ) (reference : Reference) → (element : X) × Contains entries (index, element) × Contains (references element) reference × ¬ IsWithin (limits_for limits index) reference → Contains (references_at references xs index) reference × ¬ IsWithin (limits_for bounds index) reference
  FindsElement-some_at index reference found =
      subst (λ b. Contains (references_at references xs index) reference × ¬ IsWithin (limits_for b index) reference) same (FindsElement-some references (limits_for limits) xs entries is index reference found)
