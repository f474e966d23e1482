-- What is made of each item, one item at a time.
use Rattle.std.proofs.Common.{◌≡◌, ℕ, zero, suc, ◌+◌, ◌<◌, List, [], ◌∷◌, ◌++◌, Some, All, get_or, length, map, refl, ap, sym, ◌∙◌, add-one, arith, take, append_assoc, append-nil}
use Rattle.std.specs.List.{slice_get}
use Rattle.std.proofs.lemmas.List.{map-append}
use Rattle.std.proofs.lemmas.List.Elements.{All-append, All-nil}
use Rattle.std.proofs.lemmas.Option.{slice_get-get_or}
use Rattle.naga_namer.specs.Declarations.{each}

-- the item at an index
pub found-at : {X : Type 0} (xs : List X) (i : ℕ) (x : X) → i < length xs → x ≡ get_or xs i x → slice_get xs i ≡ Some x
found-at xs i x within is = slice_get-get_or xs i x within ∙ ap Some (sym is)

module _ {A B : Type 0} (make : ℕ → A → List B) where
  each-more : (start : ℕ) (xs : List A) (i : ℕ) (x : A) → slice_get xs i ≡ Some x
      → each make start (take (suc i) xs) ≡ each make start (take i xs) ++ make (start + i) x
  each-more start [] zero x found = cc
  each-more start [] (suc i) x found = cc
  each-more start (y ∷ ys) zero x found =
      let same : y ≡ x = cc in
      let at : start ≡ start + 0 = omega arith in
      append-nil (make start y) ∙ ap (make start) same ∙ ap (λ (k : ℕ). make k x) at
  each-more start (y ∷ ys) (suc i) x found =
      let at : start + 1 + i ≡ start + suc i = omega arith in
      ap (λ (rest : List B). make start y ++ rest) (each-more (start + 1) ys i x found ∙ ap (λ (k : ℕ). each make (start + 1) (take i ys) ++ make k x) at)
      ∙ sym (append_assoc (make start y) (each make (start + 1) (take i ys)) (make (start + suc i) x))

  -- what is made of the items before an index and at it
  pub each-turn : (xs : List A) (i : ℕ) (x : A) → slice_get xs i ≡ Some x
      → each make 0 (take (i + 1) xs) ≡ each make 0 (take i xs) ++ make i x
  each-turn xs i x found =
      let at : 0 + i ≡ i = omega arith in
      ap (λ (k : ℕ). each make 0 (take k xs)) (add-one i) ∙ each-more 0 xs i x found
      ∙ ap (λ (k : ℕ). each make 0 (take i xs) ++ make k x) at

  -- a property that all have that is made of an item
  pub each-all : (P : B → Type 0) → ((i : ℕ) (x : A) → All P (make i x)) → (start : ℕ) (xs : List A) → All P (each make start xs)
  each-all P has start [] = All-nil P
  each-all P has start (x ∷ xs) = All-append P (make start x) (each make (start + 1) xs) (has start x) (each-all P has (start + 1) xs)

-- a part of what is made
pub each-map : {A B C : Type 0} (part : B → C) (make : ℕ → A → List B) (other : ℕ → A → List C)
    → ((i : ℕ) (x : A) → map part (make i x) ≡ other i x) → (start : ℕ) (xs : List A)
    → map part (each make start xs) ≡ each other start xs
each-map part make other same start [] = refl
each-map {A} {B} {C} part make other same start (x ∷ xs) =
    map-append part (make start x) (each make (start + 1) xs)
    ∙ ap (λ (made : List C). made ++ map part (each make (start + 1) xs)) (same start x)
    ∙ ap (λ (rest : List C). other start x ++ rest) (each-map part make other same (start + 1) xs)
