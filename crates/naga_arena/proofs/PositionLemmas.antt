-- The position of the first value that passes a test.
use Rattle.std.proofs.Common.{◌≡◌, ℕ, ◌<◌, Bool, true, false, ◌||◌, List, [], ◌∷◌, length, get_or, take, position, None, Some, refl, ap, sym, ◌∙◌, arith, true≢false}
use Rattle.std.specs.List.{list_any, position_or_len, slice_get}
use Rattle.std.specs.Prelude.{All}
use Rattle.std.proofs.lemmas.Bool.Decides.{nat_tests}
use Rattle.std.proofs.lemmas.List.{get_or-take, length-take-le}
use Rattle.std.proofs.lemmas.List.Elements.{All-get_or}
use Rattle.std.proofs.lemmas.List.Folds.{list_any_none}
use Rattle.std.proofs.lemmas.List.Sums.{position_or_len_is}
use Rattle.std.proofs.lemmas.Option.{slice_get_within, get_or_from_slice_get}

-- if no element passes, `position_or_len` is the length
pub position_or_len-absent : {T : Type 0} (test : T → Bool) → (xs : List T) → list_any test xs ≡ false → position_or_len test xs ≡ length xs
position_or_len-absent test [] absent = refl
position_or_len-absent test (x ∷ xs) absent = by (test x) refl absent (position_or_len-absent test xs)
  where
    by : (b : Bool) → test x ≡ b → list_any test (x ∷ xs) ≡ false → (list_any test xs ≡ false → position_or_len test xs ≡ length xs) → position_or_len test (x ∷ xs) ≡ length (x ∷ xs)
    by true e none rest = absurd (true≢false (sym (ap (λ c. c || list_any test xs) e) ∙ none))
    by false e none rest = grind (arith, rest (sym (ap (λ c. c || list_any test xs) e) ∙ none))

-- if no element passes, there is no first one
pub position-absent : {T : Type 0} (test : T → Bool) → (xs : List T) → list_any test xs ≡ false → position test xs ≡ None
position-absent test xs absent =
    let all = position_or_len-absent test xs absent in grind (arith, nat_tests)

-- if some element passes, `position_or_len` is below the length
pub position_or_len-present : {T : Type 0} (test : T → Bool) → (xs : List T) → list_any test xs ≡ true → position_or_len test xs < length xs
position_or_len-present test [] present = absurd (true≢false (sym present))
position_or_len-present test (x ∷ xs) present = by (test x) refl present (position_or_len-present test xs)
  where
    by : (b : Bool) → test x ≡ b → list_any test (x ∷ xs) ≡ true → (list_any test xs ≡ true → position_or_len test xs < length xs) → position_or_len test (x ∷ xs) < length (x ∷ xs)
    by true e some rest = grind arith
    by false e some rest = grind (arith, rest (sym (ap (λ c. c || list_any test xs) e) ∙ some))

-- if there is no first element that passes, no element passes
pub list_any-absent : {T : Type 0} (test : T → Bool) → (xs : List T) → position test xs ≡ None → list_any test xs ≡ false
list_any-absent test xs none = by (list_any test xs) refl
  where
    by : (b : Bool) → list_any test xs ≡ b → b ≡ false
    by false e = refl
    by true e = let inside = position_or_len-present test xs e in grind (arith, nat_tests)

pub ruleset finding = (position_or_len-absent, position-absent)

module _ {T : Type 0} (test : T → Bool) (xs : List T) where
  fails_before : (i : ℕ) (d : T) → i < length xs → All (λ y. false ≡ test y) (take i xs) → (k : ℕ) → k < i → test (get_or xs k d) ≡ false
  fails_before i d within before k below =
      let many : length (take i xs) ≡ i = length-take-le i xs (omega arith) in
      let there : false ≡ test (get_or (take i xs) k d) = All-get_or (λ y. false ≡ test y) (take i xs) k d (omega arith) before in
      sym (there ∙ ap test (get_or-take i xs k d below))

  -- the position of the first value that passes a deterministic test
  pub position-first : (i : ℕ) (x : T) → slice_get xs i ≡ Some x → All (λ y. false ≡ test y) (take i xs) → true ≡ test x → position test xs ≡ Some i
  position-first i x at_i before passes =
      let within = slice_get_within xs i x at_i in
      let here : test (get_or xs i x) ≡ true = ap test (get_or_from_slice_get xs i x x at_i) ∙ sym passes in
      let first = position_or_len_is test xs i x (omega arith) (fails_before i x within before) (λ _. here) in
      rw first (grind (arith, nat_tests))

  -- if no value passes, there is no such position
  pub position-none : All (λ y. false ≡ test y) xs → position test xs ≡ None
  position-none fails = position-absent test xs (list_any_none test xs (λ k d within. sym (fails k d within)))
