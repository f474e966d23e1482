-- Tests of the values that an iterator over an arena has yielded.
use Rattle.std.proofs.Common.{◌≡◌, ◌∙◌, ℕ, ◌+◌, ◌||◌, Bool, true, List, [], ◌∷◌, ◌++◌, length, map, Option, None, Some, refl, sym, ap}
use Rattle.std.specs.List.{list_any, enumerate_from}
use Rattle.std.specs.Borrow.{Bor}
use Rattle.std.specs.Iterator.{Yields, YieldsFirstBy}
use Rattle.std.proofs.Math.Bool.{or-false}
use Rattle.std.proofs.lemmas.Iterator.Consumers.{YieldsList-end, YieldsList-from_first, YieldsList-turn}
use Rattle.std.proofs.lemmas.List.Folds.{list_any-append, list_any_at}

-- with one more element at the end, some element passes the test if and only if some earlier element or the new one
-- passes
pub list_any-push : {X : Type 0} (test : X → Bool) (xs : List X) (x : X) → list_any test (xs ++ x ∷ []) ≡ (list_any test xs || test x)
list_any-push test xs x = list_any-append test xs (x ∷ []) ∙ ap (λ b. list_any test xs || b) (or-false (test x))

list_any-map : {X Y : Type 0} (test : Y → Bool) (read : X → Y) (xs : List X) → list_any (λ x. test (read x)) xs ≡ list_any test (map read xs)
list_any-map test read [] = refl
list_any-map test read (x ∷ xs) = ap (λ b. test (read x) || b) (list_any-map test read xs)

-- some value with its handle passes a test of the value if and only if some value passes it
list_any-enumerate_from : {X : Type 0} (test : X → Bool) (first : ℕ) (xs : List X) → list_any (λ entry. test entry.1) (enumerate_from first xs) ≡ list_any test xs
list_any-enumerate_from test first [] = refl
list_any-enumerate_from test first (x ∷ xs) = ap (λ b. test x || b) (list_any-enumerate_from test (first + 1) xs)

module _ {T : Type 0} where
  abbrev read : ℕ × Bor T → ℕ × T
  read item = (item.0, item.1.now)

  abbrev steps : List (ℕ × T) → Option (ℕ × Bor T) → List (ℕ × T) → Type 0
  steps = YieldsFirstBy read (λ rest. rest)

  module _ (test : T → Bool) (xs : List T) (s t u : List (ℕ × T)) (from : s ≡ enumerate_from 0 xs) (yielded : List (ℕ × Bor T)) (gave : Yields steps s yielded t) (given : Option (ℕ × Bor T)) (step : steps t given u) where
    -- some value passes the test if the element that the iterator yields now passes it
    pub list_any-found : (item : ℕ × Bor T) → given ≡ Some item → test item.1.now ≡ true → list_any test xs ≡ true
    list_any-found item is passes =
        let turn = YieldsList-turn (YieldsList-from_first read (λ rest. rest) (enumerate_from 0 xs) from) yielded t gave given u item is step in
        sym (list_any-enumerate_from test 0 xs) ∙ list_any_at (λ entry. test entry.1) (enumerate_from 0 xs) (length yielded) (read item) turn.0 (ap (λ entry. test entry.1) (sym turn.1) ∙ passes)

    -- at the end of the iteration, some yielded element passes the test if and only if some value passes it
    pub list_any-walked : given ≡ None → list_any (λ item. test item.1.now) yielded ≡ list_any test xs
    list_any-walked is =
        let whole = YieldsList-end (YieldsList-from_first read (λ rest. rest) (enumerate_from 0 xs) from) yielded t gave given u is step in
        list_any-map (λ entry. test entry.1) read yielded ∙ ap (list_any (λ entry. test entry.1)) whole.0 ∙ list_any-enumerate_from test 0 xs
