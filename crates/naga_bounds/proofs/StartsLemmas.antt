-- Where what is in the places of expressions begins.
use Rattle.std.proofs.Common.{◌≡◌, ◌∙◌, ap, arith, refl, sym, inl, inr, Bool, true, false, ℕ, zero, suc, ◌+◌, ◌<◌, ◌≤◌, List, [], ◌∷◌, ◌++◌, get_or, length, min, take}
use Rattle.std.proofs.lemmas.Bool.{cases_lt}
use Rattle.std.proofs.lemmas.List.{get_or_append_left, get_or_push, take_all, take_min}
use Rattle.std.proofs.lemmas.List.Sums.{sum_by-cons, sum_by-take-le, sum_by_more}
use Rattle.std.proofs.lemmas.Bool.Decides.{nat_tests}
use Rattle.std.specs.List.{sum_by}
use Rattle.std.specs.Prelude.{nat_lt}
use Rattle.naga_bounds.specs.Plans.{AreStarts}
use Rattle.naga_bounds.specs.Restricted.{front_len, new_len, new_of, start_of, width}
use Rattle.naga_bounds.specs.declared.change.Change.{Change}

-- one more number of a table of a function
pub table-push : (f : ℕ → ℕ) (xs ys : List ℕ) (count next : ℕ) → length xs ≡ count
    → ((index : ℕ) → index < count → get_or xs index 0 ≡ f index) → next ≡ f count → ys ≡ xs ++ next ∷ []
    → (index : ℕ) → index < count + 1 → get_or ys index 0 ≡ f index
table-push f xs ys count next len stand following is index within = elim (cases_lt index count) [
  | inl lt ↦
      let inside : index < length xs = omega (arith, len, lt) in
      ap (λ zs. get_or zs index 0) is ∙ (get_or_append_left xs (next ∷ []) 0 index inside ∙ stand index lt)
  | inr ge ↦
      let here : index ≡ count = omega (arith, ge, within) in
      ap (λ zs. get_or zs index 0) is ∙ (get_or_push xs next 0 index (len ∙ sym here) ∙ (following ∙ ap f (sym here)))
]

-- more terms have a greater sum, if none is 0
sum_by-take-more : {X : Type 0} (f : X → ℕ) → ((x : X) → 1 ≤ f x) → (xs : List X) (i j : ℕ) → i < j → j ≤ length xs
    → sum_by f (take i xs) < sum_by f (take j xs)
sum_by-take-more f some [] i zero less within = absurd (omega (arith, less))
sum_by-take-more f some [] i (suc j) less within = absurd (omega (arith, within))
sum_by-take-more f some (x ∷ xs) i zero less within = absurd (omega (arith, less))
sum_by-take-more f some (x ∷ xs) zero (suc j) less within =
    let none : sum_by f (take zero (x ∷ xs)) ≡ 0 = refl in
    let more : sum_by f (take (suc j) (x ∷ xs)) ≡ f x + sum_by f (take j xs) = sum_by-cons f x (take j xs) in
    omega (arith, none, more, some x)
sum_by-take-more f some (x ∷ xs) (suc i) (suc j) less within =
    let rest = sum_by-take-more f some xs i j (omega (arith, less)) (omega (arith, within)) in
    let few : sum_by f (take (suc i) (x ∷ xs)) ≡ f x + sum_by f (take i xs) = sum_by-cons f x (take i xs) in
    let more : sum_by f (take (suc j) (x ∷ xs)) ≡ f x + sum_by f (take j xs) = sum_by-cons f x (take j xs) in
    omega (arith, few, more, rest)

module _ (changes : List Change) where
  pub start_of-min : (index : ℕ) → start_of changes (min index (length changes)) ≡ start_of changes index
  start_of-min index = ap (λ some. front_len changes + sum_by width some) (take_min index changes)

  pub start_of-next : (index : ℕ) (change : Change) → index < length changes → change ≡ get_or changes index change
      → start_of changes (index + 1) ≡ start_of changes index + width change
  start_of-next index change within is =
      let more = sum_by_more width changes index change within in
      let same : width (get_or changes index change) ≡ width change = ap width (sym is) in
      omega (arith, more, same)

  pub start_of-le : (index : ℕ) → start_of changes index ≤ new_len changes
  start_of-le index = let part = sum_by-take-le width changes index in omega (arith, part)

  pub start_of-all : (index : ℕ) → length changes ≤ index → start_of changes index ≡ new_len changes
  start_of-all index past = ap (λ some. front_len changes + sum_by width some) (take_all index changes past)

  -- a start comes after all before it, since each expression has a place
  start_of-after : (index other : ℕ) → index < other → other ≤ length changes → start_of changes index < start_of changes other
  start_of-after index other before within =
      let more = sum_by-take-more width (λ change. omega arith) changes index other before within in omega (arith, more)

  -- different expressions have different new handles
  pub new_of-injective : (a b : ℕ) → nat_lt a (length changes) ≡ true → nat_lt b (length changes) ≡ true
      → new_of changes a ≡ new_of changes b → a ≡ b
  new_of-injective a b here there same = go (nat_lt a b) (nat_lt b a) refl refl
    where
      go : (less more : Bool) → nat_lt a b ≡ less → nat_lt b a ≡ more → a ≡ b
      go true more test other =
          let apart = start_of-after (a + 1) (b + 1) (grind (arith, nat_tests)) (grind (arith, nat_tests)) in
          let some = start_of-after 0 (a + 1) (omega arith) (grind (arith, nat_tests)) in
          absurd (omega (arith, apart, some, same))
      go false true test other =
          let apart = start_of-after (b + 1) (a + 1) (grind (arith, nat_tests)) (grind (arith, nat_tests)) in
          let some = start_of-after 0 (b + 1) (omega arith) (grind (arith, nat_tests)) in
          absurd (omega (arith, apart, some, same))
      go false false test other = grind (arith, nat_tests)

-- what is read from the table, where the position is the number up to the end
pub starts-read : (changes : List Change) (starts : List ℕ) (number position : ℕ) → AreStarts changes starts
    → (number ≤ length changes → position ≡ number) → (length changes ≤ number → position ≡ length changes)
    → get_or starts position 0 ≡ start_of changes number
starts-read changes starts number position are within past = elim (cases_lt (length changes) number) [
  | inl lt ↦
      ap (λ n. get_or starts n 0) (past (omega (arith, lt)))
      ∙ (are.each (length changes) (omega arith)
      ∙ (start_of-all changes (length changes) (omega arith) ∙ sym (start_of-all changes number (omega (arith, lt)))))
  | inr ge ↦ ap (λ n. get_or starts n 0) (within ge) ∙ are.each number ge
]
