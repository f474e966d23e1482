-- The numbers of a range that pass a test.
use Rattle.std.proofs.Common.{◌≡◌, ◌≢◌, ℕ, zero, suc, ◌+◌, ◌<◌, ◌≤◌, Bool, true, false, cond, ◌||◌, ◌&&◌, List, [], ◌∷◌, ◌++◌, length, refl, sym, ap, ◌∙◌, inl, inr, arith}
use Rattle.std.proofs.Math.Bool.{or-false, and-false, and-true}
use Rattle.std.proofs.lemmas.Bool.{cases_eq, cases_lt}
use Rattle.std.proofs.lemmas.Bool.Decides.{nat_tests}
use Rattle.std.proofs.lemmas.List.Elements.{filter-append}
use Rattle.std.proofs.lemmas.List.FromFn.{length-range_with_len, get_or-range_with_len}
use Rattle.std.specs.Cmp.{nat_cmp_total}
use Rattle.std.specs.FinSet.{contains, len, from_list, len-empty, len-insert, contains-from_list_nat}
use Rattle.std.specs.List.{filter, range_with_len, list_any}
use Rattle.std.specs.List.Sorted.{IsStrictlyIncreasing}
use Rattle.std.specs.Ordering.{nat_cmp}
use Rattle.std.specs.Prelude.{nat_eq}

-- a range of `m + n` numbers is a range of `m` numbers, followed by one of `n` numbers
range_with_len-add : (first m n : ℕ) → range_with_len first (m + n) ≡ range_with_len first m ++ range_with_len (first + m) n
range_with_len-add first zero n =
    let left : zero + n ≡ n = omega arith in
    let start : first ≡ first + zero = omega arith in
    ap (range_with_len first) left ∙ ap (λ k. range_with_len k n) start
range_with_len-add first (suc m) n =
    let left : suc m + n ≡ suc (m + n) = omega arith in
    let start : first + 1 + m ≡ first + suc m = omega arith in
    ap (range_with_len first) left ∙ ap (λ xs. first ∷ xs) (range_with_len-add (first + 1) m n ∙ ap (λ k. range_with_len (first + 1) m ++ range_with_len k n) start)

-- if two tests agree on a range, the same numbers of it pass
filter-agree : (p q : ℕ → Bool) (first n : ℕ) → ((k : ℕ) → first ≤ k → k < first + n → p k ≡ q k) → filter p (range_with_len first n) ≡ filter q (range_with_len first n)
filter-agree p q first zero agree = refl
filter-agree p q first (suc n) agree =
    let rest = range_with_len (first + 1) n in
    ap (λ b. cond b (first ∷ filter p rest) (filter p rest)) (agree first (omega arith) (omega arith))
    ∙ ap (λ xs. cond (q first) (first ∷ xs) xs) (filter-agree p q (first + 1) n (λ k low high. agree k (omega arith) (omega arith)))

-- if no number of a range passes, filtering it returns the empty list
filter-none : (p : ℕ → Bool) (first n : ℕ) → ((k : ℕ) → first ≤ k → k < first + n → p k ≡ false) → filter p (range_with_len first n) ≡ []
filter-none p first zero none = refl
filter-none p first (suc n) none =
    let rest = range_with_len (first + 1) n in
    ap (λ b. cond b (first ∷ filter p rest) (filter p rest)) (none first (omega arith) (omega arith))
    ∙ filter-none p (first + 1) n (λ k low high. none k (omega arith) (omega arith))

-- if none of the first `m` numbers passes `p`, and `q` agrees with `p` on the later ones, then filtering all of them by
-- `p` is filtering the later ones by `q`
pub filter-skip : (p q : ℕ → Bool) (first m n : ℕ) → ((k : ℕ) → first ≤ k → k < first + m → p k ≡ false) → ((k : ℕ) → first + m ≤ k → p k ≡ q k)
    → filter p (range_with_len first (m + n)) ≡ filter q (range_with_len (first + m) n)
filter-skip p q first m n none agree =
    ap (filter p) (range_with_len-add first m n)
    ∙ filter-append p (range_with_len first m) (range_with_len (first + m) n)
    ∙ ap (λ xs. xs ++ filter p (range_with_len (first + m) n)) (filter-none p first m none)
    ∙ filter-agree p q (first + m) n (λ k low high. agree k low)

-- if `t` is the first number that passes `p`, and `q` agrees with `p` except that `t` does not pass it, then the
-- numbers that pass `p` are `t` and those that pass `q`
pub filter-first : (p q : ℕ → Bool) (first n t : ℕ) → first ≤ t → t < first + n → p t ≡ true → q t ≡ false
    → ((k : ℕ) → first ≤ k → k < t → p k ≡ false) → ((k : ℕ) → first ≤ k → k ≢ t → q k ≡ p k)
    → filter p (range_with_len first n) ≡ t ∷ filter q (range_with_len first n)
filter-first p q first zero t low high passes fails before same = absurd (omega arith)
filter-first p q first (suc n) t low high passes fails before same =
    let rest = range_with_len (first + 1) n in
    elim (cases_eq first t) [
      | inl here ↦
          ap (λ b. cond b (first ∷ filter p rest) (filter p rest)) (ap p here ∙ passes)
          ∙ ap (λ xs. first ∷ xs) (filter-agree p q (first + 1) n (λ k above within. sym (same k (omega arith) (λ e. absurd (omega arith)))))
          ∙ ap (λ k. k ∷ filter q rest) here
          ∙ ap (λ b. t ∷ cond b (first ∷ filter q rest) (filter q rest)) (sym (ap q here ∙ fails))
      | inr later ↦
          let none : p first ≡ false = before first (omega arith) (omega arith) in
          ap (λ b. cond b (first ∷ filter p rest) (filter p rest)) none
          ∙ filter-first p q (first + 1) n t (omega arith) (omega arith) passes fails (λ k above under. before k (omega arith) under) (λ k above other. same k (omega arith) other)
          ∙ ap (λ b. t ∷ cond b (first ∷ filter q rest) (filter q rest)) (sym (same first (omega arith) later ∙ none))
    ]

list_any-cond : (b : Bool) (x q : ℕ) (xs : List ℕ) → list_any (λ y. nat_eq y q) (cond b (x ∷ xs) xs) ≡ ((b && nat_eq x q) || list_any (λ y. nat_eq y q) xs)
list_any-cond true x q xs = refl
list_any-cond false x q xs = refl

-- a number outside the range is not among the numbers that pass
list_any-filter_off : (p : ℕ → Bool) (first n q : ℕ) → ((k : ℕ) → first ≤ k → k < first + n → k ≢ q) → list_any (λ y. nat_eq y q) (filter p (range_with_len first n)) ≡ false
list_any-filter_off p first zero q off = refl
list_any-filter_off p first (suc n) q off =
    let differs : nat_eq first q ≡ false = let other : first ≢ q = off first (omega arith) (omega arith) in grind (arith, nat_tests) in
    list_any-cond (p first) first q (filter p (range_with_len (first + 1) n))
    ∙ ap (λ b. (p first && b) || list_any (λ y. nat_eq y q) (filter p (range_with_len (first + 1) n))) differs
    ∙ ap (λ b. (p first && false) || b) (list_any-filter_off p (first + 1) n q (λ k low high. off k (omega arith) (omega arith)))
    ∙ or-false (p first && false) ∙ and-false (p first)

list_any-filter_on : (p : ℕ → Bool) (first n q : ℕ) → first ≤ q → q < first + n → list_any (λ y. nat_eq y q) (filter p (range_with_len first n)) ≡ p q
list_any-filter_on p first zero q low high = absurd (omega arith)
list_any-filter_on p first (suc n) q low high =
    let rest = filter p (range_with_len (first + 1) n) in
    list_any-cond (p first) first q rest ∙ elim (cases_eq first q) [
      | inl here ↦
          let is : nat_eq first q ≡ true = grind (arith, nat_tests) in
          ap (λ b. (p first && b) || list_any (λ y. nat_eq y q) rest) is
          ∙ ap (λ b. (p first && true) || b) (list_any-filter_off p (first + 1) n q (λ k above within e. absurd (omega arith)))
          ∙ or-false (p first && true) ∙ and-true (p first) ∙ ap p here
      | inr later ↦
          let differs : nat_eq first q ≡ false = grind (arith, nat_tests) in
          ap (λ b. (p first && b) || list_any (λ y. nat_eq y q) rest) differs
          ∙ ap (λ b. b || list_any (λ y. nat_eq y q) rest) (and-false (p first))
          ∙ list_any-filter_on p (first + 1) n q (omega arith) (omega arith)
    ]

-- if no number from `n` on passes, the set of the numbers below `n` that pass contains exactly the numbers that pass
pub contains-filter : (p : ℕ → Bool) (n q : ℕ) → ((k : ℕ) → n ≤ k → p k ≡ false) → contains (from_list {R = nat_cmp} (filter p (range_with_len 0 n))) q ≡ p q
contains-filter p n q none_later =
    contains-from_list_nat (filter p (range_with_len 0 n)) q
    ∙ elim (cases_lt q n) [
      | inl within ↦ list_any-filter_on p 0 n q (omega arith) (omega arith)
      | inr past ↦ list_any-filter_off p 0 n q (λ k low high e. absurd (omega arith)) ∙ sym (none_later q past)
    ]

-- no number occurs twice, so the set of the numbers that pass has as many members as their list
pub len-filter : (p : ℕ → Bool) (first n : ℕ) → len (from_list {R = nat_cmp} (filter p (range_with_len first n))) ≡ length (filter p (range_with_len first n))
len-filter p first zero = len-empty nat_cmp
len-filter p first (suc n) =
    let rest = filter p (range_with_len (first + 1) n) in
    let new : contains (from_list {R = nat_cmp} rest) first ≡ false =
    contains-from_list_nat rest first ∙ list_any-filter_off p (first + 1) n first (λ k low high e. absurd (omega arith)) in
    by (p first) rest new (len-filter p (first + 1) n)
  where
    by : (b : Bool) (rest : List ℕ) → contains (from_list {R = nat_cmp} rest) first ≡ false → len (from_list {R = nat_cmp} rest) ≡ length rest
        → len (from_list {R = nat_cmp} (cond b (first ∷ rest) rest)) ≡ length (cond b (first ∷ rest) rest)
    by false rest new same = same
    by true rest new same = omega (arith, rw new at (len-insert nat_cmp_total (from_list {R = nat_cmp} rest) first), same)

-- a range is strictly increasing
pub IsStrictlyIncreasing-range_with_len : (first n : ℕ) → IsStrictlyIncreasing (range_with_len first n)
IsStrictlyIncreasing-range_with_len first n k within =
    let more : k + 1 < n = omega (arith, within, length-range_with_len first n) in
    rw (get_or-range_with_len first n k 0 (omega arith), get_or-range_with_len first n (k + 1) 0 more) (omega arith)
