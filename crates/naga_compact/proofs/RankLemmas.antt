-- How many numbers below a number are kept.
use Rattle.std.proofs.Common.{◌≡◌, ◌∙◌, sym, ap, refl, inl, inr, ℕ, zero, suc, ◌+◌, add-one, ◌<◌, ◌≤◌, List, [], ◌∷◌, ◌++◌, length, get_or, Bool, true, false, arith}
use Rattle.std.proofs.lemmas.Bool.{cases_Bool, cases_lt}
use Rattle.std.specs.Prelude.{if◌then◌else◌, nat_eq}
use Rattle.std.proofs.lemmas.Bool.Decides.{nat_tests}
use Rattle.std.proofs.lemmas.List.{get_or_append_left, get_or_push, length_push}
use Rattle.std.proofs.lemmas.List.Elements.{All-contains}
use Rattle.std.proofs.lemmas.Map.Views.{Contains-from_any}
use Rattle.std.specs.Cmp.{nat_cmp_total, unsigned_tied}
use Rattle.std.specs.FinSet.{FinSet, contains, contains-from_list, from_list}
use Rattle.std.specs.List.{All}
use Rattle.std.specs.Ordering.{nat_cmp, eq_by_cmp}
use Rattle.naga_sets.specs.HandleSet.{BoundedSet}
use Rattle.naga_compact.specs.Kept.{AreRanks, rank}

pub rank-zero : (kept : ℕ → Bool) → rank kept 0 ≡ 0
unfolding rank
rank-zero kept = refl

-- one more, if this number is kept
pub rank-yes : (kept : ℕ → Bool) (n : ℕ) → kept n ≡ true → rank kept (n + 1) ≡ rank kept n + 1
unfolding rank
rank-yes kept n so = rw (add-one, so) refl

pub rank-no : (kept : ℕ → Bool) (n : ℕ) → kept n ≡ false → rank kept (n + 1) ≡ rank kept n
unfolding rank
rank-no kept n so = rw (add-one, so) (omega arith)

rank-suc : (kept : ℕ → Bool) (n : ℕ) (b : Bool) → kept n ≡ b → rank kept (suc n) ≡ rank kept n + (if b then 1 else 0)
unfolding rank
rank-suc kept n b is = ap (λ c. rank kept n + (if c then 1 else 0)) is

rank-step : (kept : ℕ → Bool) (n : ℕ) (b : Bool) → kept n ≡ b → (rank kept n ≤ rank kept (suc n)) × (rank kept (suc n) ≤ suc (rank kept n))
rank-step kept n true is = let e = rank-suc kept n true is in (omega (arith, e), omega (arith, e))
rank-step kept n false is = let e = rank-suc kept n false is in (omega (arith, e), omega (arith, e))

pub rank-le : (kept : ℕ → Bool) (n : ℕ) → rank kept n ≤ n
rank-le kept zero = omega (arith, rank-zero kept)
rank-le kept (suc n) = omega (arith, rank-le kept n, (rank-step kept n (kept n) refl).1)

past_one : (kept : ℕ → Bool) (bound n : ℕ) → ((k : ℕ) → kept k ≡ true → k < bound) → bound ≤ n → (b : Bool) → kept n ≡ b → rank kept n ≡ rank kept bound → rank kept (suc n) ≡ rank kept bound
past_one kept bound n small past true is rest = absurd (omega (arith, small n is))
past_one kept bound n small past false is rest = omega (arith, rank-suc kept n false is)

-- nothing is kept from the bound on
pub rank-past : (kept : ℕ → Bool) (bound n : ℕ) → ((k : ℕ) → kept k ≡ true → k < bound) → bound ≤ n → rank kept n ≡ rank kept bound
rank-past kept bound zero small past = let none : bound ≡ 0 = omega arith in rw none refl
rank-past kept bound (suc n) small past = elim (cases_lt n bound) [
  | inl lt ↦ let here : bound ≡ suc n = omega arith in rw here refl
  | inr ge ↦ past_one kept bound n small ge (kept n) refl (rank-past kept bound n small ge)
]

-- ---- the new numbers of kept handles grow with the old ones, one by one

pub rank-grows : (kept : ℕ → Bool) (m n : ℕ) → m ≤ n → rank kept m ≤ rank kept n
rank-grows kept m zero le = let none : m ≡ 0 = omega arith in rw none (omega arith)
rank-grows kept m (suc n) le = elim (cases_lt n m) [
  | inl lt ↦ let same : m ≡ suc n = omega arith in rw same (omega arith)
  | inr ge ↦ omega (arith, rank-grows kept m n (omega arith), (rank-step kept n (kept n) refl).0)
]

pub rank-increases : (kept : ℕ → Bool) (m n : ℕ) → kept m ≡ true → m < n → rank kept m < rank kept n
rank-increases kept m n member lt =
    omega (arith, rank-yes kept m member, rank-grows kept (m + 1) n (omega arith))

pub rank-injective : (kept : ℕ → Bool) (m n : ℕ) → kept m ≡ true → kept n ≡ true → rank kept m ≡ rank kept n → m ≡ n
rank-injective kept m n member member' same = elim (cases_lt m n) [
  | inl lt ↦ absurd (omega (arith, rank-increases kept m n member lt))
  | inr ge ↦ elim (cases_lt n m) [
    | inl lt ↦ absurd (omega (arith, rank-increases kept n m member' lt))
    | inr le ↦ omega arith
  ]
]

-- pairs of a kept number and a value differ if those do in which the kept numbers are replaced by their ranks
pub rank-injective_pair : {X : Type 0} → (kept : ℕ → Bool) (p q : ℕ × X) → kept p.0 ≡ true → kept q.0 ≡ true → ◌≡◌ {A = ℕ × X} (rank kept p.0, p.1) (rank kept q.0, q.1) → p ≡ q
rank-injective_pair {X} kept p q member member' same =
    let first : p.0 ≡ q.0 = rank-injective kept p.0 q.0 member member' (ap (λ (e : ℕ × X). e.0) same) in
    let second : p.1 ≡ q.1 = ap (λ (e : ℕ × X). e.1) same in
    ap (λ n. let e : ℕ × X = (n, p.1) in e) first ∙ ap (λ x. let e : ℕ × X = (q.0, x) in e) second

-- each number below a rank is that of a kept number
pub rank-onto : (kept : ℕ → Bool) (n m : ℕ) → m < rank kept n → (k : ℕ) × (kept k ≡ true) × (rank kept k ≡ m)
rank-onto kept zero m below = absurd (omega (arith, rank-zero kept))
rank-onto kept (suc n) m below = elim (cases_lt m (rank kept n)) [
  | inl lt ↦ rank-onto kept n m lt
  | inr ge ↦ elim (cases_Bool (kept n)) [
    | inl so ↦ (n, so, omega (arith, rank-suc kept n true so))
    | inr so ↦ absurd (omega (arith, rank-suc kept n false so))
  ]
]

-- ---- the table of ranks

pub stand_more : (kept : ℕ → Bool) (xs ys : List ℕ) (i next : ℕ) → length xs ≡ i → ((n : ℕ) → n < i → get_or xs n 0 ≡ rank kept n) → next ≡ rank kept i → ys ≡ xs ++ next ∷ [] → (n : ℕ) → n < i + 1 → get_or ys n 0 ≡ rank kept n
stand_more kept xs ys i next count stand following is n h = elim (cases_lt n i) [
  | inl lt ↦
      let inside : n < length xs = omega arith in
      ap (λ zs. get_or zs n 0) is ∙ (get_or_append_left xs (next ∷ []) 0 n inside ∙ stand n lt)
  | inr ge ↦
      let here : n ≡ i = omega arith in
      ap (λ zs. get_or zs n 0) is ∙ (get_or_push xs next 0 n (count ∙ sym here) ∙ (following ∙ ap (rank kept) (sym here)))
]

pub length-more : (xs ys : List ℕ) (i next : ℕ) → length xs ≡ i → ys ≡ xs ++ next ∷ [] → length ys ≡ i + 1
length-more xs ys i next count is = ap length is ∙ (length_push xs next ∙ ap (λ n. n + 1) count)

pub small_below : (xs : List ℕ) (m : FinSet nat_cmp) (bound : ℕ) → from_list xs ≡ m → All (λ h. h < bound) xs → (q : ℕ) → contains m q ≡ true → q < bound
small_below xs m bound is below q member =
    All-contains (λ h. h < bound) xs q below
    (Contains-from_any {eq = eq_by_cmp nat_cmp} same_number q xs (sym (contains-from_list nat_cmp_total xs q) ∙ (ap (λ s. contains s q) is ∙ member)))
  where
    same_number : (x y : ℕ) → eq_by_cmp nat_cmp x y ≡ true → x ≡ y
    same_number x y e = let f : nat_eq x y ≡ true = sym (unsigned_tied x y) ∙ e in grind (arith, nat_tests)

pub ranked : (kept : BoundedSet) (ranks : List ℕ) (number position : ℕ) → AreRanks kept ranks → (number ≤ kept.bound → position ≡ number) → (kept.bound ≤ number → position ≡ kept.bound) → get_or ranks position 0 ≡ rank (contains kept.members) number
ranked kept ranks number position are within past = elim (cases_lt kept.bound number) [
  | inl lt ↦
      ap (λ n. get_or ranks n 0) (past (omega arith))
      ∙ (are.1 kept.bound (omega arith) ∙ sym (rank-past (contains kept.members) kept.bound number are.2 (omega arith)))
  | inr ge ↦ ap (λ n. get_or ranks n 0) (within ge) ∙ are.1 number ge
]

pub ruleset ranking = (rank-zero, rank-yes, rank-no, rank-le)
