-- What is used, and used again, after more uses.
use Rattle.std.proofs.Common.{◌≡◌, ◌∙◌, sym, ap, refl, inl, inr, ℕ, ◌+◌, ◌<◌, zero-add, Bool, true, false, List, [], ◌∷◌, length, arith}
use Rattle.std.proofs.lemmas.Bool.{cases_lt}
use Rattle.std.proofs.lemmas.Bool.Decides.{nat_tests}
use Rattle.std.proofs.lemmas.List.Sums.{sum_by-cons}
use Rattle.std.specs.FinSet.{contains, contains-empty}
use Rattle.std.specs.Ordering.{nat_cmp}
use Rattle.std.specs.Prelude.{◌||◌, ◌&&◌, ◌↔◌, cond, not, nat_eq, nat_lt, if◌then◌else◌}
use Rattle.naga_sets.specs.HandleSet.{BoundedSet, none_below}
use Rattle.naga_sets.proofs.FinSetLemmas.{contains-insert_number}
use Rattle.naga_compact.specs.Marks.{put}
use Rattle.naga_compact.proofs.MarkLemmas.{put-bound, put-inside, put-outside}
use Rattle.naga_ir.specs.declared.module.Function.{Function}
use Rattle.naga_wgsl.specs.Counts.{AreUsesIn, use_each, use_once_more}
use Rattle.naga_wgsl.specs.WrittenOut.{times_in, uses_in}
use Rattle.naga_wgsl.specs.declared.uses.Uses.{Uses}

-- ---- one more use

put-contains : (s : BoundedSet) (y x : ℕ) → x < s.bound → contains (put s y).members x ≡ (nat_eq x y || contains s.members x)
put-contains s y x inside = elim (cases_lt y s.bound) [
  | inl lt ↦ ap (λ (t : BoundedSet). contains t.members x) (put-inside s y lt) ∙ contains-insert_number s.members y x
  | inr ge ↦
      let no : nat_eq x y ≡ false = grind (arith, nat_tests) in
      ap (λ (t : BoundedSet). contains t.members x) (put-outside s y ge) ∙ sym (ap (λ t. t || contains s.members x) no)
]

same-or : (e c : Bool) → (e ≡ true → c ≡ true) → c ≡ (e || c)
same-or true c h = h refl
same-or false c h = refl

eq-same : (x y : ℕ) → nat_eq x y ≡ true → x ≡ y
eq-same x y h = grind (arith, nat_tests)

module _ (u : Uses) (y x : ℕ) where
  abbrev with_test : Bool → Uses
  with_test t = if t then record u { again = put u.again y } else record u { used = put u.used y }

  by-test : (t : Bool) → contains u.used.members y ≡ t → use_once_more u y ≡ with_test t
  by-test t h = ap with_test h

  used-step : x < u.used.bound → contains (use_once_more u y).used.members x ≡ (nat_eq x y || contains u.used.members x)
  used-step inside = go (contains u.used.members y) refl
    where
      go : (t : Bool) → contains u.used.members y ≡ t → contains (use_once_more u y).used.members x ≡ (nat_eq x y || contains u.used.members x)
      go true h =
          ap (λ (v : Uses). contains v.used.members x) (by-test true h)
          ∙ same-or (nat_eq x y) (contains u.used.members x) (λ e. ap (contains u.used.members) (eq-same x y e) ∙ h)
      go false h = ap (λ (v : Uses). contains v.used.members x) (by-test false h) ∙ put-contains u.used y x inside

  again-if : (e c a : Bool) (t : Bool) → (e ≡ true → c ≡ t) → t ≡ true → (e || a) ≡ ((e && c) || a)
  again-if true c a t h is = ap (λ s. s || a) (sym (h refl ∙ is))
  again-if false c a t h is = refl

  again-not : (e c a : Bool) (t : Bool) → (e ≡ true → c ≡ t) → t ≡ false → a ≡ ((e && c) || a)
  again-not true c a t h is = ap (λ s. s || a) (sym (h refl ∙ is))
  again-not false c a t h is = refl

  again-step : x < u.again.bound → contains (use_once_more u y).again.members x ≡ ((nat_eq x y && contains u.used.members x) || contains u.again.members x)
  again-step inside = go (contains u.used.members y) refl
    where
      go : (t : Bool) → contains u.used.members y ≡ t → contains (use_once_more u y).again.members x ≡ ((nat_eq x y && contains u.used.members x) || contains u.again.members x)
      go true h =
          ap (λ (v : Uses). contains v.again.members x) (by-test true h) ∙ (put-contains u.again y x inside
          ∙ again-if (nat_eq x y) (contains u.used.members x) (contains u.again.members x) (contains u.used.members y) (λ e. ap (contains u.used.members) (eq-same x y e)) h)
      go false h =
          ap (λ (v : Uses). contains v.again.members x) (by-test false h)
          ∙ again-not (nat_eq x y) (contains u.used.members x) (contains u.again.members x) (contains u.used.members y) (λ e. ap (contains u.used.members) (eq-same x y e)) h

  used-bound : (use_once_more u y).used.bound ≡ u.used.bound
  used-bound = go (contains u.used.members y) refl
    where
      go : (t : Bool) → contains u.used.members y ≡ t → (use_once_more u y).used.bound ≡ u.used.bound
      go true h = ap (λ (v : Uses). v.used.bound) (by-test true h)
      go false h = ap (λ (v : Uses). v.used.bound) (by-test false h) ∙ put-bound u.used y

  again-bound : (use_once_more u y).again.bound ≡ u.again.bound
  again-bound = go (contains u.used.members y) refl
    where
      go : (t : Bool) → contains u.used.members y ≡ t → (use_once_more u y).again.bound ≡ u.again.bound
      go true h = ap (λ (v : Uses). v.again.bound) (by-test true h) ∙ put-bound u.again y
      go false h = ap (λ (v : Uses). v.again.bound) (by-test false h)

-- ---- more uses

above_none : (t : ℕ) → nat_lt 0 (1 + t) ≡ true
above_none t = grind (arith, nat_tests)

above_one : (t : ℕ) → nat_lt 1 (1 + t) ≡ nat_lt 0 t
above_one t = elim (cases_lt 0 t) [
  | inl more ↦ let a : nat_lt 0 t ≡ true = grind (arith, nat_tests) in let b : nat_lt 1 (1 + t) ≡ true = grind (arith, nat_tests) in b ∙ sym a
  | inr none ↦ let a : nat_lt 0 t ≡ false = grind (arith, nat_tests) in let b : nat_lt 1 (1 + t) ≡ false = grind (arith, nat_tests) in b ∙ sym a
]

either_above : (t : ℕ) → (nat_lt 0 t || nat_lt 1 t) ≡ nat_lt 0 t
either_above t = elim (cases_lt 0 t) [
  | inl more ↦ let a : nat_lt 0 t ≡ true = grind (arith, nat_tests) in ap (λ s. s || nat_lt 1 t) a ∙ sym a
  | inr none ↦
      let a : nat_lt 0 t ≡ false = grind (arith, nat_tests) in
      let b : nat_lt 1 t ≡ false = grind (arith, nat_tests) in
      ap (λ s. s || nat_lt 1 t) a ∙ (b ∙ sym a)
]

used-sum : (e c : Bool) (t : ℕ) → ((e || c) || nat_lt 0 t) ≡ (c || nat_lt 0 (cond e 1 0 + t))
used-sum true true t = refl
used-sum true false t = sym (above_none t)
used-sum false c t = ap (λ n. c || nat_lt 0 n) (sym (zero-add t))

again-sum : (e c a : Bool) (t : ℕ) → ((((e && c) || a) || ((e || c) && nat_lt 0 t)) || nat_lt 1 t) ≡ ((a || (c && nat_lt 0 (cond e 1 0 + t))) || nat_lt 1 (cond e 1 0 + t))
again-sum true true true t = refl
again-sum true true false t = sym (ap (λ s. s || nat_lt 1 (1 + t)) (above_none t))
again-sum true false true t = refl
again-sum true false false t = either_above t ∙ sym (above_one t)
again-sum false c a t = ap (λ n. (a || (c && nat_lt 0 n)) || nat_lt 1 n) (sym (zero-add t))

times-cons : (x y : ℕ) (ys : List ℕ) → cond (nat_eq x y) 1 0 + times_in ys x ≡ times_in (y ∷ ys) x
times-cons x y ys = sym (sum_by-cons (λ other. cond (nat_eq x other) 1 0) y ys)

pub used-after : (u : Uses) (xs : List ℕ) (x : ℕ) → x < u.used.bound → contains (use_each u xs).used.members x ≡ (contains u.used.members x || nat_lt 0 (times_in xs x))
used-after u [] x inside = or-false (contains u.used.members x)
  where
    or-false : (c : Bool) → c ≡ (c || false)
    or-false true = refl
    or-false false = refl
used-after u (y ∷ ys) x inside =
    used-after (use_once_more u y) ys x (omega (arith, used-bound u y x))
    ∙ (ap (λ s. s || nat_lt 0 (times_in ys x)) (used-step u y x inside)
    ∙ (used-sum (nat_eq x y) (contains u.used.members x) (times_in ys x)
    ∙ ap (λ t. contains u.used.members x || nat_lt 0 t) (times-cons x y ys)))

pub again-after : (u : Uses) (xs : List ℕ) (x : ℕ) → x < u.used.bound → x < u.again.bound →
    contains (use_each u xs).again.members x ≡ ((contains u.again.members x || (contains u.used.members x && nat_lt 0 (times_in xs x))) || nat_lt 1 (times_in xs x))
again-after u [] x inside within = none (contains u.again.members x) (contains u.used.members x)
  where
    none : (a c : Bool) → a ≡ ((a || (c && false)) || false)
    none true c = refl
    none false true = refl
    none false false = refl
again-after u (y ∷ ys) x inside within =
    again-after (use_once_more u y) ys x (omega (arith, used-bound u y x)) (omega (arith, again-bound u y x))
    ∙ ((λ i. (again-step u y x within i || (used-step u y x inside i && nat_lt 0 (times_in ys x))) || nat_lt 1 (times_in ys x))
    ∙ (again-sum (nat_eq x y) (contains u.used.members x) (contains u.again.members x) (times_in ys x)
    ∙ ap (λ t. (contains u.again.members x || (contains u.used.members x && nat_lt 0 t)) || nat_lt 1 t) (times-cons x y ys)))

-- ---- exactly one use

pub once : (t : ℕ) → ((nat_lt 0 t && not (nat_lt 1 t)) ≡ true) ↔ (t ≡ 1)
once t = (there, back)
  where
    there : (nat_lt 0 t && not (nat_lt 1 t)) ≡ true → t ≡ 1
    there h = elim (cases_lt 0 t) [
      | inl more ↦ elim (cases_lt 1 t) [
        | inl many ↦
            let a : nat_lt 0 t ≡ true = grind (arith, nat_tests) in
            let b : nat_lt 1 t ≡ true = grind (arith, nat_tests) in
            absurd (let e : false ≡ true = (λ i. sym a i && not (sym b i)) ∙ h in cc)
        | inr few ↦ omega arith
      ]
      | inr none ↦
          let a : nat_lt 0 t ≡ false = grind (arith, nat_tests) in
          absurd (let e : false ≡ true = (λ i. sym a i && not (nat_lt 1 t)) ∙ h in cc)
    ]

    back : t ≡ 1 → (nat_lt 0 t && not (nat_lt 1 t)) ≡ true
    back is = ap (λ n. nat_lt 0 n && not (nat_lt 1 n)) is

-- ---- uses from none on

abbrev pub no_uses : (bound : ℕ) → Uses
no_uses bound = record { used = none_below bound; again = none_below bound }

used-from_none : (bound : ℕ) (xs : List ℕ) (x : ℕ) → x < bound → contains (use_each (no_uses bound) xs).used.members x ≡ nat_lt 0 (times_in xs x)
used-from_none bound xs x inside = used-after (no_uses bound) xs x inside ∙ ap (λ c. c || nat_lt 0 (times_in xs x)) (contains-empty nat_cmp x)

again-from_none : (bound : ℕ) (xs : List ℕ) (x : ℕ) → x < bound → contains (use_each (no_uses bound) xs).again.members x ≡ nat_lt 1 (times_in xs x)
again-from_none bound xs x inside =
    again-after (no_uses bound) xs x inside inside
    ∙ (λ i. (contains-empty nat_cmp x i || (contains-empty nat_cmp x i && nat_lt 0 (times_in xs x))) || nat_lt 1 (times_in xs x))

-- the uses of a function
pub AreUsesIn-from : (function : Function) (uses : Uses) → uses ≡ use_each (no_uses (length function.expressions)) (uses_in function) → AreUsesIn function uses
AreUsesIn-from function uses is = record {
  used = λ x inside. ap (λ (u : Uses). contains u.used.members x) is ∙ used-from_none (length function.expressions) (uses_in function) x inside;
  again = λ x inside. ap (λ (u : Uses). contains u.again.members x) is ∙ again-from_none (length function.expressions) (uses_in function) x inside;
}
