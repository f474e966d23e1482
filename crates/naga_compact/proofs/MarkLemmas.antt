-- Sets into which members are inserted, as far as the bound allows.
use Rattle.std.proofs.Common.{◌≡◌, ◌∙◌, sym, ap, subst, refl, inl, inr, ◌⊎◌, ℕ, zero, suc, ◌+◌, ◌<◌, ◌≤◌, List, [], ◌∷◌, ◌++◌, length, get_or, take, true, false, ◌||◌, Option, Some, None, arith}
use Rattle.std.proofs.Math.Nat.{max-eq_left}
use Rattle.std.proofs.lemmas.List.{take_more}
use Rattle.std.proofs.lemmas.Bool.{cases_eq, cases_lt}
use Rattle.std.proofs.lemmas.Bool.Decides.{nat_tests}
use Rattle.std.specs.FinSet.{FinSet, contains, insert}
use Rattle.std.specs.Ordering.{nat_cmp}
use Rattle.std.specs.List.{Contains, cons_option}
use Rattle.std.specs.Prelude.{nat_eq, nat_lt, option_to_list}
use Rattle.naga_sets.specs.HandleSet.{BoundedSet, with_member}
use Rattle.naga_sets.proofs.FinSetLemmas.{contains-insert_number}
use Rattle.naga_compact.specs.Marks.{put, puts}

pub put-inside : (s : BoundedSet) (h : ℕ) → h < s.bound → put s h ≡ with_member s h
unfolding put
put-inside s h lt = let yes : nat_lt h s.bound ≡ true = grind (arith, nat_tests) in rw yes refl

pub put-outside : (s : BoundedSet) (h : ℕ) → s.bound ≤ h → put s h ≡ s
unfolding put
put-outside s h ge = let no : nat_lt h s.bound ≡ false = grind (arith, nat_tests) in rw no refl

pub put-bound : (s : BoundedSet) (h : ℕ) → (put s h).bound ≡ s.bound
put-bound s h = elim (cases_lt h s.bound) [
  | inl lt ↦
      let raised : h + 1 ≤ s.bound = omega arith in
      ap (λ (t : BoundedSet). t.bound) (put-inside s h lt) ∙ max-eq_left raised
  | inr ge ↦ ap (λ (t : BoundedSet). t.bound) (put-outside s h ge)
]

insert-new : (m : FinSet nat_cmp) (h q : ℕ) → contains (insert m h) q ≡ true → (contains m q ≡ true) ⊎ (q ≡ h)
insert-new m h q member =
    elim (cases_eq q h) [
      | inl same ↦ inr same
      | inr differs ↦
          let no : nat_eq q h ≡ false = grind (arith, nat_tests) in
          let is : (nat_eq q h || contains m q) ≡ true = sym (contains-insert_number m h q) ∙ member in
          inl (rw no at is)
    ]

insert-old : (m : FinSet nat_cmp) (h q : ℕ) → contains m q ≡ true → contains (insert m h) q ≡ true
insert-old m h q member = contains-insert_number m h q ∙ rw member (grind (arith, nat_tests))

insert-has : (m : FinSet nat_cmp) (h : ℕ) → contains (insert m h) h ≡ true
insert-has m h =
    let yes : nat_eq h h ≡ true = grind (arith, nat_tests) in
    contains-insert_number m h h ∙ rw yes refl

pub put-new : (s : BoundedSet) (h q : ℕ) → contains (put s h).members q ≡ true → (contains s.members q ≡ true) ⊎ ((q ≡ h) × (q < s.bound))
put-new s h q member = elim (cases_lt h s.bound) [
  | inl lt ↦ elim (insert-new s.members h q (subst (λ (t : BoundedSet). contains t.members q ≡ true) (put-inside s h lt) member)) [
    | inl old ↦ inl old
    | inr same ↦ inr (same, omega arith)
  ]
  | inr ge ↦ inl (subst (λ (t : BoundedSet). contains t.members q ≡ true) (put-outside s h ge) member)
]

pub put-old : (s : BoundedSet) (h q : ℕ) → contains s.members q ≡ true → contains (put s h).members q ≡ true
put-old s h q member = elim (cases_lt h s.bound) [
  | inl lt ↦ subst (λ (t : BoundedSet). contains t.members q ≡ true) (sym (put-inside s h lt)) (insert-old s.members h q member)
  | inr ge ↦ subst (λ (t : BoundedSet). contains t.members q ≡ true) (sym (put-outside s h ge)) member
]

pub put-has : (s : BoundedSet) (h : ℕ) → h < s.bound → contains (put s h).members h ≡ true
put-has s h lt = subst (λ (t : BoundedSet). contains t.members h ≡ true) (sym (put-inside s h lt)) (insert-has s.members h)

-- ---- several

pub puts-bound : (s : BoundedSet) (hs : List ℕ) → (puts s hs).bound ≡ s.bound
puts-bound s [] = refl
puts-bound s (h ∷ hs) = puts-bound (put s h) hs ∙ put-bound s h

pub puts-old : (s : BoundedSet) (hs : List ℕ) (q : ℕ) → contains s.members q ≡ true → contains (puts s hs).members q ≡ true
puts-old s [] q member = member
puts-old s (h ∷ hs) q member = puts-old (put s h) hs q (put-old s h q member)

pub puts-new : (s : BoundedSet) (hs : List ℕ) (q : ℕ) → contains (puts s hs).members q ≡ true → (contains s.members q ≡ true) ⊎ (Contains hs q × (q < s.bound))
puts-new s [] q member = inl member
puts-new s (h ∷ hs) q member = elim (puts-new (put s h) hs q member) [
  | inl now ↦ elim (put-new s h q now) [ inl old ↦ inl old | inr same ↦ inr ((zero, omega arith, sym same.0), same.1) ]
  | inr later ↦ inr ((suc later.0.0, omega arith, later.0.2), omega (arith, later.1, put-bound s h))
]

pub puts-has : (s : BoundedSet) (hs : List ℕ) (q : ℕ) → q < s.bound → Contains hs q → contains (puts s hs).members q ≡ true
puts-has s [] q lt (k, inside, is) = absurd (omega arith)
puts-has s (h ∷ hs) q lt (zero, inside, is) =
    puts-old (put s h) hs q (subst (λ n. contains (put s h).members n ≡ true) is (put-has s h (subst (λ n. n < s.bound) (sym is) lt)))
puts-has s (h ∷ hs) q lt (suc k, inside, is) =
    let below : q < (put s h).bound = omega (arith, put-bound s h) in
    puts-has (put s h) hs q below (k, omega arith, is)

pub puts-push : (s : BoundedSet) (hs : List ℕ) (h : ℕ) → puts s (hs ++ h ∷ []) ≡ put (puts s hs) h
puts-push s [] h = refl
puts-push s (x ∷ hs) h = puts-push (put s x) hs h

pub puts-take : (s : BoundedSet) (hs : List ℕ) (k x : ℕ) → k < length hs → x ≡ get_or hs k x → puts s (take (k + 1) hs) ≡ put (puts s (take k hs)) x
puts-take s hs k x inside is =
    ap (puts s) (take_more hs k x inside) ∙ (puts-push s (take k hs) (get_or hs k x) ∙ ap (put (puts s (take k hs))) (sym is))

pub puts-append : (s : BoundedSet) (xs ys : List ℕ) → puts s (xs ++ ys) ≡ puts (puts s xs) ys
puts-append s [] ys = refl
puts-append s (x ∷ xs) ys = puts-append (put s x) xs ys

pub ruleset putting = (put-inside, put-outside)

-- an option's member, and then more
pub puts-optional : (s : BoundedSet) (first : Option ℕ) (rest : List ℕ) → puts (puts s (option_to_list first)) rest ≡ puts s (cons_option first rest)
puts-optional s None rest = refl
puts-optional s (Some x) rest = refl
