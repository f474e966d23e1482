-- Sets of numbers: their members, and how many there are.
use Rattle.std.proofs.Common.{◌≡◌, ℕ, zero, suc, ◌+◌, ◌-◌, ◌<◌, true, false, ◌||◌, not, ◌&&◌, refl, sym, ap, ◌∙◌, inl, inr, arith, true≢false}
use Rattle.std.proofs.lemmas.Bool.{cases_eq}
use Rattle.std.proofs.lemmas.Bool.Decides.{nat_tests}
use Rattle.std.specs.Cmp.{nat_cmp_total, unsigned_tied}
use Rattle.std.specs.FinSet.{FinSet, contains, insert, remove, len, contains-empty, same_set, nat_cmp-IsAntisymmetric, contains-insert, contains-remove, len-remove, empty_of_len}
use Rattle.std.specs.Ordering.{nat_cmp}
use Rattle.std.specs.Prelude.{nat_eq}

-- two sets of the same numbers are identical
pub FinSet-extensional : (s t : FinSet nat_cmp) → ((q : ℕ) → contains s q ≡ contains t q) → s ≡ t
FinSet-extensional = same_set nat_cmp_total nat_cmp-IsAntisymmetric

pub contains-insert_number : (s : FinSet nat_cmp) (n q : ℕ) → contains (insert s n) q ≡ (nat_eq q n || contains s q)
contains-insert_number s n q = contains-insert nat_cmp_total s n q ∙ ap (λ b. b || contains s q) (unsigned_tied q n)

pub contains-remove_number : (s : FinSet nat_cmp) (n q : ℕ) → contains (remove s n) q ≡ (not (nat_eq q n) && contains s q)
contains-remove_number s n q = contains-remove nat_cmp_total s n q ∙ ap (λ b. not b && contains s q) (unsigned_tied q n)

pub remove-absent : (s : FinSet nat_cmp) (n : ℕ) → contains s n ≡ false → remove s n ≡ s
remove-absent s n absent = FinSet-extensional _ _ (λ q. contains-remove_number s n q ∙ at q)
  where
    at : (q : ℕ) → (not (nat_eq q n) && contains s q) ≡ contains s q
    at q = elim (cases_eq q n) [
      | inl same ↦
          let gone : contains s q ≡ false = ap (contains s) same ∙ absent in
          rw gone (grind (arith, nat_tests))
      | inr differs ↦ grind (arith, nat_tests)
    ]

-- a set with a member is not empty
len-positive : (s : FinSet nat_cmp) (n : ℕ) → contains s n ≡ true → 0 < len s
len-positive s n member = by_len (len s) refl
  where
    by_len : (count : ℕ) → len s ≡ count → 0 < count
    by_len zero none = absurd (true≢false (sym member ∙ ap (λ t. contains t n) (empty_of_len s none) ∙ contains-empty nat_cmp n))
    by_len (suc count) some = omega arith

-- removing a member leaves one member fewer
pub len-remove_member : (s : FinSet nat_cmp) (n : ℕ) → contains s n ≡ true → len s ≡ len (remove s n) + 1
len-remove_member s n member =
    let removed : len (remove s n) ≡ len s - 1 = rw member at (len-remove nat_cmp_total s n) in
    omega (arith, len-positive s n member)
