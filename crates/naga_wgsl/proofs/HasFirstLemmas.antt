-- Sets of the first handles that pass a test, when one more is looked at.
use Rattle.std.proofs.Common.{◌≡◌, ◌∙◌, ◌<◌, ◌≤◌, ◌+◌, sym, ap, subst, refl, ℕ, Bool, true, false, arith}
use Rattle.std.proofs.Math.Nat.{max-eq_left}
use Rattle.std.proofs.lemmas.Bool.Decides.{nat_tests}
use Rattle.std.specs.FinSet.{contains, contains-empty}
use Rattle.std.specs.Ordering.{nat_cmp}
use Rattle.std.specs.Prelude.{◌||◌, nat_eq, nat_lt}
use Rattle.naga_sets.specs.HandleSet.{BoundedSet, none_below, with_member}
use Rattle.naga_sets.proofs.FinSetLemmas.{contains-insert_number}
use Rattle.naga_flow.specs.ConstantChains.{with_if}
use Rattle.naga_wgsl.specs.Choices.{HasFirst}

module _ (test : ℕ → Bool) where
  pub HasFirst-none : (bound : ℕ) → HasFirst test 0 (none_below bound)
  HasFirst-none bound = record {
    first = λ handle within. absurd (omega (arith, within));
    no_others = λ handle past. contains-empty nat_cmp handle;
  }

  with : (count : ℕ) (s : BoundedSet) → HasFirst test count s → test count ≡ true → HasFirst test (count + 1) (with_member s count)
  with count s has last = record {
    first = λ handle within. contains-insert_number s.members count handle ∙ member handle within (nat_eq handle count) refl;
    no_others = λ handle past. contains-insert_number s.members count handle ∙ other handle past;
  }
    where
      member : (handle : ℕ) → handle < count + 1 → (t : Bool) → nat_eq handle count ≡ t → (nat_eq handle count || contains s.members handle) ≡ test handle
      member handle within true is =
          let same : count ≡ handle = grind (arith, nat_tests) in
          ap (λ t. t || contains s.members handle) is ∙ sym (subst (λ x. test x ≡ true) same last)
      member handle within false is =
          let before : handle < count = grind (arith, nat_tests) in
          ap (λ t. t || contains s.members handle) is ∙ has.first handle before

      other : (handle : ℕ) → count + 1 ≤ handle → (nat_eq handle count || contains s.members handle) ≡ false
      other handle past =
          let differs : nat_eq handle count ≡ false = grind (arith, nat_tests) in
          ap (λ t. t || contains s.members handle) differs ∙ has.no_others handle (omega (arith, past))

  without : (count : ℕ) (s : BoundedSet) → HasFirst test count s → test count ≡ false → HasFirst test (count + 1) s
  without count s has last = record {
    first = λ handle within. go handle within (nat_lt handle count) refl;
    no_others = λ handle past. has.no_others handle (omega (arith, past));
  }
    where
      go : (handle : ℕ) → handle < count + 1 → (t : Bool) → nat_lt handle count ≡ t → contains s.members handle ≡ test handle
      go handle within true is = has.first handle (grind (arith, nat_tests))
      go handle within false is =
          let same : count ≡ handle = grind (arith, nat_tests) in
          has.no_others handle (grind (arith, nat_tests)) ∙ sym (subst (λ x. test x ≡ false) same last)

  pub HasFirst-push : (count : ℕ) (s : BoundedSet) (is : Bool) → HasFirst test count s → is ≡ test count → HasFirst test (count + 1) (with_if is s count)
  HasFirst-push count s true has same = with count s has (sym same)
  HasFirst-push count s false has same = without count s has (sym same)

  pub HasFirst-all : (count : ℕ) (s : BoundedSet) → HasFirst test count s → ((handle : ℕ) → count ≤ handle → test handle ≡ false) → (handle : ℕ) → contains s.members handle ≡ test handle
  HasFirst-all count s has none handle = go (nat_lt handle count) refl
    where
      go : (t : Bool) → nat_lt handle count ≡ t → contains s.members handle ≡ test handle
      go true is = has.first handle (grind (arith, nat_tests))
      go false is = let past : count ≤ handle = grind (arith, nat_tests) in has.no_others handle past ∙ sym (none handle past)

pub with_if-bound : (is : Bool) (s : BoundedSet) (handle : ℕ) → handle < s.bound → (with_if is s handle).bound ≡ s.bound
with_if-bound true s handle inside = let raised : handle + 1 ≤ s.bound = omega arith in max-eq_left raised
with_if-bound false s handle inside = refl
