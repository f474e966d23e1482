-- The words are valid for a set with a bound after each change.
use Rattle.std.proofs.Common.{◌≡◌, ℕ, ◌+◌, ◌/◌, ◌<◌, ◌≤◌, Bool, true, false, ◌||◌, not, ◌&&◌, List, [], length, sym, ap, ◌∙◌, inl, inr, arith, true≢false}
use Rattle.std.proofs.lemmas.Bool.{cases_eq}
use Rattle.std.proofs.lemmas.Bool.Decides.{nat_tests}
use Rattle.std.specs.FinSet.{contains, insert, remove}
use Rattle.std.specs.Prelude.{nat_eq, nat_lt, max}
use Rattle.naga_arena.specs.Limits.{max_len}
use Rattle.naga_sets.specs.HandleSet.{numbers_below}
use Rattle.naga_sets.specs.Words.{has_bit, bit_set, words_for, AreWordsFor}
use Rattle.naga_sets.proofs.BitSetLemmas.{contains-bit_set}
use Rattle.naga_sets.proofs.FinSetLemmas.{contains-insert_number, contains-remove_number}
use Rattle.naga_sets.proofs.HasBitLemmas.{has_bit-past}
use Rattle.naga_sets.proofs.NumbersBelowLemmas.{contains-numbers_below}

-- the bits of the words are below a bound of the members
has_bit-below : (words : List ℕ) (bound : ℕ) → ((i : ℕ) → contains (bit_set words) i ≡ true → i < bound) → (i : ℕ) → has_bit words i ≡ true → i < bound
has_bit-below words bound below i set = below i (contains-bit_set words i ∙ set)

pub AreWordsFor-none : (bound : ℕ) (words : List ℕ) (capacity : ℕ) → words ≡ [] → bound ≤ max_len → words_for bound ≤ capacity → AreWordsFor bound words capacity
AreWordsFor-none bound words capacity none small room = record {
  small = small;
  few = omega (arith, ap length none);
  below = λ i set. absurd (true≢false (sym set ∙ ap (λ ws. has_bit ws i) none ∙ has_bit-past [] i (omega arith)));
  room = room;
}

pub AreWordsFor-insert : (bound i : ℕ) (words new : List ℕ) (capacity more : ℕ) → AreWordsFor bound words capacity → i < max_len
    → bit_set new ≡ insert (bit_set words) i → length new ≡ max (length words) (i / 64 + 1) → capacity ≤ more → i / 64 < more
    → AreWordsFor (max bound (i + 1)) new more
AreWordsFor-insert bound i words new capacity more kept small inserted long grown fits = record {
  small = omega (arith, kept.small);
  few = omega (arith, kept.few);
  below = has_bit-below new (max bound (i + 1)) (λ q member. elim (cases_eq q i) [
    | inl same ↦ omega arith
    | inr other ↦
        let differs : nat_eq q i ≡ false = grind (arith, nat_tests) in
        let old : has_bit words q ≡ true =
        sym (ap (λ b. b || contains (bit_set words) q) differs ∙ contains-bit_set words q) ∙ sym (contains-insert_number (bit_set words) i q) ∙ sym (ap (λ s. contains s q) inserted) ∙ member in
        omega (arith, kept.below q old)
  ]);
  room = omega (arith, kept.room);
}

AreWordsFor-subset : (bound : ℕ) (words new : List ℕ) (capacity same : ℕ) → AreWordsFor bound words capacity
    → ((q : ℕ) → contains (bit_set new) q ≡ true → contains (bit_set words) q ≡ true) → length new ≤ length words → same ≡ capacity → AreWordsFor bound new same
AreWordsFor-subset bound words new capacity same kept fewer short e = record {
  small = kept.small;
  few = omega (arith, kept.few);
  below = has_bit-below new bound (λ q member. kept.below q (sym (contains-bit_set words q) ∙ fewer q member));
  room = omega (arith, kept.room);
}

pub AreWordsFor-unchanged : (bound : ℕ) (words new : List ℕ) (capacity same : ℕ) → AreWordsFor bound words capacity
    → bit_set new ≡ bit_set words → length new ≤ length words → same ≡ capacity → AreWordsFor bound new same
AreWordsFor-unchanged bound words new capacity same kept one short e =
    AreWordsFor-subset bound words new capacity same kept (λ q member. sym (ap (λ s. contains s q) one) ∙ member) short e

pub AreWordsFor-remove : (bound i : ℕ) (words new : List ℕ) (capacity same : ℕ) → AreWordsFor bound words capacity
    → bit_set new ≡ remove (bit_set words) i → length new ≤ length words → same ≡ capacity → AreWordsFor bound new same
AreWordsFor-remove bound i words new capacity same kept removed short e =
    AreWordsFor-subset bound words new capacity same kept
    (λ q member. was (not (nat_eq q i)) (contains (bit_set words) q) (sym (ap (λ s. contains s q) removed ∙ contains-remove_number (bit_set words) i q) ∙ member))
    short e
  where
    was : (b c : Bool) → (b && c) ≡ true → c ≡ true
    was true c is = is
    was false c is = absurd (true≢false (sym is))

pub AreWordsFor-full : (bound : ℕ) (new : List ℕ) (capacity : ℕ) → bound ≤ max_len → words_for bound ≤ capacity
    → bit_set new ≡ numbers_below bound → length new ≡ words_for bound → AreWordsFor bound new capacity
AreWordsFor-full bound new capacity small room full long = record {
  small = small;
  few = omega arith;
  below = has_bit-below new bound (λ q member. (
      let is : nat_lt q bound ≡ true = sym (ap (λ s. contains s q) full ∙ contains-numbers_below bound q) ∙ member in
      grind (arith, nat_tests)
      ));
  room = room;
}
