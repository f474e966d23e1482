-- The set that words represent, and how it changes with them.
use Rattle.std.proofs.Common.{◌≡◌, ◌≢◌, ℕ, zero, suc, ◌+◌, ◌-◌, ◌*◌, ◌/◌, ◌%◌, ◌^◌, ◌<◌, ◌≤◌, Bool, true, false, cond, ◌||◌, not, ◌&&◌, List, [], ◌∷◌, ◌++◌, length, take, get_or, refl, sym, ap, ◌∙◌, inl, inr, arith, true≢false, rules}
use Rattle.std.proofs.Math.ListN.{set, replicate}
use Rattle.std.proofs.lemmas.Bool.{cases_eq}
use Rattle.std.proofs.lemmas.Bool.Decides.{nat_tests}
use Rattle.std.proofs.lemmas.List.{get_or_read, take_all}
use Rattle.std.proofs.lemmas.Nat.Bits.{bit_at_set_same, bit_at_set_other, bit_at_clear_same, bit_at_clear_other, bit_at-trailing_zeros}
use Rattle.std.specs.FinSet.{FinSet, contains, insert, remove, empty, contains-empty}
use Rattle.std.specs.Int.{bit_at, bit_not, w64, trailing_zeros}
use Rattle.std.specs.List.{list_all}
use Rattle.std.specs.Ordering.{nat_cmp}
use Rattle.std.specs.Prelude.{nat_eq, bit_and, bit_or, IsTrue, ◌↔◌, ◌==◌}
use Rattle.naga_sets.specs.Words.{has_bit, bits_from, bit_set}
use Rattle.naga_sets.proofs.BitAtLemmas.{bit_and-one_shl}
use Rattle.naga_sets.proofs.FilterLemmas.{contains-filter}
use Rattle.naga_sets.proofs.FinSetLemmas.{FinSet-extensional, contains-insert_number, contains-remove_number, remove-absent}
use Rattle.naga_sets.proofs.HasBitLemmas.{has_bit-past, has_bit-here, has_bit-set_elsewhere, has_bit-set_here, has_bit-append_zeros, has_bit-take, has_bit-of_word}

-- the set contains the numbers of the set bits, and no others
pub contains-bit_set : (words : List ℕ) (q : ℕ) → contains (bit_set words) q ≡ has_bit words q
unfolding bits_from
contains-bit_set words q =
    let same : (n : ℕ) → n - 0 ≡ n = λ n. omega arith in
    contains-filter (λ n. has_bit words (n - 0)) (64 * length words) q (λ k past. has_bit-past words (k - 0) (omega arith))
    ∙ ap (has_bit words) (same q)

-- words represent the set whose members are the numbers of the set bits
pub bit_set-is : (words : List ℕ) (s : FinSet nat_cmp) → ((q : ℕ) → has_bit words q ≡ contains s q) → bit_set words ≡ s
bit_set-is words s at = FinSet-extensional (bit_set words) s (λ q. contains-bit_set words q ∙ at q)

-- `word & 1 << bit == 0` if and only if the set does not contain the number of the bit
pub contains-bit_set_masked : (words : List ℕ) (i word : ℕ) → i / 64 < length words → word ≡ get_or words (i / 64) word
    → nat_eq (bit_and word (1 * 2 ^ (i % 64) % 2 ^ 64)) 0 ≡ not (contains (bit_set words) i)
contains-bit_set_masked words i word within read =
    bit_and-one_shl word (i % 64) (omega arith)
    ∙ ap (λ w. not (nat_eq (bit_at w (i % 64)) 1)) (get_or_read words (i / 64) word within read 0)
    ∙ ap not (sym (contains-bit_set words i ∙ has_bit-here words i i refl))

bit_set-insert_there : (words : List ℕ) (i : ℕ) → i / 64 < length words
    → bit_set (set words (i / 64) (bit_or (get_or words (i / 64) 0) (1 * 2 ^ (i % 64) % 2 ^ 64))) ≡ insert (bit_set words) i
bit_set-insert_there words i within =
    bit_set-is _ _ (λ q. at q ∙ ap (λ b. nat_eq q i || b) (sym (contains-bit_set words q)) ∙ sym (contains-insert_number (bit_set words) i q))
  where
    at : (q : ℕ) → has_bit (set words (i / 64) (bit_or (get_or words (i / 64) 0) (1 * 2 ^ (i % 64) % 2 ^ 64))) q ≡ (nat_eq q i || has_bit words q)
    at q =
        let word = get_or words (i / 64) 0 in
        let new = bit_or word (1 * 2 ^ (i % 64) % 2 ^ 64) in
        let below : i % 64 < 64 = omega arith in
        elim (cases_eq (q / 64) (i / 64)) [
          | inr elsewhere ↦
              let differs : nat_eq q i ≡ false = let other : q ≢ i = λ e. elsewhere (ap (λ n. n / 64) e) in grind (arith, nat_tests) in
              has_bit-set_elsewhere words i new within q elsewhere ∙ ap (λ b. b || has_bit words q) (sym differs)
          | inl here ↦ elim (cases_eq (q % 64) (i % 64)) [
            | inl same ↦
                let itself : nat_eq q i ≡ true = let one : q ≡ i = omega arith in grind (arith, nat_tests) in
                has_bit-set_here words i new within q here
                ∙ ap (λ k. nat_eq (bit_at new k) 1) same ∙ ap (λ b. nat_eq b 1) (bit_at_set_same w64 word (i % 64) below)
                ∙ ap (λ b. b || has_bit words q) (sym itself)
            | inr other ↦
                let differs : nat_eq q i ≡ false = let apart : q ≢ i = λ e. other (ap (λ n. n % 64) e) in grind (arith, nat_tests) in
                has_bit-set_here words i new within q here
                ∙ ap (λ b. nat_eq b 1) (bit_at_set_other w64 word (i % 64) below (q % 64) other)
                ∙ sym (has_bit-here words i q here)
                ∙ ap (λ b. b || has_bit words q) (sym differs)
          ]
        ]

-- `word |= 1 << bit` inserts the number of the bit into the set
pub bit_set-insert : (words : List ℕ) (i word : ℕ) → i / 64 < length words → word ≡ get_or words (i / 64) word
    → bit_set (set words (i / 64) (bit_or word (1 * 2 ^ (i % 64) % 2 ^ 64))) ≡ insert (bit_set words) i
bit_set-insert words i word within read =
    ap (λ w. bit_set (set words (i / 64) (bit_or w (1 * 2 ^ (i % 64) % 2 ^ 64)))) (get_or_read words (i / 64) word within read 0) ∙ bit_set-insert_there words i within

bit_set-remove_there : (words : List ℕ) (i : ℕ) → i / 64 < length words
    → bit_set (set words (i / 64) (bit_and (get_or words (i / 64) 0) (bit_not w64 (1 * 2 ^ (i % 64) % 2 ^ 64)))) ≡ remove (bit_set words) i
bit_set-remove_there words i within =
    bit_set-is _ _ (λ q. at q ∙ ap (λ b. not (nat_eq q i) && b) (sym (contains-bit_set words q)) ∙ sym (contains-remove_number (bit_set words) i q))
  where
    at : (q : ℕ) → has_bit (set words (i / 64) (bit_and (get_or words (i / 64) 0) (bit_not w64 (1 * 2 ^ (i % 64) % 2 ^ 64)))) q ≡ (not (nat_eq q i) && has_bit words q)
    at q =
        let word = get_or words (i / 64) 0 in
        let new = bit_and word (bit_not w64 (1 * 2 ^ (i % 64) % 2 ^ 64)) in
        let below : i % 64 < 64 = omega arith in
        elim (cases_eq (q / 64) (i / 64)) [
          | inr elsewhere ↦
              let differs : nat_eq q i ≡ false = let other : q ≢ i = λ e. elsewhere (ap (λ n. n / 64) e) in grind (arith, nat_tests) in
              has_bit-set_elsewhere words i new within q elsewhere ∙ ap (λ b. not b && has_bit words q) (sym differs)
          | inl here ↦ elim (cases_eq (q % 64) (i % 64)) [
            | inl same ↦
                let itself : nat_eq q i ≡ true = let one : q ≡ i = omega arith in grind (arith, nat_tests) in
                has_bit-set_here words i new within q here
                ∙ ap (λ k. nat_eq (bit_at new k) 1) same ∙ ap (λ b. nat_eq b 1) (bit_at_clear_same w64 word (i % 64) below)
                ∙ ap (λ b. not b && has_bit words q) (sym itself)
            | inr other ↦
                let differs : nat_eq q i ≡ false = let apart : q ≢ i = λ e. other (ap (λ n. n % 64) e) in grind (arith, nat_tests) in
                has_bit-set_here words i new within q here
                ∙ ap (λ b. nat_eq b 1) (bit_at_clear_other w64 word (i % 64) below (q % 64) (omega arith) other)
                ∙ sym (has_bit-here words i q here)
                ∙ ap (λ b. not b && has_bit words q) (sym differs)
          ]
        ]

-- `word &= !(1 << bit)` removes the number of the bit from the set
pub bit_set-remove : (words : List ℕ) (i word : ℕ) → i / 64 < length words → word ≡ get_or words (i / 64) word
    → bit_set (set words (i / 64) (bit_and word (bit_not w64 (1 * 2 ^ (i % 64) % 2 ^ 64)))) ≡ remove (bit_set words) i
bit_set-remove words i word within read =
    ap (λ w. bit_set (set words (i / 64) (bit_and w (bit_not w64 (1 * 2 ^ (i % 64) % 2 ^ 64))))) (get_or_read words (i / 64) word within read 0) ∙ bit_set-remove_there words i within

-- the set contains no number past the last word
pub contains-bit_set_past : (words : List ℕ) (i : ℕ) → length words ≤ i / 64 → contains (bit_set words) i ≡ false
contains-bit_set_past words i past = contains-bit_set words i ∙ has_bit-past words i past

pub remove-bit_set_past : (words : List ℕ) (i : ℕ) → length words ≤ i / 64 → remove (bit_set words) i ≡ bit_set words
remove-bit_set_past words i past = remove-absent (bit_set words) i (contains-bit_set_past words i past)

-- appending words without bits does not change the set
pub bit_set-append_zeros : (words : List ℕ) (n : ℕ) → bit_set (words ++ replicate n 0) ≡ bit_set words
bit_set-append_zeros words n = bit_set-is _ _ (λ q. has_bit-append_zeros words n q ∙ sym (contains-bit_set words q))

-- extending a vector with words without bits does not change the set, whether or not the allocation succeeds
pub bit_set-extended : (old new : List ℕ) (n len : ℕ) (granted : Bool) → len ≡ length old → len ≤ n
    → new ≡ cond granted (take n old ++ replicate (n - len) 0) old → bit_set new ≡ bit_set old
bit_set-extended old new n len false same longer is = ap bit_set is
bit_set-extended old new n len true same longer is =
    ap bit_set (is ∙ ap (λ xs. xs ++ replicate (n - len) 0) (take_all n old (omega arith))) ∙ bit_set-append_zeros old (n - len)

-- removing a last word without bits does not change the set
bit_set-take : (words : List ℕ) (last : ℕ) → suc last ≡ length words → get_or words last 0 ≡ 0 → bit_set (take last words) ≡ bit_set words
bit_set-take words last long none = bit_set-is _ _ (λ q. has_bit-take words last q long none ∙ sym (contains-bit_set words q))

pub bit_set-popped : (words new : List ℕ) (len word : ℕ) → len ≡ length words → 0 < len → word ≡ get_or words (len - 1) word → word ≡ 0
    → new ≡ take (len - 1) words → bit_set new ≡ bit_set words
bit_set-popped words new len word long some read none popped =
    ap bit_set popped ∙ bit_set-take words (len - 1) (omega arith) (sym (get_or_read words (len - 1) word (omega arith) read 0) ∙ none)

-- the empty list of words represents the empty set
pub bit_set-nil : bit_set [] ≡ empty
bit_set-nil = bit_set-is _ _ (λ q. has_bit-past [] q (omega arith) ∙ sym (contains-empty nat_cmp q))

pub bit_set-none : (words : List ℕ) → length words ≡ 0 → bit_set words ≡ empty
bit_set-none [] none = bit_set-nil
bit_set-none (word ∷ rest) none = absurd (omega arith)

-- if all words are 0, they are copies of 0, and otherwise some word is above 0
replicate-from_list_all : (words : List ℕ) → list_all (λ word. word == 0) words ≡ true → words ≡ replicate (length words) 0
replicate-from_list_all [] all = refl
replicate-from_list_all (zero ∷ rest) all = ap (λ xs. 0 ∷ xs) (replicate-from_list_all rest all)
replicate-from_list_all (suc word ∷ rest) all =
    let differs : (suc word == 0) ≡ false = grind (arith, nat_tests) in
    absurd (true≢false (sym all ∙ ap (λ b. b && list_all (λ other. other == 0) rest) differs))

nonzero_word-from_list_all : (words : List ℕ) → list_all (λ word. word == 0) words ≡ false → (k : ℕ) × (0 < get_or words k 0)
nonzero_word-from_list_all [] some = absurd (true≢false some)
nonzero_word-from_list_all (suc word ∷ rest) some = (0, omega arith)
nonzero_word-from_list_all (zero ∷ rest) some = let later = nonzero_word-from_list_all rest some in (suc later.0, later.1)

-- the words represent the empty set if and only if all of them are 0
pub bit_set-empty : (words : List ℕ) → ((i : ℕ) → get_or words i 0 < 2 ^ 64) → IsTrue (list_all (λ word. word == 0) words) ↔ (bit_set words ≡ empty)
bit_set-empty words fits = by (list_all (λ word. word == 0) words) refl
  where
    by : (b : Bool) → list_all (λ word. word == 0) words ≡ b → IsTrue b ↔ (bit_set words ≡ empty)
    by true all = (λ _. ap bit_set (replicate-from_list_all words all) ∙ bit_set-append_zeros [] (length words) ∙ bit_set-nil, λ _. search rules)
    by false some =
        let word = nonzero_word-from_list_all words some in
        let found = bit_at-trailing_zeros w64 (get_or words word.0 0) word.1 (fits word.0) in
        let number = word.0 * 64 + trailing_zeros w64 (get_or words word.0 0) in
        let set : has_bit words number ≡ true = has_bit-of_word words word.0 (trailing_zeros w64 (get_or words word.0 0)) found.0 found.1 in
        (λ no. absurd (search rules), λ is_empty. absurd (true≢false (sym (contains-bit_set words number ∙ set) ∙ ap (λ s. contains s number) is_empty ∙ contains-empty nat_cmp number)))
