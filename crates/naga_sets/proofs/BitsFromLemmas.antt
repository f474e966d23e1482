-- The numbers of the set bits, and the steps of an iteration over them.
use Rattle.std.proofs.Common.{◌≡◌, ℕ, zero, suc, ◌+◌, ◌-◌, ◌*◌, ◌^◌, ◌<◌, ◌≤◌, true, List, [], ◌∷◌, length, get_or, refl, sym, ap, subst, ◌∙◌, inl, inr, arith}
use Rattle.std.proofs.lemmas.Bool.{cases_lt}
use Rattle.std.proofs.lemmas.List.Elements.{All-head, All-tail, All-weaker, filter_passes}
use Rattle.std.proofs.lemmas.List.Kept.{IsStrictlyIncreasing-filter}
use Rattle.std.proofs.lemmas.Nat.Bits.{bit_at-zero, bit_at-trailing_zeros}
use Rattle.std.specs.FinSet.{len}
use Rattle.std.specs.Int.{w64, trailing_zeros}
use Rattle.std.specs.List.{All, filter, range_with_len}
use Rattle.std.specs.List.Sorted.{IsStrictlyIncreasing}
use Rattle.std.specs.Prelude.{nat_eq, bit_and}
use Rattle.naga_sets.specs.Words.{has_bit, bits_from, bit_set}
use Rattle.naga_sets.proofs.BitAtLemmas.{bit_at-clear_lowest_same, bit_at-clear_lowest_other}
use Rattle.naga_sets.proofs.FilterLemmas.{IsStrictlyIncreasing-range_with_len, len-filter, filter-skip, filter-first}
use Rattle.naga_sets.proofs.HasBitLemmas.{has_bit-head, has_bit-tail}

-- the numbers of the set bits are strictly increasing
pub IsStrictlyIncreasing-bits_from : (first : ℕ) (words : List ℕ) → IsStrictlyIncreasing (bits_from first words)
unfolding bits_from
IsStrictlyIncreasing-bits_from first words =
    IsStrictlyIncreasing-filter (λ n. has_bit words (n - first)) (range_with_len first (64 * length words)) (IsStrictlyIncreasing-range_with_len first (64 * length words))

-- no number occurs twice, so the set has as many members as there are set bits
pub len-bit_set : (words : List ℕ) → len (bit_set words) ≡ length (bits_from 0 words)
unfolding bits_from
len-bit_set words = len-filter (λ n. has_bit words (n - 0)) 0 (64 * length words)

pub All-bits_from : (words : List ℕ) (bound : ℕ) → ((i : ℕ) → has_bit words i ≡ true → i < bound) → All (λ n. n < bound) (bits_from 0 words)
unfolding bits_from
All-bits_from words bound below =
    let same : (n : ℕ) → n - 0 ≡ n = λ n. omega arith in
    All-weaker (λ n. has_bit words (n - 0) ≡ true) (λ n. n < bound) (λ n passes. below n (sym (ap (has_bit words) (same n)) ∙ passes))
    (filter (λ n. has_bit words (n - 0)) (range_with_len 0 (64 * length words)))
    (filter_passes (λ n. has_bit words (n - 0)) (range_with_len 0 (64 * length words)))

-- a strictly increasing list of numbers below a bound is not longer than the bound
IsStrictlyIncreasing-get_or : (xs : List ℕ) → IsStrictlyIncreasing xs → (k : ℕ) → k < length xs → k ≤ get_or xs k 0
IsStrictlyIncreasing-get_or xs rises zero within = omega arith
IsStrictlyIncreasing-get_or xs rises (suc k) within =
    let next : k + 1 ≡ suc k = omega arith in
    let step : get_or xs k 0 < get_or xs (k + 1) 0 = rises k (omega arith) in
    omega (arith, IsStrictlyIncreasing-get_or xs rises k (omega arith), rw next at step)

IsStrictlyIncreasing-length : (xs : List ℕ) (bound : ℕ) → IsStrictlyIncreasing xs → All (λ n. n < bound) xs → length xs ≤ bound
IsStrictlyIncreasing-length xs bound rises below =
    elim (cases_lt 0 (length xs)) [
      | inl some ↦ omega (arith, below (length xs - 1) 0 (omega arith), IsStrictlyIncreasing-get_or xs rises (length xs - 1) (omega arith))
      | inr none ↦ omega arith
    ]

pub length-bits_from_le : (words : List ℕ) (bound : ℕ) → ((i : ℕ) → has_bit words i ≡ true → i < bound) → length (bits_from 0 words) ≤ bound
length-bits_from_le words bound below = IsStrictlyIncreasing-length (bits_from 0 words) bound (IsStrictlyIncreasing-bits_from 0 words) (All-bits_from words bound below)

-- the steps of an iteration: past the last word, over a word without bits, and at the lowest set bit of a word
bits_from-nil : (first : ℕ) → bits_from first [] ≡ []
unfolding bits_from
bits_from-nil first = refl

bits_from-no_bits : (first : ℕ) (rest : List ℕ) → bits_from first (0 ∷ rest) ≡ bits_from (first + 64) rest
unfolding bits_from
bits_from-no_bits first rest =
    let long : 64 * length (0 ∷ rest) ≡ 64 + 64 * length rest = omega arith in
    ap (λ n. filter (λ k. has_bit (0 ∷ rest) (k - first)) (range_with_len first n)) long
    ∙ filter-skip (λ k. has_bit (0 ∷ rest) (k - first)) (λ k. has_bit rest (k - (first + 64))) first 64 (64 * length rest)
    (λ k low high. has_bit-head 0 rest (k - first) (omega arith) ∙ ap (λ b. nat_eq b 1) (bit_at-zero (k - first)))
    (λ k low. (
    let less : k - first - 64 ≡ k - (first + 64) = omega arith in
    has_bit-tail 0 rest (k - first) (omega arith) ∙ ap (has_bit rest) less
    ))

pub bits_from-lowest : (first word : ℕ) (rest : List ℕ) → 0 < word → word < 2 ^ 64
    → bits_from first (word ∷ rest) ≡ (first + trailing_zeros w64 word) ∷ bits_from first (bit_and word (word - 1) ∷ rest)
unfolding bits_from
bits_from-lowest first word rest some small =
    let low = trailing_zeros w64 word in
    let found = bit_at-trailing_zeros w64 word some small in
    let within : low < 64 = found.0 in
    let at_low : first + low - first ≡ low = omega arith in
    let less = bit_and word (word - 1) in
    filter-first (λ k. has_bit (word ∷ rest) (k - first)) (λ k. has_bit (less ∷ rest) (k - first)) first (64 * length (word ∷ rest)) (first + low)
    (omega arith) (omega arith)
    (ap (has_bit (word ∷ rest)) at_low ∙ has_bit-head word rest low within ∙ ap (λ b. nat_eq b 1) found.1)
    (ap (has_bit (less ∷ rest)) at_low ∙ has_bit-head less rest low within ∙ ap (λ b. nat_eq b 1) (bit_at-clear_lowest_same word low found.1 found.2))
    (λ k above under. has_bit-head word rest (k - first) (omega arith) ∙ ap (λ b. nat_eq b 1) (found.2 (k - first) (omega arith)))
    (λ k above other. elim (cases_lt (k - first) 64) [
      | inl here ↦
          has_bit-head less rest (k - first) here
          ∙ ap (λ b. nat_eq b 1) (bit_at-clear_lowest_other word low found.1 found.2 (k - first) (λ e. other (omega arith)))
          ∙ sym (has_bit-head word rest (k - first) here)
      | inr later ↦ has_bit-tail less rest (k - first) later ∙ sym (has_bit-tail word rest (k - first) later)
    ])

-- an iteration at a word without bits continues with the next word, or ends
pub bits_from-next_word : (first word next : ℕ) (rest later : List ℕ) → word ≡ 0 → rest ≡ next ∷ later → bits_from (first + 64) (next ∷ later) ≡ bits_from first (word ∷ rest)
bits_from-next_word first word next rest later none more =
    sym (ap (bits_from (first + 64)) more) ∙ sym (bits_from-no_bits first rest) ∙ sym (ap (λ w. bits_from first (w ∷ rest)) none)

pub bits_from-no_word : (first word : ℕ) (rest : List ℕ) → word ≡ 0 → length rest ≡ 0 → bits_from first (word ∷ rest) ≡ []
bits_from-no_word first word [] none last = ap (λ w. bits_from first (w ∷ [])) none ∙ bits_from-no_bits first [] ∙ bits_from-nil (first + 64)
bits_from-no_word first word (next ∷ later) none last = absurd (omega arith)

pub bits_from-begins : (words rest : List ℕ) (word : ℕ) → words ≡ word ∷ rest → bits_from 0 (word ∷ rest) ≡ bits_from 0 words
bits_from-begins words rest word is = sym (ap (bits_from 0) is)

pub bits_from-begins_empty : (words : List ℕ) → length words ≡ 0 → bits_from 0 (0 ∷ words) ≡ bits_from 0 words
bits_from-begins_empty [] none = bits_from-no_word 0 0 [] refl refl ∙ sym (bits_from-nil 0)
bits_from-begins_empty (word ∷ rest) none = absurd (omega arith)

-- an iteration at a word with bits
module _ (first word : ℕ) (rest : List ℕ) (some : 0 < word) (small : word < 2 ^ 64) where
  pub bits_from-first_below : (bound : ℕ) → All (λ n. n < bound) (bits_from first (word ∷ rest)) → first + trailing_zeros w64 word < bound
  bits_from-first_below bound below =
      All-head (λ n. n < bound) (first + trailing_zeros w64 word) (bits_from first (bit_and word (word - 1) ∷ rest))
      (subst (All (λ n. n < bound)) (bits_from-lowest first word rest some small) below)

  pub bits_from-later_below : (bound : ℕ) → All (λ n. n < bound) (bits_from first (word ∷ rest)) → All (λ n. n < bound) (bits_from first (bit_and word (word - 1) ∷ rest))
  bits_from-later_below bound below =
      All-tail (λ n. n < bound) (first + trailing_zeros w64 word) (bits_from first (bit_and word (word - 1) ∷ rest))
      (subst (All (λ n. n < bound)) (bits_from-lowest first word rest some small) below)
