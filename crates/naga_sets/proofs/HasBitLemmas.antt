-- The bits of a list of words: which bit of which word is bit `i`.
use Rattle.std.proofs.Common.{◌≡◌, ◌≢◌, ℕ, zero, suc, ◌+◌, ◌-◌, ◌*◌, ◌/◌, ◌%◌, ◌^◌, ◌<◌, ◌≤◌, true, false, List, [], ◌∷◌, ◌++◌, length, take, get_or, refl, sym, ap, ◌∙◌, inl, inr, arith}
use Rattle.std.proofs.Math.ListN.{set, replicate}
use Rattle.std.proofs.lemmas.Bool.{cases_eq, cases_lt}
use Rattle.std.proofs.lemmas.List.{get_or-set_same, get_or-set_other, get_or_past, get_or_read, get_or-take, length-take}
use Rattle.std.proofs.lemmas.Nat.Bits.{shr_and_one, bit_at-zero}
use Rattle.std.specs.Int.{bit_at}
use Rattle.std.specs.Prelude.{nat_eq, bit_and}
use Rattle.naga_sets.specs.Words.{has_bit}

-- no bit past the last word is set
pub has_bit-past : (words : List ℕ) (i : ℕ) → length words ≤ i / 64 → has_bit words i ≡ false
unfolding has_bit
has_bit-past words i past =
    ap (λ w. nat_eq (bit_at w (i % 64)) 1) (get_or_past words (i / 64) 0 past) ∙ ap (λ b. nat_eq b 1) (bit_at-zero (i % 64))

-- the bits of the first word, and of the later words
pub has_bit-head : (word : ℕ) (rest : List ℕ) (i : ℕ) → i < 64 → has_bit (word ∷ rest) i ≡ nat_eq (bit_at word i) 1
unfolding has_bit
has_bit-head word rest i within =
    let position : i / 64 ≡ 0 = omega arith in
    let bit : i % 64 ≡ i = omega arith in
    ap (λ k. nat_eq (bit_at (get_or (word ∷ rest) k 0) (i % 64)) 1) position ∙ ap (λ k. nat_eq (bit_at word k) 1) bit

pub has_bit-tail : (word : ℕ) (rest : List ℕ) (i : ℕ) → 64 ≤ i → has_bit (word ∷ rest) i ≡ has_bit rest (i - 64)
unfolding has_bit
has_bit-tail word rest i past =
    let position : i / 64 ≡ suc ((i - 64) / 64) = omega arith in
    let bit : i % 64 ≡ (i - 64) % 64 = omega arith in
    ap (λ k. nat_eq (bit_at (get_or (word ∷ rest) k 0) (i % 64)) 1) position ∙ ap (λ k. nat_eq (bit_at (get_or rest ((i - 64) / 64) 0) k) 1) bit

-- replacing one word
module _ (words : List ℕ) (i word : ℕ) (within : i / 64 < length words) where
  pub has_bit-set_here : (q : ℕ) → q / 64 ≡ i / 64 → has_bit (set words (i / 64) word) q ≡ nat_eq (bit_at word (q % 64)) 1
  unfolding has_bit
  has_bit-set_here q here =
      ap (λ k. nat_eq (bit_at (get_or (set words (i / 64) word) k 0) (q % 64)) 1) here
      ∙ ap (λ w. nat_eq (bit_at w (q % 64)) 1) (get_or-set_same words (i / 64) word 0 within)

  pub has_bit-set_elsewhere : (q : ℕ) → q / 64 ≢ i / 64 → has_bit (set words (i / 64) word) q ≡ has_bit words q
  unfolding has_bit
  has_bit-set_elsewhere q elsewhere = ap (λ w. nat_eq (bit_at w (q % 64)) 1) (get_or-set_other words (i / 64) (q / 64) word 0 elsewhere)

-- a bit of the words is a bit of the word in which it is
pub has_bit-here : (words : List ℕ) (i q : ℕ) → q / 64 ≡ i / 64 → has_bit words q ≡ nat_eq (bit_at (get_or words (i / 64) 0) (q % 64)) 1
unfolding has_bit
has_bit-here words i q here = ap (λ k. nat_eq (bit_at (get_or words k 0) (q % 64)) 1) here

-- `word >> bit & 1 == 1` if and only if the bit is set
pub has_bit-shifted : (words : List ℕ) (i word : ℕ) → i / 64 < length words → word ≡ get_or words (i / 64) word
    → nat_eq (bit_and (word / 2 ^ (i % 64)) 1) 1 ≡ has_bit words i
has_bit-shifted words i word within read =
    ap (λ b. nat_eq b 1) (shr_and_one word (i % 64) ∙ ap (λ w. bit_at w (i % 64)) (get_or_read words (i / 64) word within read 0)) ∙ sym (has_bit-here words i i refl)

-- a bit of a word is a bit of the words
pub has_bit-of_word : (words : List ℕ) (k t : ℕ) → t < 64 → bit_at (get_or words k 0) t ≡ 1 → has_bit words (k * 64 + t) ≡ true
unfolding has_bit
has_bit-of_word words k t below is =
    let position : (k * 64 + t) / 64 ≡ k = omega arith in
    let low : (k * 64 + t) % 64 ≡ t = omega arith in
    ap (λ n. nat_eq (bit_at (get_or words n 0) ((k * 64 + t) % 64)) 1) position
    ∙ ap (λ n. nat_eq (bit_at (get_or words k 0) n) 1) low
    ∙ ap (λ b. nat_eq b 1) is

-- appending words without bits sets no bit
get_or-append_zeros : (words : List ℕ) (n k : ℕ) → get_or (words ++ replicate n 0) k 0 ≡ get_or words k 0
get_or-append_zeros (word ∷ words) n zero = refl
get_or-append_zeros (word ∷ words) n (suc k) = get_or-append_zeros words n k
get_or-append_zeros [] zero k = refl
get_or-append_zeros [] (suc n) zero = refl
get_or-append_zeros [] (suc n) (suc k) = get_or-append_zeros [] n k

pub has_bit-append_zeros : (words : List ℕ) (n q : ℕ) → has_bit (words ++ replicate n 0) q ≡ has_bit words q
unfolding has_bit
has_bit-append_zeros words n q = ap (λ w. nat_eq (bit_at w (q % 64)) 1) (get_or-append_zeros words n (q / 64))

-- removing a last word without bits clears no bit
get_or-take_rest : (words : List ℕ) (last k : ℕ) → suc last ≡ length words → get_or words last 0 ≡ 0 → get_or (take last words) k 0 ≡ get_or words k 0
get_or-take_rest words last k long none =
    elim (cases_lt k last) [
      | inl before ↦ get_or-take last words k 0 before
      | inr from ↦
          let short : length (take last words) ≤ k = omega (arith, length-take last words) in
          get_or_past (take last words) k 0 short ∙ elim (cases_eq k last) [
            | inl same ↦ sym (ap (λ i. get_or words i 0) same ∙ none)
            | inr other ↦ sym (get_or_past words k 0 (omega arith))
          ]
    ]

pub has_bit-take : (words : List ℕ) (last q : ℕ) → suc last ≡ length words → get_or words last 0 ≡ 0 → has_bit (take last words) q ≡ has_bit words q
unfolding has_bit
has_bit-take words last q long none = ap (λ w. nat_eq (bit_at w (q % 64)) 1) (get_or-take_rest words last (q / 64) long none)
