-- The bits of one word, and its lowest and its highest set bit.
use Rattle.std.proofs.Common.{◌≡◌, ◌≢◌, ℕ, zero, suc, ◌+◌, ◌-◌, ◌*◌, ◌/◌, ◌%◌, ◌^◌, ◌<◌, ◌≤◌, not, sym, ap, ◌∙◌, inl, inr, arith}
use Rattle.std.proofs.Math.Nat.{zero-mul, mod-lt, zero-min, min-zero, min-eq_left, two-pow-succ}
use Rattle.std.proofs.lemmas.Bool.{cases_eq, cases_lt}
use Rattle.std.proofs.lemmas.Bool.Decides.{nat_tests}
use Rattle.std.proofs.lemmas.Nat.{one_shl, pow_pos, div-add-mod', pow_below, div_below, le-div}
use Rattle.std.proofs.lemmas.Nat.Bits.{and_pow, bit_at-lt, bit_at_ones_above, same_from_bits_below, bit_at_and, bit_at_cat_low, bit_at_cat_high, bit_at-pow_same, bit_at-pow_other}
use Rattle.std.specs.Int.{bit_at}
use Rattle.std.specs.Prelude.{nat_eq, bit_and, min}

-- `word & 1 << bit == 0` if and only if the bit is clear
pub bit_and-one_shl : (word k : ℕ) → k < 64 → nat_eq (bit_and word (1 * 2 ^ k % 2 ^ 64)) 0 ≡ not (nat_eq (bit_at word k) 1)
bit_and-one_shl word k below =
    ap (λ m. nat_eq (bit_and word m) 0) (one_shl k 64 below) ∙ ap (λ n. nat_eq n 0) (and_pow word k) ∙ by (bit_at word k) (bit_at-lt word k)
  where
    by : (b : ℕ) → b < 2 → nat_eq (b * 2 ^ k) 0 ≡ not (nat_eq b 1)
    by zero small = ap (λ n. nat_eq n 0) (zero-mul (2 ^ k))
    by (suc zero) small =
        let some : 0 < 1 * 2 ^ k = omega (arith, pow_pos k) in
        grind (arith, nat_tests)
    by (suc (suc b)) small = absurd (omega arith)

-- a word whose lowest set bit is `t` is the sum of that bit and the bits above it
word-split_lowest : (word t : ℕ) → bit_at word t ≡ 1 → ((i : ℕ) → i < t → bit_at word i ≡ 0) → word ≡ word / 2 ^ (t + 1) * 2 ^ (t + 1) + 2 ^ t
word-split_lowest word t here below =
    let low = word % 2 ^ (t + 1) in
    let whole : word / 2 ^ (t + 1) * 2 ^ (t + 1) + low ≡ word = div-add-mod' word (2 ^ (t + 1)) in
    let low_bit : (i : ℕ) → i < t + 1 → bit_at low i ≡ bit_at word i =
    λ i within. sym (bit_at_cat_low (word / 2 ^ (t + 1)) (t + 1) low i within) ∙ ap (λ n. bit_at n i) whole in
    let alone : (i : ℕ) → i < t + 1 → bit_at low i ≡ bit_at (2 ^ t) i =
    λ i within. elim (cases_eq i t) [
      | inl same ↦ low_bit i within ∙ ap (bit_at word) same ∙ here ∙ sym (ap (bit_at (2 ^ t)) same ∙ bit_at-pow_same t)
      | inr other ↦ low_bit i within ∙ below i (omega arith) ∙ sym (bit_at-pow_other t i other)
    ] in
    sym whole ∙ ap (λ n. word / 2 ^ (t + 1) * 2 ^ (t + 1) + n) (same_from_bits_below (t + 1) low (2 ^ t) (mod-lt word (pow_pos (t + 1))) (pow_below t (t + 1) (omega arith)) alone)

module _ (word t : ℕ) (here : bit_at word t ≡ 1) (below : (i : ℕ) → i < t → bit_at word i ≡ 0) where
  -- the word minus 1 has the same bits above the lowest set bit, and not that bit itself
  word-less_one : word - 1 ≡ word / 2 ^ (t + 1) * 2 ^ (t + 1) + (2 ^ t - 1)
  word-less_one = omega (arith, word-split_lowest word t here below, pow_pos t)

  pub bit_at-clear_lowest_same : bit_at (bit_and word (word - 1)) t ≡ 0
  bit_at-clear_lowest_same =
      let gone : bit_at (word - 1) t ≡ 0 =
      ap (λ n. bit_at n t) word-less_one ∙ bit_at_cat_low (word / 2 ^ (t + 1)) (t + 1) (2 ^ t - 1) t (omega arith) ∙ bit_at_ones_above t t (omega arith) in
      bit_at_and word (word - 1) t ∙ ap (min (bit_at word t)) gone ∙ min-zero (bit_at word t)

  pub bit_at-clear_lowest_other : (i : ℕ) → i ≢ t → bit_at (bit_and word (word - 1)) i ≡ bit_at word i
  bit_at-clear_lowest_other i other =
      bit_at_and word (word - 1) i ∙ elim (cases_lt i t) [
        | inl before ↦ ap (λ n. min n (bit_at (word - 1) i)) (below i before) ∙ zero-min (bit_at (word - 1) i) ∙ sym (below i before)
        | inr after ↦
            let high : t + 1 ≤ i = omega arith in
            let small : 2 ^ t - 1 < 2 ^ (t + 1) = omega (arith, pow_below t (t + 1) (omega arith)) in
            let same : bit_at (word - 1) i ≡ bit_at word i =
            ap (λ n. bit_at n i) word-less_one ∙ bit_at_cat_high (word / 2 ^ (t + 1)) (t + 1) (2 ^ t - 1) i small high
            ∙ sym (ap (λ n. bit_at n i) (word-split_lowest word t here below) ∙ bit_at_cat_high (word / 2 ^ (t + 1)) (t + 1) (2 ^ t) i (pow_below t (t + 1) (omega arith)) high) in
            ap (min (bit_at word i)) same ∙ min-eq_left (omega arith)
      ]

-- a word that is at least `2 ^ j` and below `2 ^ (j + 1)` has bit `j` set
pub bit_at-highest : (word j : ℕ) → 2 ^ j ≤ word → word < 2 ^ suc j → bit_at word j ≡ 1
bit_at-highest word j low high =
    let one : word / 2 ^ j ≡ 1 = omega (arith, le-div 1 word (2 ^ j) (pow_pos j) (omega arith), div_below word (2 ^ j) 2 (pow_pos j) (omega (arith, high, two-pow-succ j))) in
    ap (λ n. n % 2) one
