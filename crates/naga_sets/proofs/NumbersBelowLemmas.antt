-- The set of all numbers below a bound, and the words that represent it.
use Rattle.std.proofs.Common.{◌≡◌, ℕ, zero, suc, ◌+◌, ◌-◌, ◌*◌, ◌/◌, ◌%◌, ◌^◌, ◌<◌, ◌≤◌, true, ◌||◌, List, [], ◌∷◌, ◌++◌, length, sym, ap, ◌∙◌, inl, inr, arith}
use Rattle.std.proofs.Math.ListN.{replicate}
use Rattle.std.proofs.lemmas.Bool.{cases_eq, cases_lt}
use Rattle.std.proofs.lemmas.Bool.Decides.{nat_tests}
use Rattle.std.proofs.lemmas.List.{get_or-replicate, get_or_append_left, get_or_at, length-replicate, length-append}
use Rattle.std.proofs.lemmas.Nat.{one_shl}
use Rattle.std.proofs.lemmas.Nat.Bits.{bit_at_ones, bit_at_ones_above}
use Rattle.std.specs.FinSet.{contains, contains-empty}
use Rattle.std.specs.Int.{bit_at}
use Rattle.std.specs.Ordering.{nat_cmp}
use Rattle.std.specs.Prelude.{nat_eq, nat_lt}
use Rattle.naga_sets.specs.HandleSet.{numbers_below}
use Rattle.naga_sets.specs.Words.{has_bit, bit_set}
use Rattle.naga_sets.proofs.BitSetLemmas.{bit_set-is}
use Rattle.naga_sets.proofs.FinSetLemmas.{contains-insert_number}
use Rattle.naga_sets.proofs.HasBitLemmas.{has_bit-past, has_bit-append_zeros}

-- the set of the numbers below a bound contains exactly these
pub contains-numbers_below : (n q : ℕ) → contains (numbers_below n) q ≡ nat_lt q n
contains-numbers_below zero q = contains-empty nat_cmp q ∙ grind (arith, nat_tests)
contains-numbers_below (suc n) q = contains-insert_number (numbers_below n) n q ∙ ap (λ b. nat_eq q n || b) (contains-numbers_below n q) ∙ split
  where
    split : (nat_eq q n || nat_lt q n) ≡ nat_lt q (suc n)
    split = grind (arith, nat_tests)

-- words in which exactly the bits below a bound are set
has_bit-before_last : (words : ℕ) (last : List ℕ) (q : ℕ) → q / 64 < words → has_bit (replicate words (2 ^ 64 - 1) ++ last) q ≡ true
unfolding has_bit
has_bit-before_last words last q within =
    let long : q / 64 < length (replicate words (2 ^ 64 - 1)) = omega (arith, length-replicate words (2 ^ 64 - 1)) in
    ap (λ w. nat_eq (bit_at w (q % 64)) 1) (get_or_append_left (replicate words (2 ^ 64 - 1)) last 0 (q / 64) long ∙ get_or-replicate words (q / 64) (2 ^ 64 - 1) 0 within)
    ∙ ap (λ b. nat_eq b 1) (bit_at_ones 64 (q % 64) (omega arith))

has_bit-in_last : (words left : ℕ) (q : ℕ) → q / 64 ≡ words → has_bit (replicate words (2 ^ 64 - 1) ++ (2 ^ left - 1) ∷ []) q ≡ nat_lt (q % 64) left
unfolding has_bit
has_bit-in_last words left q here =
    ap (λ w. nat_eq (bit_at w (q % 64)) 1) (get_or_at (replicate words (2 ^ 64 - 1)) (2 ^ left - 1) [] 0 (q / 64) (length-replicate words (2 ^ 64 - 1) ∙ sym here))
    ∙ elim (cases_lt (q % 64) left) [
      | inl within ↦ ap (λ b. nat_eq b 1) (bit_at_ones left (q % 64) within) ∙ grind (arith, nat_tests)
      | inr past ↦ ap (λ b. nat_eq b 1) (bit_at_ones_above left (q % 64) past) ∙ grind (arith, nat_tests)
    ]

has_bit-full : (words left q : ℕ) → left < 64 → has_bit (replicate words (2 ^ 64 - 1) ++ (2 ^ left - 1) ∷ []) q ≡ nat_lt q (64 * words + left)
has_bit-full words left q small =
    elim (cases_lt (q / 64) words) [
      | inl within ↦ has_bit-before_last words ((2 ^ left - 1) ∷ []) q within ∙ grind (arith, nat_tests)
      | inr at_least ↦ elim (cases_eq (q / 64) words) [
        | inl here ↦ has_bit-in_last words left q here ∙ grind (arith, nat_tests)
        | inr other ↦
            let past : length (replicate words (2 ^ 64 - 1) ++ (2 ^ left - 1) ∷ []) ≤ q / 64 =
            omega (arith, length-append (replicate words (2 ^ 64 - 1)) ((2 ^ left - 1) ∷ []), length-replicate words (2 ^ 64 - 1)) in
            has_bit-past (replicate words (2 ^ 64 - 1) ++ (2 ^ left - 1) ∷ []) q past ∙ grind (arith, nat_tests)
      ]
    ]

has_bit-full_words : (words q : ℕ) → has_bit (replicate words (2 ^ 64 - 1)) q ≡ nat_lt q (64 * words)
has_bit-full_words words q =
    sym (has_bit-append_zeros (replicate words (2 ^ 64 - 1)) 1 q) ∙ has_bit-full words 0 q (omega arith) ∙ ap (nat_lt q) (omega arith)

bit_set-full : (words left : ℕ) → left < 64 → bit_set (replicate words (2 ^ 64 - 1) ++ (2 ^ left - 1) ∷ []) ≡ numbers_below (64 * words + left)
bit_set-full words left small = bit_set-is _ _ (λ q. has_bit-full words left q small ∙ sym (contains-numbers_below (64 * words + left) q))

bit_set-full_words : (words : ℕ) → bit_set (replicate words (2 ^ 64 - 1)) ≡ numbers_below (64 * words)
bit_set-full_words words = bit_set-is _ _ (λ q. has_bit-full_words words q ∙ sym (contains-numbers_below (64 * words) q))

pub bit_set-filled : (items : List ℕ) (bound : ℕ) → items ≡ replicate (bound / 64) (2 ^ 64 - 1) ++ (1 * 2 ^ (bound % 64) % 2 ^ 64 - 1) ∷ [] → bit_set items ≡ numbers_below bound
bit_set-filled items bound is =
    ap bit_set is
    ∙ ap (λ bit. bit_set (replicate (bound / 64) (2 ^ 64 - 1) ++ (bit - 1) ∷ [])) (one_shl (bound % 64) 64 (omega arith))
    ∙ bit_set-full (bound / 64) (bound % 64) (omega arith)
    ∙ ap numbers_below (omega arith)

pub bit_set-filled_words : (items : List ℕ) (bound : ℕ) → items ≡ replicate (bound / 64) (2 ^ 64 - 1) → bound % 64 ≤ 0 → bit_set items ≡ numbers_below bound
bit_set-filled_words items bound is none = ap bit_set is ∙ bit_set-full_words (bound / 64) ∙ ap numbers_below (omega arith)
