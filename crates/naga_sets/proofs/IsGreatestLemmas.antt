-- The greatest member of a set, found from its last word backwards.
use Rattle.std.proofs.Common.{◌≡◌, ℕ, suc, ◌+◌, ◌-◌, ◌*◌, ◌/◌, ◌%◌, ◌^◌, ◌<◌, ◌≤◌, true, false, List, length, get_or, sym, ap, subst, ◌∙◌, inl, inr, arith, true≢false}
use Rattle.std.proofs.lemmas.Bool.{cases_eq, cases_lt}
use Rattle.std.proofs.lemmas.List.{get_or_read}
use Rattle.std.proofs.lemmas.Nat.{leading_top}
use Rattle.std.proofs.lemmas.Nat.Bits.{bit_at_above}
use Rattle.std.specs.FinSet.{FinSet, remove, len}
use Rattle.std.specs.Int.{bit_at, w64, leading_zeros}
use Rattle.std.specs.Ordering.{nat_cmp}
use Rattle.std.specs.Prelude.{nat_eq}
use Rattle.naga_sets.specs.HandleSet.{IsGreatest}
use Rattle.naga_sets.specs.Words.{has_bit, bit_set}
use Rattle.naga_sets.proofs.BitAtLemmas.{bit_at-highest}
use Rattle.naga_sets.proofs.BitSetLemmas.{contains-bit_set}
use Rattle.naga_sets.proofs.FinSetLemmas.{len-remove_member}
use Rattle.naga_sets.proofs.HasBitLemmas.{has_bit-past}

-- if the last word has a set bit, its highest set bit is that of the greatest member
IsGreatest-highest : (words : List ℕ) (last word : ℕ) → suc last ≡ length words → get_or words last 0 ≡ word → 0 < word → word < 2 ^ 64
    → IsGreatest (bit_set words) (last * 64 + (63 - leading_zeros w64 word))
unfolding has_bit
IsGreatest-highest words last word long is some small =
    let top = leading_top 64 word some small in
    let bit = top.0 in
    let j : 63 - leading_zeros w64 word ≡ bit = omega (arith, top.1) in
    rw j (record {
      member =
          let position : (last * 64 + bit) / 64 ≡ last = omega (arith, top.1) in
          let low : (last * 64 + bit) % 64 ≡ bit = omega (arith, top.1) in
          contains-bit_set words (last * 64 + bit)
          ∙ ap (λ k. nat_eq (bit_at (get_or words k 0) ((last * 64 + bit) % 64)) 1) position
          ∙ ap (λ k. nat_eq (bit_at (get_or words last 0) k) 1) low
          ∙ ap (λ w. nat_eq (bit_at w bit) 1) is
          ∙ ap (λ b. nat_eq b 1) (bit_at-highest word bit top.2 top.3);
      above_all = λ q member. within q (sym (contains-bit_set words q) ∙ member);
    })
  where
    clear : (q : ℕ) → last * 64 + (leading_top 64 word some small).0 < q → has_bit words q ≡ false
    clear q beyond =
        let top = leading_top 64 word some small in
        elim (cases_eq (q / 64) last) [
          | inl here ↦
              ap (λ k. nat_eq (bit_at (get_or words k 0) (q % 64)) 1) here
              ∙ ap (λ w. nat_eq (bit_at w (q % 64)) 1) is
              ∙ ap (λ b. nat_eq b 1) (bit_at_above word (suc top.0) (q % 64) top.3 (omega (arith, top.1)))
          | inr other ↦ has_bit-past words q (omega (arith, top.1))
        ]

    within : (q : ℕ) → has_bit words q ≡ true → q ≤ last * 64 + (leading_top 64 word some small).0
    within q set =
        let top = leading_top 64 word some small in
        elim (cases_lt (last * 64 + top.0) q) [
          | inr at_most ↦ at_most
          | inl beyond ↦ absurd (true≢false (sym set ∙ clear q beyond))
        ]

-- the search for the greatest member, from the last word backwards
pub IsGreatest-last_word : (words : List ℕ) (members : FinSet nat_cmp) (len word : ℕ) → bit_set words ≡ members → len ≡ length words → 0 < len
    → word ≡ get_or words (len - 1) word → 0 < word → word < 2 ^ 64 → IsGreatest members ((len - 1) * 64 + (63 - leading_zeros w64 word))
IsGreatest-last_word words members len word same long some read set small =
    let last : suc (len - 1) ≡ length words = omega arith in
    subst (λ s. IsGreatest s ((len - 1) * 64 + (63 - leading_zeros w64 word))) same
    (IsGreatest-highest words (len - 1) word last (sym (get_or_read words (len - 1) word (omega arith) read 0)) set small)

-- without its greatest member, a set has one member fewer
pub len-remove_greatest : (members left : FinSet nat_cmp) (i : ℕ) → IsGreatest members i → left ≡ remove members i → len members ≡ len left + 1
len-remove_greatest members left i greatest removed = len-remove_member members i greatest.member ∙ ap (λ s. len s + 1) (sym removed)

-- a set has at most one greatest member
pub IsGreatest-unique : (members : FinSet nat_cmp) (first second : ℕ) → IsGreatest members first → IsGreatest members second → first ≡ second
IsGreatest-unique members first second greatest other =
    omega (arith, greatest.above_all second other.member, other.above_all first greatest.member)
