-- Numbers that have only their lowest bits set.
use Rattle.std.proofs.Common.{◌≡◌, ◌<◌, ◌-◌, ◌^◌, ◌↔◌, ℕ, subst, ◌∙◌, bit_and}
use Rattle.std.proofs.Math.Nat.{mod-eq_of_lt}
use Rattle.std.proofs.lemmas.Nat.{and_mask}
use Rattle.std.specs.Int.Bits.{mask_lt}

-- only the lowest `k` bits of `n` are set if and only if `n` is below `2 ^ k`
pub bit_and-mask : (n k : ℕ) → (bit_and n (2 ^ k - 1) ≡ n) ↔ (n < 2 ^ k)
bit_and-mask n k = (λ same. subst (λ m. m < 2 ^ k) same (mask_lt n k), λ below. and_mask n k ∙ mod-eq_of_lt below)
