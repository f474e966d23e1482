-- The bits of floats: the results of the shifts in the code, and bounds on the bits.
use Rattle.std.proofs.Common.{◌≡◌, ℕ, ◌+◌, ◌-◌, ◌*◌, ◌^◌, ◌%◌, ◌<◌, ◌≤◌, ◌∙◌, false, eqb, sym, subst, arith, refl}
use Rattle.std.proofs.lemmas.Bool.{ne_eqb}
use Rattle.std.proofs.lemmas.Nat.{shl_below, shl_whole, one_shl, mul-add-lt, mul-le, pow_pos}
use Rattle.std.proofs.Math.Pow.{pow_mono}
use Rattle.naga_ir.specs.Literal.{highest_bit, float_bits}
use Rattle.naga_ir.proofs.HighestBitLemmas.{highest_bit-unique}

pub float_bits-zero : (bias fraction : ℕ) → float_bits bias fraction 0 ≡ 0
unfolding float_bits
float_bits-zero bias fraction = refl

-- a byte with its highest bit at `place`, as a float whose fraction is wide enough
module _ (bias fraction byte place : ℕ) (exponents : bias ≤ 1023) (digits : 7 ≤ fraction) (fits : fraction ≤ 52) (within : place < 8) (low : 2 ^ place ≤ byte) (high : byte < 2 * 2 ^ place) where
  plain : ℕ
  plain = (bias + place) * 2 ^ fraction + (byte - 2 ^ place) * 2 ^ (fraction - place)

  float_bits-plain : float_bits bias fraction byte ≡ plain
  unfolding float_bits plain
  float_bits-plain =
      let test : eqb byte 0 ≡ false = ne_eqb byte 0 (λ e. omega (arith, pow_pos place, e)) in
      let at : highest_bit byte ≡ place = highest_bit-unique byte place within low high in
      rw (test, at)

  -- the shifts are truncated to 64 bits, which loses no bits
  shifts-plain : (bias + place) * 2 ^ fraction % 2 ^ 64 + (byte - 1 * 2 ^ place % 2 ^ 64) * 2 ^ (fraction - place) % 2 ^ 64 ≡ plain
  unfolding plain
  shifts-plain =
      let one : 1 * 2 ^ place % 2 ^ 64 ≡ 2 ^ place = one_shl place 64 (omega arith) in
      let top : (bias + place) * 2 ^ fraction % 2 ^ 64 ≡ (bias + place) * 2 ^ fraction = shl_whole (bias + place) 11 fraction 64 (omega arith) (omega arith) in
      let rest : (byte - 2 ^ place) * 2 ^ (fraction - place) % 2 ^ 64 ≡ (byte - 2 ^ place) * 2 ^ (fraction - place) = shl_whole (byte - 2 ^ place) place (fraction - place) 64 (omega arith) (omega arith) in
      rw (one, top, rest)

  pub shifts-bits : (bias + place) * 2 ^ fraction % 2 ^ 64 + (byte - 1 * 2 ^ place % 2 ^ 64) * 2 ^ (fraction - place) % 2 ^ 64 ≡ float_bits bias fraction byte
  shifts-bits = shifts-plain ∙ sym float_bits-plain

  -- the bits below the highest bit, shifted up, are less than the lowest bit of the exponent
  rest-lt : (byte - 2 ^ place) * 2 ^ (fraction - place) < 2 ^ fraction
  rest-lt =
      let whole : place + (fraction - place) ≡ fraction = omega arith in
      subst (λ n. (byte - 2 ^ place) * 2 ^ (fraction - place) < 2 ^ n) whole (shl_below (byte - 2 ^ place) place (fraction - place) (omega arith))

  -- the sum of the shifts has this bound, because the exponent is at most the bias plus 7
  pub shifts-lt : (bias + place) * 2 ^ fraction % 2 ^ 64 + (byte - 1 * 2 ^ place % 2 ^ 64) * 2 ^ (fraction - place) % 2 ^ 64 < 2 ^ fraction * (bias + 8)
  unfolding plain
  shifts-lt =
      subst (λ n. n < 2 ^ fraction * (bias + 8)) (sym shifts-plain) (mul-add-lt (bias + place) (2 ^ fraction) ((byte - 2 ^ place) * 2 ^ (fraction - place)) (bias + 8) (omega arith) rest-lt)

  pub shifts-fit : (bias + place) * 2 ^ fraction % 2 ^ 64 + (byte - 1 * 2 ^ place % 2 ^ 64) * 2 ^ (fraction - place) % 2 ^ 64 < 2 ^ 64
  shifts-fit =
      let power : 2 ^ fraction ≤ 2 ^ 52 = pow_mono fits in
      omega (arith, shifts-lt, mul-le (2 ^ fraction) (bias + 8) (2 ^ 52) 1031 power (omega arith))
