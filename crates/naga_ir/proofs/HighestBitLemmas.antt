-- The position of the highest bit of a byte, by the powers of two between which the byte is.
use Rattle.std.proofs.Common.{◌≡◌, ℕ, suc, zero, ◌-◌, ◌*◌, ◌^◌, ◌<◌, ◌≤◌, arith}
use Rattle.std.specs.Int.{leading_zeros, w8}
use Rattle.std.specs.Int.Count.{leading_unique}
use Rattle.std.proofs.lemmas.Nat.{leading_top}
use Rattle.std.proofs.Math.Nat.{pow-suc}
use Rattle.naga_ir.specs.Literal.{highest_bit}

-- only the position of the highest bit has these bounds on the byte
pub highest_bit-unique : (byte place : ℕ) → place < 8 → 2 ^ place ≤ byte → byte < 2 * 2 ^ place → highest_bit byte ≡ place
highest_bit-unique byte place within low high =
    let zeros : 7 - place ≡ leading_zeros w8 byte = leading_unique 8 byte (7 - place) (suc place) (omega arith) (rw pow-suc (omega arith)) (rw pow-suc (omega arith)) in
    omega arith

-- the byte has these bounds for the position of its highest bit, unless it is 0
pub highest_bit-within : (byte : ℕ) → zero < byte → byte < 2 ^ 8 → (2 ^ highest_bit byte ≤ byte) × (byte < 2 * 2 ^ highest_bit byte)
highest_bit-within byte positive fits =
    let top = leading_top 8 byte positive fits in
    let place : highest_bit byte ≡ top.0 = omega (arith, top.1) in
    let greatest : byte < 2 * 2 ^ top.0 = omega (arith, rw pow-suc at top.3) in
    rw place (top.2, greatest)
