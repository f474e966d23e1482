-- The hexadecimal digits of a number, one after another.
use Rattle.std.proofs.Common.{◌≡◌, ◌∙◌, ap, sym, refl, arith, ℕ, zero, suc, ◌/◌, ◌%◌, ◌<◌, ◌^◌, List, [], ◌++◌, append_assoc, false}
use Rattle.std.specs.Prelude.{if◌then◌else◌}
use Rattle.std.specs.Fmt.{digits}
use Rattle.std.proofs.Math.Nat.{pow-suc}
use Rattle.std.proofs.lemmas.Bool.{eq-eqb, ne_eqb}
use Rattle.std.proofs.lemmas.List.{append-nil}
use Rattle.std.proofs.lemmas.Nat.{mod_below}
use Rattle.naga_wgsl.specs.Floats.{fraction_digits, leading_digits}

-- the digits of a number are written up to a place, the unit of which is this one, and the rest is what its later digits are of
pub record IsReached (whole written : List ℕ) (rest unit : ℕ) : Type 0 where
  pub count : ℕ
  pub unit-is : unit ≡ 16 ^ count / 16
  pub below : rest < 16 ^ count
  pub whole-is : whole ≡ written ++ leading_digits count rest

-- no digits are written
pub reached-first : (written : List ℕ) (number : ℕ) → number < 2 ^ 52 → IsReached (written ++ fraction_digits number) written number (2 ^ 48)
unfolding fraction_digits
reached-first written number small = record { count = 13; unit-is = refl; below = small; whole-is = refl }

unit-of : (count unit : ℕ) → unit ≡ 16 ^ suc count / 16 → unit ≡ 16 ^ count
unit-of count unit is = omega (arith, is, pow-suc 16 count)

positive-by : (count rest unit : ℕ) → unit ≡ 16 ^ count / 16 → rest < 16 ^ count → 0 < rest → 0 < unit
positive-by zero rest unit is below some = absurd (omega (arith, below, some))
positive-by (suc count) rest unit is below some = omega (arith, unit-of count unit is, below, some, pow-suc 16 count)

-- a place that is left has a unit
pub unit-positive : (whole written : List ℕ) (rest unit : ℕ) → IsReached whole written rest unit → 0 < rest → 0 < unit
unit-positive whole written rest unit reached some = positive-by reached.count rest unit reached.unit-is reached.below some

-- the digits of a number that is not 0: the first one, and the others
pub leading_digits-next : (count rest : ℕ) → 0 < rest → leading_digits (suc count) rest ≡ digits 16 false (rest / 16 ^ count) ++ leading_digits count (rest % 16 ^ count)
leading_digits-next count rest some =
    ap (λ b. if b then [] else (digits 16 false (rest / 16 ^ count) ++ leading_digits count (rest % 16 ^ count))) (ne_eqb rest 0 (λ e. omega (arith, some, e)))

next-by : (whole written : List ℕ) (count rest : ℕ) → 0 < rest → rest < 16 ^ suc count → whole ≡ written ++ leading_digits (suc count) rest
    → IsReached whole (written ++ digits 16 false (rest / 16 ^ count)) (rest % 16 ^ count) (16 ^ count / 16)
next-by whole written count rest some below is =
    let unit-some : 0 < 16 ^ count = omega (arith, some, below, pow-suc 16 count) in
    record {
      count = count;
      unit-is = refl;
      below = mod_below rest (16 ^ count) unit-some;
      whole-is = is ∙ ap (λ rest. written ++ rest) (leading_digits-next count rest some) ∙ sym (append_assoc written (digits 16 false (rest / 16 ^ count)) (leading_digits count (rest % 16 ^ count)));
    }

turn-by : (whole written : List ℕ) (count rest unit : ℕ) → unit ≡ 16 ^ count / 16 → rest < 16 ^ count → whole ≡ written ++ leading_digits count rest → 0 < rest
    → IsReached whole (written ++ digits 16 false (rest / unit)) (rest % unit) (unit / 16)
turn-by whole written zero rest unit unit-is below is some = absurd (omega (arith, below, some))
turn-by whole written (suc count) rest unit unit-is below is some =
    rw (unit-of count unit unit-is) (next-by whole written count rest some below is)

-- one more digit is written
pub reached-next : (whole written : List ℕ) (rest unit : ℕ) → IsReached whole written rest unit → 0 < rest
    → IsReached whole (written ++ digits 16 false (rest / unit)) (rest % unit) (unit / 16)
reached-next whole written rest unit reached some =
    turn-by whole written reached.count rest unit reached.unit-is reached.below reached.whole-is some

-- 0 has no digits
pub leading_digits-zero : (count rest : ℕ) → rest ≡ 0 → leading_digits count rest ≡ []
leading_digits-zero zero rest none = refl
leading_digits-zero (suc count) rest none =
    ap (λ b. if b then [] else (digits 16 false (rest / 16 ^ count) ++ leading_digits count (rest % 16 ^ count))) (eq-eqb rest 0 none)

-- all digits are written
pub reached-last : (whole written : List ℕ) (rest unit : ℕ) → IsReached whole written rest unit → rest ≡ 0 → written ≡ whole
reached-last whole written rest unit reached none =
    sym (reached.whole-is ∙ ap (λ later. written ++ later) (leading_digits-zero reached.count rest none) ∙ append-nil written)
