-- The texts of floats: hexadecimal, from their bits, so that the text has the same value exactly.
use Rattle.std.specs.Prelude.{ℕ, zero, suc, ◌+◌, ◌-◌, ◌*◌, ◌/◌, ◌%◌, ◌^◌, ◌==◌, List, [], ◌++◌, Bool, true, false, if◌then◌else◌, nat_le, codes}
use Rattle.std.specs.Fmt.{decimal, digits}
use Rattle.naga_wgsl.specs.declared.float.FloatParts.{FloatParts}

-- The parts of a float whose exponent is one of `exponents`, and whose fraction one of `fractions`. The fraction is
-- extended to 52 bits.
abbrev pub parts_of : (exponents fractions bits : ℕ) → FloatParts
parts_of exponents fractions bits = record {
  is_negative = nat_le (exponents * fractions) bits;
  exponent = bits / fractions % exponents;
  fraction = bits % fractions * (2 ^ 52 / fractions);
}

-- the parts of the floats of 16, 32 and 64 bits
abbrev pub parts_of_16 : ℕ → FloatParts
parts_of_16 bits = parts_of (2 ^ 5) (2 ^ 10) bits

abbrev pub parts_of_32 : ℕ → FloatParts
parts_of_32 bits = parts_of (2 ^ 8) (2 ^ 23) bits

abbrev pub parts_of_64 : ℕ → FloatParts
parts_of_64 bits = parts_of (2 ^ 11) (2 ^ 52) bits

-- it is neither infinite nor a NaN: these have the greatest exponent
abbrev pub is_finite : (bias : ℕ) → FloatParts → Bool
is_finite bias parts = if parts.exponent == 2 * bias + 1 then false else true

-- the sign of a negative number
abbrev pub sign_text : Bool → List ℕ
sign_text true = codes "-"
sign_text false = []

-- the hexadecimal digits of a number of `count` digits, up to the last one that is not 0
abbrev pub leading_digits : (count rest : ℕ) → List ℕ
leading_digits zero rest = []
leading_digits (suc count) rest =
    if rest == 0 then [] else (digits 16 false (rest / 16 ^ count) ++ leading_digits count (rest % 16 ^ count))

-- the digits of a fraction of 52 bits
unfoldable pub fraction_digits : ℕ → List ℕ
fraction_digits fraction = leading_digits 13 fraction

-- a fraction of 52 bits, after its point, or nothing if it is 0
abbrev pub fraction_text : ℕ → List ℕ
fraction_text fraction = if fraction == 0 then [] else (codes "." ++ fraction_digits fraction)

-- the power of two by which the digits are multiplied
abbrev pub power_text : (bias exponent : ℕ) → List ℕ
power_text bias exponent =
    if nat_le bias exponent then decimal (exponent - bias) else (codes "-" ++ decimal (bias - exponent))

-- the digits of a float, of which the first is 1 or 0, and their power
abbrev pub scaled_text : (bias exponent fraction : ℕ) (first : List ℕ) → List ℕ
scaled_text bias exponent fraction first =
    (codes "0x" ++ first) ++ (fraction_text fraction ++ (codes "p" ++ power_text bias exponent))

-- a float that is not 0; one whose exponent is 0 is subnormal
abbrev pub hexadecimal_text : (bias exponent fraction : ℕ) → List ℕ
hexadecimal_text bias exponent fraction =
    if exponent == 0 then scaled_text bias 1 fraction (codes "0") else scaled_text bias exponent fraction (codes "1")

-- a float without its sign
abbrev pub magnitude_text : (bias exponent fraction : ℕ) → List ℕ
magnitude_text bias exponent fraction =
    if exponent + fraction == 0 then codes "0.0" else hexadecimal_text bias exponent fraction

-- a finite float, with the suffix of its type
abbrev pub float_text : (bias : ℕ) → FloatParts → (suffix : List ℕ) → List ℕ
float_text bias parts suffix =
    sign_text parts.is_negative ++ (magnitude_text bias parts.exponent parts.fraction ++ suffix)
