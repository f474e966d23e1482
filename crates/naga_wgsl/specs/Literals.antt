-- The texts of literals, and which literals WGSL has.
use Rattle.std.specs.Prelude.{ℕ, ℤ, negsuc, ◌^◌, ◌-◌, ◌<◌, ⊤, List, [], ◌++◌, Bool, true, false, if◌then◌else◌, Result, Ok, Err, codes}
use Rattle.std.specs.Fmt.{decimal, signed_decimal}
use Rattle.std.specs.Int.Signed.{mag}
use Rattle.std.specs.Ordering.{int_eq}
use Rattle.naga_ir.specs.declared.literal.Literal.{Literal}
use Rattle.naga_ir.specs.declared.literal.Literal.TheVariants as literal
use Rattle.naga_wgsl.specs.declared.float.FloatParts.{FloatParts}
use Rattle.naga_wgsl.specs.declared.write_error.Cause.{Cause}
use Rattle.naga_wgsl.specs.declared.write_error.Cause.TheVariants.{NotFinite, Scalar}
use Rattle.naga_wgsl.specs.Floats.{float_text, is_finite, parts_of_16, parts_of_32, parts_of_64}

-- a boolean
abbrev pub truth_text : Bool → List ℕ
truth_text true = codes "true"
truth_text false = codes "false"

-- an `i32`: the lowest one is a conversion, as no literal is its absolute value
abbrev pub i32_text : ℤ → List ℕ
i32_text n = if int_eq n (negsuc (2 ^ 31 - 1)) then codes "i32(-2147483648)" else (signed_decimal n ++ codes "i")

-- an integer that has no concrete type: the lowest one is a difference, as no literal is its absolute value
abbrev pub abstract_integer_text : ℤ → List ℕ
abstract_integer_text n =
    if int_eq n (negsuc (2 ^ 63 - 1)) then codes "(-9223372036854775807 - 1)" else signed_decimal n

-- a float, if it is finite
abbrev pub text_of_float : (bias : ℕ) → FloatParts → (suffix : List ℕ) → Result (List ℕ) Cause
text_of_float bias parts suffix = if is_finite bias parts then Ok (float_text bias parts suffix) else Err NotFinite

-- a literal, or why WGSL has none: it has no floats of 64 bits, and no integers of 16 and of 64 bits
abbrev pub text_of_literal : Literal → Result (List ℕ) Cause
text_of_literal (literal.F64 bits) = Err Scalar
text_of_literal (literal.F32 bits) = text_of_float 127 (parts_of_32 bits) (codes "f")
text_of_literal (literal.F16 bits) = text_of_float 15 (parts_of_16 bits) (codes "h")
text_of_literal (literal.U16 n) = Err Scalar
text_of_literal (literal.I16 n) = Err Scalar
text_of_literal (literal.U32 n) = Ok (decimal n ++ codes "u")
text_of_literal (literal.I32 n) = Ok (i32_text n)
text_of_literal (literal.U64 n) = Err Scalar
text_of_literal (literal.I64 n) = Err Scalar
text_of_literal (literal.Bool b) = Ok (truth_text b)
text_of_literal (literal.AbstractInt n) = Ok (abstract_integer_text n)
text_of_literal (literal.AbstractFloat bits) = text_of_float 1023 (parts_of_64 bits) []

-- the number of the literal is in the range of its type
abbrev pub IsInRange : Literal → Type 0
IsInRange (literal.F64 bits) = bits < 2 ^ 64
IsInRange (literal.F32 bits) = bits < 2 ^ 32
IsInRange (literal.F16 bits) = bits < 2 ^ 16
IsInRange (literal.U16 n) = n < 2 ^ 16
IsInRange (literal.I16 n) = mag n < 2 ^ 15
IsInRange (literal.U32 n) = n < 2 ^ 32
IsInRange (literal.I32 n) = mag n < 2 ^ 31
IsInRange (literal.U64 n) = n < 2 ^ 64
IsInRange (literal.I64 n) = mag n < 2 ^ 63
IsInRange (literal.Bool b) = ⊤
IsInRange (literal.AbstractInt n) = mag n < 2 ^ 63
IsInRange (literal.AbstractFloat bits) = bits < 2 ^ 64
