-- Literals: their scalars, the literals of small numbers, and the values that are read from literals.
--
-- The bits of a byte v as a float are 0 if v is 0, and otherwise `(B + e) * 2^M + (v - 2^e) * 2^(M - e)`, where e is
-- the position of the highest bit of v, B the bias and M the number of fraction bits: 1023 and 52 for 8 bytes, 127 and
-- 23 for 4 bytes, 15 and 10 for 2 bytes.
use Rattle.std.specs.Prelude.{ℕ, ◌+◌, ◌-◌, ◌*◌, ◌^◌, ◌==◌, ℤ, pos, negsuc, true, false, if◌then◌else◌, Option, Some, None, Result, Ok, Err}
use Rattle.std.specs.Prelude.{Bool as Truth}
use Rattle.std.specs.Int.{leading_zeros, w8}
use Rattle.naga_kinds.specs.declared.scalar.Scalar.{Scalar}
use Rattle.naga_kinds.specs.declared.scalar.ScalarKind.{ScalarKind}
use Rattle.naga_kinds.specs.declared.scalar.ScalarKind.TheVariants as kind
use Rattle.naga_kinds.specs.Scalar.{bool_width, abstract_width}
use Rattle.naga_ir.specs.declared.const_value.ConstValueError.{ConstValueError}
use Rattle.naga_ir.specs.declared.const_value.ConstValueError.TheVariants.{Negative, InvalidType}
use Rattle.naga_ir.specs.declared.literal.HashableLiteral.{HashableLiteral}
use Rattle.naga_ir.specs.declared.literal.HashableLiteral.TheVariants as hashable
use Rattle.naga_ir.specs.declared.literal.Literal.{Literal}
use Rattle.naga_ir.specs.declared.literal.Literal.TheVariants.{F64, F32, F16, U16, I16, U32, I32, U64, I64, Bool, AbstractInt, AbstractFloat}

-- the scalar of a literal
abbrev pub scalar_of : Literal → Scalar
scalar_of (F64 bits) = record { kind = kind.Float; width = 8 }
scalar_of (F32 bits) = record { kind = kind.Float; width = 4 }
scalar_of (F16 bits) = record { kind = kind.Float; width = 2 }
scalar_of (U16 number) = record { kind = kind.Uint; width = 2 }
scalar_of (I16 number) = record { kind = kind.Sint; width = 2 }
scalar_of (U32 number) = record { kind = kind.Uint; width = 4 }
scalar_of (I32 number) = record { kind = kind.Sint; width = 4 }
scalar_of (U64 number) = record { kind = kind.Uint; width = 8 }
scalar_of (I64 number) = record { kind = kind.Sint; width = 8 }
scalar_of (Bool truth) = record { kind = kind.Bool; width = bool_width }
scalar_of (AbstractInt number) = record { kind = kind.AbstractInt; width = abstract_width }
scalar_of (AbstractFloat bits) = record { kind = kind.AbstractFloat; width = abstract_width }

-- the position of a byte's highest bit
abbrev pub highest_bit : ℕ → ℕ
highest_bit byte = 7 - leading_zeros w8 byte

-- The bits of a byte as a float whose exponent has this bias and whose fraction has this number of bits. The exponent
-- is the position of the byte's highest bit, and the fraction begins with the bits below that bit; for the byte 0, all
-- bits are 0.
unfoldable pub float_bits : (bias fraction byte : ℕ) → ℕ
float_bits bias fraction byte =
    let exponent = highest_bit byte in
    if byte == 0 then 0
    else (bias + exponent) * 2 ^ fraction + (byte - 2 ^ exponent) * 2 ^ (fraction - exponent)

-- a byte as a float of this many bytes, whose exponent has 11, 8 or 5 bits, or `None` for any other width
abbrev pub float_of : (width byte : ℕ) → Option Literal
float_of width byte =
    if width == 8 then Some (F64 (float_bits 1023 52 byte))
    else if width == 4 then Some (F32 (float_bits 127 23 byte))
    else if width == 2 then Some (F16 (float_bits 15 10 byte))
    else None

abbrev pub natural_of : (width byte : ℕ) → Option Literal
natural_of width byte =
    if width == 8 then Some (U64 byte)
    else if width == 4 then Some (U32 byte)
    else if width == 2 then Some (U16 byte)
    else None

abbrev pub integer_of : (width : ℕ) → ℤ → Option Literal
integer_of width number =
    if width == 8 then Some (I64 number)
    else if width == 4 then Some (I32 number)
    else if width == 2 then Some (I16 number)
    else None

-- the boolean `false` for 0 and `true` for 1, or `None` for any other number or width
abbrev pub truth_of : (width byte : ℕ) → Option Literal
truth_of width byte =
    if width == bool_width then (if byte == 0 then Some (Bool false) else if byte == 1 then Some (Bool true) else None)
    else None

abbrev pub abstract_integer_of : (width : ℕ) → ℤ → Option Literal
abstract_integer_of width number = if width == abstract_width then Some (AbstractInt number) else None

abbrev pub abstract_float_of : (width byte : ℕ) → Option Literal
abstract_float_of width byte = if width == abstract_width then Some (AbstractFloat (float_bits 1023 52 byte)) else None

-- the literal of a byte for a scalar of this kind and width, if there is one
abbrev pub literal_of : ScalarKind → (width byte : ℕ) → Option Literal
literal_of kind.Float width byte = float_of width byte
literal_of kind.Uint width byte = natural_of width byte
literal_of kind.Sint width byte = integer_of width (pos byte)
literal_of kind.Bool width byte = truth_of width byte
literal_of kind.AbstractInt width byte = abstract_integer_of width (pos byte)
literal_of kind.AbstractFloat width byte = abstract_float_of width byte

-- minus one as a float: the bits of one and, above them, the sign bit
abbrev pub minus_one_of_float : (width : ℕ) → Option Literal
minus_one_of_float width =
    if width == 8 then Some (F64 (2 ^ 63 + float_bits 1023 52 1))
    else if width == 4 then Some (F32 (2 ^ 31 + float_bits 127 23 1))
    else if width == 2 then Some (F16 (2 ^ 15 + float_bits 15 10 1))
    else None

-- minus one as a literal of a scalar that is a float or a signed integer, if there is one
abbrev pub minus_one_of : ScalarKind → (width : ℕ) → Option Literal
minus_one_of kind.Float width = minus_one_of_float width
minus_one_of kind.Sint width = integer_of width (negsuc 0)
minus_one_of kind.AbstractInt width = abstract_integer_of width (negsuc 0)
minus_one_of _ width = None

-- the hashable literal with the same variant and the same value
abbrev pub hashable_of : Literal → HashableLiteral
hashable_of (F64 bits) = hashable.F64 bits
hashable_of (F32 bits) = hashable.F32 bits
hashable_of (F16 bits) = hashable.F16 bits
hashable_of (U16 number) = hashable.U16 number
hashable_of (I16 number) = hashable.I16 number
hashable_of (U32 number) = hashable.U32 number
hashable_of (I32 number) = hashable.I32 number
hashable_of (U64 number) = hashable.U64 number
hashable_of (I64 number) = hashable.I64 number
hashable_of (Bool truth) = hashable.Bool truth
hashable_of (AbstractInt number) = hashable.AbstractInt number
hashable_of (AbstractFloat bits) = hashable.AbstractFloat bits

-- an integer that is not negative as a natural number, or the error `Negative`
abbrev pub natural : ℤ → Result ℕ ConstValueError
natural (pos number) = Ok number
natural (negsuc number) = Err Negative

-- the number that is the value of a 16-bit or 32-bit integer literal, or an error
abbrev pub u32_of : Literal → Result ℕ ConstValueError
u32_of (U16 number) = Ok number
u32_of (U32 number) = Ok number
u32_of (I16 number) = natural number
u32_of (I32 number) = natural number
u32_of _ = Err InvalidType

-- the boolean that is the value of a literal, or the error `InvalidType`
abbrev pub bool_of : Literal → Result Truth ConstValueError
bool_of (Bool truth) = Ok truth
bool_of _ = Err InvalidType
