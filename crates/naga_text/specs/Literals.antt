-- The texts of literals.
use Rattle.std.specs.Prelude.{ℕ, ℤ, List, ◌++◌, Bool, true, false, codes}
use Rattle.std.specs.Fmt.{decimal, digits, signed_decimal}
use Rattle.naga_ir.specs.declared.literal.Literal.{Literal}
use Rattle.naga_ir.specs.declared.literal.Literal.TheVariants as literal

-- the bits of a float in hexadecimal, after the name of its type
abbrev pub bits_text : List ℕ → ℕ → List ℕ
bits_text name bits = name ++ (codes " 0x" ++ digits 16 false bits)

-- a natural number, after the name of its type
abbrev pub natural_text : List ℕ → ℕ → List ℕ
natural_text name n = name ++ (codes " " ++ decimal n)

-- an integer, after the name of its type
abbrev pub integer_text : List ℕ → ℤ → List ℕ
integer_text name n = name ++ (codes " " ++ signed_decimal n)

abbrev pub truth_text : Bool → List ℕ
truth_text true = codes "Bool true"
truth_text false = codes "Bool false"

-- a literal: the name of its type, and its value
abbrev pub literal_text : Literal → List ℕ
literal_text (literal.F64 bits) = bits_text (codes "F64") bits
literal_text (literal.F32 bits) = bits_text (codes "F32") bits
literal_text (literal.F16 bits) = bits_text (codes "F16") bits
literal_text (literal.U16 n) = natural_text (codes "U16") n
literal_text (literal.I16 n) = integer_text (codes "I16") n
literal_text (literal.U32 n) = natural_text (codes "U32") n
literal_text (literal.I32 n) = integer_text (codes "I32") n
literal_text (literal.U64 n) = natural_text (codes "U64") n
literal_text (literal.I64 n) = integer_text (codes "I64") n
literal_text (literal.Bool b) = truth_text b
literal_text (literal.AbstractInt n) = integer_text (codes "AbstractInt") n
literal_text (literal.AbstractFloat bits) = bits_text (codes "AbstractFloat") bits
