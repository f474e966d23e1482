-- Literals and references contain only characters that show themselves.
use Rattle.std.proofs.Common.{arith, [], refl, ℕ, ℤ, List, Bool, true, false}
use Rattle.std.specs.Prelude.{codes}
use Rattle.naga_ir.specs.declared.literal.Literal.{Literal}
use Rattle.naga_ir.specs.declared.literal.Literal.TheVariants as literal
use Rattle.naga_text.specs.Escapes.{is_plain}
use Rattle.naga_text.specs.Literals.{bits_text, integer_text, literal_text, natural_text, truth_text}
use Rattle.naga_text.specs.Operands.{between, reference_text, references_text}
use Rattle.naga_text.specs.Readable.{IsPlain}
use Rattle.naga_valid.specs.declared.reference.Reference.{Reference}
use Rattle.naga_valid.specs.declared.reference.Reference.TheVariants as reference
use Rattle.naga_text.proofs.ReadableEscapesLemmas.{decimal-plain, digits-plain, signed_decimal-plain}
use Rattle.naga_text.proofs.SpellsLemmas.{IsAsciiPassing, Spells-after, Spells-append, Spells-ascii, Spells-flat_map}

-- ---- literals

bits_text-plain : (name : List ℕ) → IsAsciiPassing is_plain name → (bits : ℕ) → IsPlain (bits_text name bits)
bits_text-plain name pass bits = Spells-after name pass (Spells-after (codes " 0x") refl (digits-plain 16 false bits (omega arith) (omega arith)))

natural_text-plain : (name : List ℕ) → IsAsciiPassing is_plain name → (n : ℕ) → IsPlain (natural_text name n)
natural_text-plain name pass n = Spells-after name pass (Spells-after (codes " ") refl (decimal-plain n))

integer_text-plain : (name : List ℕ) → IsAsciiPassing is_plain name → (n : ℤ) → IsPlain (integer_text name n)
integer_text-plain name pass n = Spells-after name pass (Spells-after (codes " ") refl (signed_decimal-plain n))

truth_text-plain : (truth : Bool) → IsPlain (truth_text truth)
truth_text-plain true = Spells-ascii (codes "Bool true") refl
truth_text-plain false = Spells-ascii (codes "Bool false") refl

pub literal_text-plain : (value : Literal) → IsPlain (literal_text value)
literal_text-plain (literal.F64 bits) = bits_text-plain (codes "F64") refl bits
literal_text-plain (literal.F32 bits) = bits_text-plain (codes "F32") refl bits
literal_text-plain (literal.F16 bits) = bits_text-plain (codes "F16") refl bits
literal_text-plain (literal.U16 n) = natural_text-plain (codes "U16") refl n
literal_text-plain (literal.I16 n) = integer_text-plain (codes "I16") refl n
literal_text-plain (literal.U32 n) = natural_text-plain (codes "U32") refl n
literal_text-plain (literal.I32 n) = integer_text-plain (codes "I32") refl n
literal_text-plain (literal.U64 n) = natural_text-plain (codes "U64") refl n
literal_text-plain (literal.I64 n) = integer_text-plain (codes "I64") refl n
literal_text-plain (literal.Bool b) = truth_text-plain b
literal_text-plain (literal.AbstractInt n) = integer_text-plain (codes "AbstractInt") refl n
literal_text-plain (literal.AbstractFloat bits) = bits_text-plain (codes "AbstractFloat") refl bits

-- ---- references

pub between-plain : (before : List ℕ) → IsAsciiPassing is_plain before → (index : ℕ) (after : List ℕ) → IsAsciiPassing is_plain after → IsPlain (between before index after)
between-plain before pass index after passes = Spells-after before pass (Spells-append (decimal-plain index) (Spells-ascii after passes))

reference_text-plain : (to : Reference) → IsPlain (reference_text to)
reference_text-plain (reference.«Type» index) = between-plain (codes " type ") refl index [] refl
reference_text-plain (reference.Constant index) = between-plain (codes " constant ") refl index [] refl
reference_text-plain (reference.Override index) = between-plain (codes " override ") refl index [] refl
reference_text-plain (reference.GlobalVariable index) = between-plain (codes " global ") refl index [] refl
reference_text-plain (reference.GlobalExpression index) = between-plain (codes " [") refl index (codes "]") refl
reference_text-plain (reference.Expression index) = between-plain (codes " [") refl index (codes "]") refl
reference_text-plain (reference.Expressions start bound) =
    Spells-after (codes " [") refl (Spells-append (decimal-plain start) (between-plain (codes "..") refl bound (codes "]") refl))
reference_text-plain (reference.LocalVariable index) = between-plain (codes " local ") refl index [] refl
reference_text-plain (reference.Function index) = between-plain (codes " function ") refl index [] refl
reference_text-plain (reference.DiagnosticFilter index) = between-plain (codes " filter ") refl index [] refl

pub references_text-plain : (list : List Reference) → IsPlain (references_text list)
references_text-plain list = Spells-flat_map reference_text list reference_text-plain
