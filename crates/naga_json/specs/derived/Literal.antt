-- Made by tests/derive from the declarations of naga_kinds and naga_ir.
-- How values are written and read whose types are declared in the module `literal`.
use Rattle.std.specs.Prelude.{[], codes, List, Option, ℕ, ◌∷◌}
use Rattle.std.specs.Float.{binary32, binary64}
use Rattle.json.specs.Json.{Json}
use Rattle.naga_json.specs.Codec.{boolean_codec, integer_codec, long_codec, short_codec, word_codec}
use Rattle.naga_json.specs.Form.{data_enum_form, float_form, Form, form_row, FormPayload, FormVariant, holding_form, holds_form, written}
use Rattle.naga_json.specs.Variants.{holding, holds, Payload, row, unwritten, Variant}
use Rattle.naga_ir.specs.declared.literal.Literal.{Literal}
use Rattle.naga_ir.specs.declared.literal.Literal.TheVariants as literal

-- an `F64`
abbrev pub literal_f64 : FormVariant Literal
literal_f64 = holds_form (codes "F64") (float_form binary64) literal.F64

-- an `F32`
abbrev pub literal_f32 : FormVariant Literal
literal_f32 = holds_form (codes "F32") (float_form binary32) literal.F32

-- an `F16`
abbrev pub literal_f16 : Variant Literal
literal_f16 = holds (codes "F16") short_codec literal.F16

-- a `U16`
abbrev pub literal_u16 : Variant Literal
literal_u16 = holds (codes "U16") short_codec literal.U16

-- an `I16`
abbrev pub literal_i16 : Variant Literal
literal_i16 = holds (codes "I16") (integer_codec 15) literal.I16

-- a `U32`
abbrev pub literal_u32 : Variant Literal
literal_u32 = holds (codes "U32") word_codec literal.U32

-- an `I32`
abbrev pub literal_i32 : Variant Literal
literal_i32 = holds (codes "I32") (integer_codec 31) literal.I32

-- a `U64`
abbrev pub literal_u64 : Variant Literal
literal_u64 = holds (codes "U64") long_codec literal.U64

-- an `I64`
abbrev pub literal_i64 : Variant Literal
literal_i64 = holds (codes "I64") (integer_codec 63) literal.I64

-- a `Bool`
abbrev pub literal_bool : Variant Literal
literal_bool = holds (codes "Bool") boolean_codec literal.Bool

-- an `AbstractInt`
abbrev pub literal_abstract_int : Variant Literal
literal_abstract_int = holds (codes "AbstractInt") (integer_codec 63) literal.AbstractInt

-- an `AbstractFloat`
abbrev pub literal_abstract_float : FormVariant Literal
literal_abstract_float = holds_form (codes "AbstractFloat") (float_form binary64) literal.AbstractFloat

-- the variants of `Literal` that contain data
abbrev pub literal_rows : Json → List (List ℕ × Option Literal)
literal_rows held =
    form_row literal_f64 held ∷
    form_row literal_f32 held ∷
    row literal_f16 held ∷
    row literal_u16 held ∷
    row literal_i16 held ∷
    row literal_u32 held ∷
    row literal_i32 held ∷
    row literal_u64 held ∷
    row literal_i64 held ∷
    row literal_bool held ∷
    row literal_abstract_int held ∷
    form_row literal_abstract_float held ∷
    []

-- how a `Literal` that is written in one way is written
abbrev pub literal_payload : Literal → Payload
literal_payload (literal.F16 value) = holding literal_f16 value
literal_payload (literal.U16 value) = holding literal_u16 value
literal_payload (literal.I16 value) = holding literal_i16 value
literal_payload (literal.U32 value) = holding literal_u32 value
literal_payload (literal.I32 value) = holding literal_i32 value
literal_payload (literal.U64 value) = holding literal_u64 value
literal_payload (literal.I64 value) = holding literal_i64 value
literal_payload (literal.Bool value) = holding literal_bool value
literal_payload (literal.AbstractInt value) = holding literal_abstract_int value
literal_payload other = unwritten

-- how a `Literal` may be written
abbrev pub literal_forms : Literal → FormPayload
literal_forms (literal.F64 value) = holding_form literal_f64 value
literal_forms (literal.F32 value) = holding_form literal_f32 value
literal_forms (literal.AbstractFloat value) = holding_form literal_abstract_float value
literal_forms other = written (literal_payload other)

-- a `Literal`
abbrev pub literal_form : Form Literal
literal_form = data_enum_form literal_rows literal_forms
