-- Made by tests/derive from the declarations of naga_kinds and naga_ir.
-- Values whose types are declared in the module `literal` are read as they are written.
use Rattle.std.proofs.Common.{arith, refl}
use Rattle.std.specs.List.{AllByRecursion}
use Rattle.std.specs.Float.{binary32, binary64}
use Rattle.json.specs.Json.{Json}
use Rattle.naga_json.specs.Form.{LawfulForm}
use Rattle.naga_json.specs.Lawful.{Gives, IsRead}
use Rattle.naga_json.proofs.CodecLemmas.{lawful-boolean, lawful-integer, lawful-long, lawful-short, lawful-word}
use Rattle.naga_json.proofs.FormLemmas.{lawful-float, lawful-holds_form, LawfulFormVariant}
use Rattle.naga_json.proofs.VariantsLemmas.{gives-data_enum, lawful-holds, LawfulVariant}
use Rattle.naga_ir.specs.declared.literal.Literal.{Literal}
use Rattle.naga_ir.specs.declared.literal.Literal.TheVariants as literal
use Rattle.naga_json.specs.derived.Literal.{literal_abstract_float, literal_abstract_int, literal_bool, literal_f16, literal_f32, literal_f64, literal_form, literal_i16, literal_i32, literal_i64, literal_rows, literal_u16, literal_u32, literal_u64}

lawful-literal_f64 : LawfulFormVariant literal_f64
lawful-literal_f64 = lawful-holds_form _ _ _ (lawful-float binary64)

lawful-literal_f32 : LawfulFormVariant literal_f32
lawful-literal_f32 = lawful-holds_form _ _ _ (lawful-float binary32)

lawful-literal_f16 : LawfulVariant literal_f16
lawful-literal_f16 = lawful-holds _ _ _ lawful-short

lawful-literal_u16 : LawfulVariant literal_u16
lawful-literal_u16 = lawful-holds _ _ _ lawful-short

lawful-literal_i16 : LawfulVariant literal_i16
lawful-literal_i16 = lawful-holds _ _ _ (lawful-integer 15 (omega arith))

lawful-literal_u32 : LawfulVariant literal_u32
lawful-literal_u32 = lawful-holds _ _ _ lawful-word

lawful-literal_i32 : LawfulVariant literal_i32
lawful-literal_i32 = lawful-holds _ _ _ (lawful-integer 31 (omega arith))

lawful-literal_u64 : LawfulVariant literal_u64
lawful-literal_u64 = lawful-holds _ _ _ lawful-long

lawful-literal_i64 : LawfulVariant literal_i64
lawful-literal_i64 = lawful-holds _ _ _ (lawful-integer 63 (omega arith))

lawful-literal_bool : LawfulVariant literal_bool
lawful-literal_bool = lawful-holds _ _ _ lawful-boolean

lawful-literal_abstract_int : LawfulVariant literal_abstract_int
lawful-literal_abstract_int = lawful-holds _ _ _ (lawful-integer 63 (omega arith))

lawful-literal_abstract_float : LawfulFormVariant literal_abstract_float
lawful-literal_abstract_float = lawful-holds_form _ _ _ (lawful-float binary64)

pub lawful-literal : LawfulForm literal_form
lawful-literal = record { reads = reads; gives = gives-data_enum literal_form.Fits literal_rows each }
  where
    reads : (value : Literal) (j : Json) → literal_form.Fits value → literal_form.Writes value j → IsRead literal_form.decode value j
    reads (literal.F64 value) j fits is = lawful-literal_f64.reads value j fits is literal_form.decode (λ held. refl)
    reads (literal.F32 value) j fits is = lawful-literal_f32.reads value j fits is literal_form.decode (λ held. refl)
    reads (literal.F16 value) j fits is = rw is (lawful-literal_f16.reads value fits literal_form.decode (λ held. refl))
    reads (literal.U16 value) j fits is = rw is (lawful-literal_u16.reads value fits literal_form.decode (λ held. refl))
    reads (literal.I16 value) j fits is = rw is (lawful-literal_i16.reads value fits literal_form.decode (λ held. refl))
    reads (literal.U32 value) j fits is = rw is (lawful-literal_u32.reads value fits literal_form.decode (λ held. refl))
    reads (literal.I32 value) j fits is = rw is (lawful-literal_i32.reads value fits literal_form.decode (λ held. refl))
    reads (literal.U64 value) j fits is = rw is (lawful-literal_u64.reads value fits literal_form.decode (λ held. refl))
    reads (literal.I64 value) j fits is = rw is (lawful-literal_i64.reads value fits literal_form.decode (λ held. refl))
    reads (literal.Bool value) j fits is = rw is (lawful-literal_bool.reads value fits literal_form.decode (λ held. refl))
    reads (literal.AbstractInt value) j fits is = rw is (lawful-literal_abstract_int.reads value fits literal_form.decode (λ held. refl))
    reads (literal.AbstractFloat value) j fits is = lawful-literal_abstract_float.reads value j fits is literal_form.decode (λ held. refl)

    each : (held : Json) → AllByRecursion (λ row. Gives literal_form.Fits row.1) (literal_rows held)
    each held = (lawful-literal_f64.gives literal_form.Fits (λ parts fits. fits) held, (lawful-literal_f32.gives literal_form.Fits (λ parts fits. fits) held, (lawful-literal_f16.gives literal_form.Fits (λ parts fits. fits) held, (lawful-literal_u16.gives literal_form.Fits (λ parts fits. fits) held, (lawful-literal_i16.gives literal_form.Fits (λ parts fits. fits) held, (lawful-literal_u32.gives literal_form.Fits (λ parts fits. fits) held, (lawful-literal_i32.gives literal_form.Fits (λ parts fits. fits) held, (lawful-literal_u64.gives literal_form.Fits (λ parts fits. fits) held, (lawful-literal_i64.gives literal_form.Fits (λ parts fits. fits) held, (lawful-literal_bool.gives literal_form.Fits (λ parts fits. fits) held, (lawful-literal_abstract_int.gives literal_form.Fits (λ parts fits. fits) held, (lawful-literal_abstract_float.gives literal_form.Fits (λ parts fits. fits) held, tt))))))))))))
