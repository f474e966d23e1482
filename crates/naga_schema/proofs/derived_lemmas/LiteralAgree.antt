-- Made by tests/derive from the declarations of naga_kinds and naga_ir.
use Rattle.std.proofs.Common.{refl, ℕ}
use Rattle.naga_json.specs.Form.{form_row}
use Rattle.naga_json.specs.Variants.{held_in}
use Rattle.naga_schema.specs.derived.Types.{shape_of}
use Rattle.naga_schema.specs.declared.derived.type_name.TypeName.TheVariants as type
use Rattle.naga_schema.proofs.AgreesLemmas.{Agrees, agrees-as, agrees-data_enum, agrees-no_rows, agrees-row}
use Rattle.naga_json.specs.derived.Literal.{literal_abstract_float, literal_abstract_int, literal_bool, literal_f16, literal_f32, literal_f64, literal_form, literal_i16, literal_i32, literal_i64, literal_rows, literal_u16, literal_u32, literal_u64}
use Rattle.naga_schema.proofs.LeavesAgree.{agrees-boolean, agrees-float_32, agrees-float_64, agrees-integer_16, agrees-integer_32, agrees-integer_64, agrees-long, agrees-short, agrees-word}

pub agrees-Literal : (depth : ℕ) → Agrees depth type.Literal literal_form.decode
unfolding shape_of
agrees-Literal depth =
    agrees-data_enum depth type.Literal _ literal_rows refl
    (agrees-row depth _ _ (λ held. (form_row literal_f64 held).1) _ _ (agrees-as depth _ _ _ (agrees-float_64 depth))
    (agrees-row depth _ _ (λ held. (form_row literal_f32 held).1) _ _ (agrees-as depth _ _ _ (agrees-float_32 depth))
    (agrees-row depth _ _ (held_in literal_f16) _ _ (agrees-as depth _ _ _ (agrees-short depth))
    (agrees-row depth _ _ (held_in literal_u16) _ _ (agrees-as depth _ _ _ (agrees-short depth))
    (agrees-row depth _ _ (held_in literal_i16) _ _ (agrees-as depth _ _ _ (agrees-integer_16 depth))
    (agrees-row depth _ _ (held_in literal_u32) _ _ (agrees-as depth _ _ _ (agrees-word depth))
    (agrees-row depth _ _ (held_in literal_i32) _ _ (agrees-as depth _ _ _ (agrees-integer_32 depth))
    (agrees-row depth _ _ (held_in literal_u64) _ _ (agrees-as depth _ _ _ (agrees-long depth))
    (agrees-row depth _ _ (held_in literal_i64) _ _ (agrees-as depth _ _ _ (agrees-integer_64 depth))
    (agrees-row depth _ _ (held_in literal_bool) _ _ (agrees-as depth _ _ _ (agrees-boolean depth))
    (agrees-row depth _ _ (held_in literal_abstract_int) _ _ (agrees-as depth _ _ _ (agrees-integer_64 depth))
    (agrees-row depth _ _ (λ held. (form_row literal_abstract_float held).1) _ _ (agrees-as depth _ _ _ (agrees-float_64 depth))
    (agrees-no_rows depth)))))))))))))
