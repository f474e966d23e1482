-- The laws of structs of which some fields may be written in several ways.
use Rattle.std.proofs.Common.{◌≡◌, ◌∙◌, ap, ℕ, List, ◌∷◌, true, Option, Some, IfSome}
use Rattle.json.specs.Json.{Json, object}
use Rattle.json.specs.Find.{get}
use Rattle.naga_json.specs.Codec.{Codec}
use Rattle.naga_json.specs.Fields.{Fields}
use Rattle.naga_json.specs.Form.{Form, LawfulForm}
use Rattle.naga_json.specs.FormFields.{FormFields, plain_fields, plain_field, plain_optional_field, form_field, form_struct_in, struct_form}
use Rattle.naga_json.specs.Lawful.{Gives, IsRead, Lawful}
use Rattle.naga_json.specs.Numbers.{◌>>=◌}
use Rattle.naga_json.specs.Objects.{fields_in, members_of, optional_at, optional_json, present_at}
use Rattle.naga_json.proofs.FieldsLemmas.{AreRead, AreRead-more, HasNumbers-optional_json, IsRead-struct, LawfulFields, distinct, gives-more, gives-optional_in, nullable_in-optional_json}
use Rattle.naga_json.proofs.GivesLemmas.{then_any}

-- Fields that may be written for parts that fit are read as the parts, and what is read fits.
pub record LawfulFormFields {T : Type 0} (fields : FormFields T) : Type 1 where
  pub reads : (parts : T) (P : List (List ℕ × Json) → Type 0) (Goal : Type 0) → fields.FitsAll parts → fields.Writes parts P
      → ((written : List (List ℕ × Json)) → P written → AreRead fields.names fields.read parts written → Goal) → Goal
  pub gives : (V : Type 0) (make : T → V) (P : V → Type 0) → ((parts : T) → fields.FitsAll parts → P (make parts)) → (j : Json) → Gives P (fields.read V make j)

pub lawful-plain_fields : {T : Type 0} (fields : Fields T) → LawfulFields fields → LawfulFormFields (plain_fields fields)
lawful-plain_fields fields law = record { reads = λ parts P Goal fits writes next. next (fields.write parts) writes (law.reads parts fits); gives = law.gives }

module _ {A T : Type 0} (name : List ℕ) (codec : Codec A) (others : FormFields T) (one : Lawful codec) (more : LawfulFormFields others) where
  found : (value : A) → codec.Fits value → (j : Json) → get name j ≡ Some (codec.encode value) → (get name j >>= codec.decode) ≡ Some value
  found value fits j is = rw is (one.reads value fits).reads

  pub lawful-plain_field : LawfulFormFields (plain_field name codec others)
  lawful-plain_field = record {
    reads = λ parts P Goal fits writes next.
        let held = codec.encode parts.0 in
        more.reads parts.1 (λ rest. P ((name, held) ∷ rest)) Goal fits.1 writes λ rest holds are.
        next ((name, held) ∷ rest) holds
        (AreRead-more name (λ j. get name j >>= codec.decode) others.names others.read parts.0 held parts.1 rest (found parts.0 fits.0) (one.reads parts.0 fits.0).numbers are);
    gives = gives-more name (λ j. get name j >>= codec.decode) others.names others.read codec.Fits others.FitsAll (λ j. then_any codec.Fits (get name j) codec.decode one.gives) more.gives;
  }

  found_optional : (value : Option A) → IfSome value codec.Fits → (j : Json) → get name j ≡ Some (optional_json codec.encode value) → optional_at codec.decode name j ≡ Some value
  found_optional value fits j is = rw is (nullable_in-optional_json codec one value fits)

  pub lawful-plain_optional_field : LawfulFormFields (plain_optional_field name codec others)
  lawful-plain_optional_field = record {
    reads = λ parts P Goal fits writes next.
        let held = optional_json codec.encode parts.0 in
        more.reads parts.1 (λ rest. P ((name, held) ∷ rest)) Goal fits.1 writes λ rest holds are.
        next ((name, held) ∷ rest) holds
        (AreRead-more name (λ j. optional_at codec.decode name j) others.names others.read parts.0 held parts.1 rest (found_optional parts.0 fits.0) (HasNumbers-optional_json codec one parts.0 fits.0) are);
    gives = gives-more name (λ j. optional_at codec.decode name j) others.names others.read (λ value. IfSome value codec.Fits) others.FitsAll (λ j. gives-optional_in codec one (present_at name j)) more.gives;
  }

module _ {A T : Type 0} (name : List ℕ) (form : Form A) (others : FormFields T) (one : LawfulForm form) (more : LawfulFormFields others) where
  found_form : (value : A) (held : Json) → form.Fits value → form.Writes value held → (j : Json) → get name j ≡ Some held → (get name j >>= form.decode) ≡ Some value
  found_form value held fits writes j is = rw is (one.reads value held fits writes).reads

  pub lawful-form_field : LawfulFormFields (form_field name form others)
  lawful-form_field = record {
    reads = λ parts P Goal fits (held, writes, others_write) next.
        more.reads parts.1 (λ rest. P ((name, held) ∷ rest)) Goal fits.1 others_write λ rest holds are.
        next ((name, held) ∷ rest) holds
        (AreRead-more name (λ j. get name j >>= form.decode) others.names others.read parts.0 held parts.1 rest (found_form parts.0 held fits.0 writes) (one.reads parts.0 held fits.0 writes).numbers are);
    gives = gives-more name (λ j. get name j >>= form.decode) others.names others.read form.Fits others.FitsAll (λ j. then_any form.Fits (get name j) form.decode one.gives) more.gives;
  }

-- a struct that is its fields
pub lawful-struct_form : {T V : Type 0} (fields : FormFields T) (law : LawfulFormFields fields) (make : T → V) (parts : V → T) → ((value : V) → make (parts value) ≡ value) → ((all : T) → parts (make all) ≡ all) → distinct fields.names ≡ true
    → LawfulForm (struct_form fields make parts)
unfolding form_struct_in
lawful-struct_form {V = V} fields law make parts whole back apart = record {
  reads = λ value j fits writes.
      law.reads (parts value) (λ written. j ≡ object (members_of written)) (IsRead (struct_form fields make parts).decode value j) fits writes λ written is are.
      let read = IsRead-struct fields.names fields.read make (parts value) written are apart in
      rw is (record { reads = read.reads ∙ ap Some (whole value); numbers = read.numbers; present = read.present });
  gives = λ j. then_any _ (fields_in fields.names j) (fields.read V make) (law.gives V make (λ value. fields.FitsAll (parts value)) (λ all fits. rw (back all) fits));
}
