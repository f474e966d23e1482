-- The laws of enums: variants that are names, that hold a value, and that hold fields.
use Rattle.std.proofs.Common.{◌≡◌, ◌∙◌, ap, ℕ, List, [], ◌∷◌, true, Option, Some, None, option_map, refl}
use Rattle.std.specs.List.{AllByRecursion}
use Rattle.std.specs.Str.{bytes_eq}
use Rattle.json.specs.Json.{Json, string, object, member, no_members}
use Rattle.naga_json.specs.Numbers.{◌>>=◌}
use Rattle.naga_json.specs.Objects.{choose, find_row, holder_in, name_or_holder, variant_in}
use Rattle.naga_json.specs.Codec.{Codec}
use Rattle.naga_json.specs.Fields.{Fields, struct_json}
use Rattle.naga_json.specs.Lawful.{IsRead, Gives, Lawful}
use Rattle.naga_json.specs.Variants.{Variant, holds, holds_fields, Parts, holding, row}
use Rattle.naga_json.proofs.FieldsLemmas.{LawfulFields, distinct, struct-gives, struct-reads}
use Rattle.naga_json.proofs.GivesLemmas.{Gives-cond, Gives-map, then_any}

-- the value that a variant is
abbrev pub value_of : {V : Type 0} (variant : Variant V) → Parts variant → V
value_of (holds name codec make) value = make value
value_of (holds_fields name fields make) parts = make parts

-- What a variant holds is read as it was written, and what is read fits.
pub record LawfulVariant {V : Type 0} (variant : Variant V) : Type 1 where
  pub reads : (parts : Parts variant) → (holding variant parts).fits → (whole : Json → Option V)
      → ((held : Json) → whole (object (member (row variant held).0 held no_members)) ≡ (row variant held).1)
      → IsRead whole (value_of variant parts) (holding variant parts).json
  pub gives : (P : V → Type 0) → ((parts : Parts variant) → (holding variant parts).fits → P (value_of variant parts)) → (held : Json) → Gives P (row variant held).1

pub lawful-holds : {A V : Type 0} (name : List ℕ) (codec : Codec A) (make : A → V) → Lawful codec → LawfulVariant (holds name codec make)
lawful-holds name codec make law = record {
  reads = λ value fits whole rows.
      let read = law.reads value fits in
      record { reads = rows (codec.encode value) ∙ ap (option_map make) read.reads; numbers = (read.numbers, tt); present = refl };
  gives = λ P implies held. Gives-map codec.Fits P make implies (codec.decode held) (law.gives held);
}

pub lawful-holds_fields : {T V : Type 0} (name : List ℕ) (fields : Fields T) (make : T → V) → LawfulFields fields → distinct fields.names ≡ true → LawfulVariant (holds_fields name fields make)
lawful-holds_fields name fields make law apart = record {
  reads = λ parts fits whole rows.
      let read = struct-reads fields law make parts fits apart in
      record { reads = rows (struct_json fields parts) ∙ read.reads; numbers = (read.numbers, tt); present = refl };
  gives = λ P implies held. struct-gives fields law make P implies held;
}

-- a variant that is a name
pub is_word : {V : Type 0} {whole : Json → Option V} {value : V} {name : List ℕ} → whole (string name) ≡ Some value → IsRead whole value (string name)
is_word named = record { reads = named; numbers = tt; present = refl }

module _ {V : Type 0} (P : V → Type 0) where
  gives-find_row : (rows : List (List ℕ × V)) (name : List ℕ) → AllByRecursion (λ row. P row.1) rows → Gives P (find_row rows name)
  gives-find_row [] name all = record { holds = tt }
  gives-find_row (first ∷ rest) name (here, all) = Gives-cond P (bytes_eq first.0 name) (Some first.1) (find_row rest name) (record { holds = here }) (gives-find_row rest name all)

  gives-choose : (rows : List (List ℕ × Option V)) (name : List ℕ) → AllByRecursion (λ row. Gives P row.1) rows → Gives P (choose rows name)
  gives-choose [] name all = record { holds = tt }
  gives-choose (first ∷ rest) name (here, all) = Gives-cond P (bytes_eq first.0 name) first.1 (choose rest name) here (gives-choose rest name all)

  gives-variant : (words : List (List ℕ × V)) (rows : Json → List (List ℕ × Option V)) (variant : List ℕ × Option Json) → AllByRecursion (λ row. P row.1) words → ((held : Json) → AllByRecursion (λ row. Gives P row.1) (rows held)) → Gives P (name_or_holder words rows variant)
  gives-variant words rows (name, None) all each = gives-find_row words name all
  gives-variant words rows (name, Some held) all each = gives-choose (rows held) name (each held)

  -- an enum of which each name and each row gives a value for which the condition holds
  pub gives-enum : (words : List (List ℕ × V)) (rows : Json → List (List ℕ × Option V)) → AllByRecursion (λ row. P row.1) words → ((held : Json) → AllByRecursion (λ row. Gives P row.1) (rows held)) → (j : Json) → Gives P (variant_in j >>= name_or_holder words rows)
  gives-enum words rows all each j = then_any P (variant_in j) (name_or_holder words rows) (λ variant. gives-variant words rows variant all each)

  pub gives-data_enum : (rows : Json → List (List ℕ × Option V)) → ((held : Json) → AllByRecursion (λ row. Gives P row.1) (rows held)) → (j : Json) → Gives P (holder_in j >>= λ variant. choose (rows variant.1) variant.0)
  gives-data_enum rows each j = then_any P (holder_in j) (λ variant. choose (rows variant.1) variant.0) (λ variant. gives-choose (rows variant.1) variant.0 (each variant.1))
