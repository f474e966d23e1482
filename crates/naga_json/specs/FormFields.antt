-- Structs of which some fields may be written in several ways.
use Rattle.std.specs.Prelude.{◌≡◌, ℕ, List, ◌∷◌, Option, IfSome}
use Rattle.json.specs.Json.{Json, object}
use Rattle.json.specs.Find.{get}
use Rattle.naga_json.specs.Codec.{Codec}
use Rattle.naga_json.specs.Fields.{Fields}
use Rattle.naga_json.specs.Form.{Form}
use Rattle.naga_json.specs.Numbers.{◌>>=◌}
use Rattle.naga_json.specs.Objects.{fields_in, members_of, optional_at, optional_json}

-- Some fields of an object, as in `Fields`. `Writes` says that the condition holds for fields that may be written for
-- the parts.
pub record FormFields (T : Type 0) : Type 1 where
  pub names : List (List ℕ)
  pub Writes : T → (List (List ℕ × Json) → Type 0) → Type 0
  pub read : (V : Type 0) → (T → V) → Json → Option V
  pub FitsAll : T → Type 0

-- fields that are written in one way
abbrev pub plain_fields : {T : Type 0} → Fields T → FormFields T
plain_fields fields = record {
  names = fields.names;
  Writes = λ parts P. P (fields.write parts);
  read = fields.read;
  FitsAll = fields.FitsAll;
}

-- one more field, before the others, which is written in one way
abbrev pub plain_field : {A T : Type 0} → List ℕ → Codec A → FormFields T → FormFields (A × T)
plain_field name codec others = record {
  names = name ∷ others.names;
  Writes = λ parts P. others.Writes parts.1 (λ rest. P ((name, codec.encode parts.0) ∷ rest));
  read = λ V make j. (get name j >>= codec.decode) >>= λ a. others.read V (λ rest. make (a, rest)) j;
  FitsAll = λ parts. codec.Fits parts.0 × others.FitsAll parts.1;
}

-- one more field, before the others, which is written in one way, and may be missing or null
abbrev pub plain_optional_field : {A T : Type 0} → List ℕ → Codec A → FormFields T → FormFields (Option A × T)
plain_optional_field name codec others = record {
  names = name ∷ others.names;
  Writes = λ parts P. others.Writes parts.1 (λ rest. P ((name, optional_json codec.encode parts.0) ∷ rest));
  read = λ V make j. optional_at codec.decode name j >>= λ a. others.read V (λ rest. make (a, rest)) j;
  FitsAll = λ parts. IfSome parts.0 codec.Fits × others.FitsAll parts.1;
}

-- one more field, before the others, which may be written in several ways
abbrev pub form_field : {A T : Type 0} → List ℕ → Form A → FormFields T → FormFields (A × T)
form_field name form others = record {
  names = name ∷ others.names;
  Writes = λ parts P. (held : Json) × form.Writes parts.0 held × others.Writes parts.1 (λ rest. P ((name, held) ∷ rest));
  read = λ V make j. (get name j >>= form.decode) >>= λ a. others.read V (λ rest. make (a, rest)) j;
  FitsAll = λ parts. form.Fits parts.0 × others.FitsAll parts.1;
}

-- the value of an object with these fields and no others, and none of them twice
unfoldable pub form_struct_in : {T V : Type 0} → FormFields T → (T → V) → Json → Option V
form_struct_in {V = V} fields make j = fields_in fields.names j >>= fields.read V make

-- a struct: the value that has these parts, and the parts of a value
abbrev pub struct_form : {T V : Type 0} → FormFields T → (T → V) → (V → T) → Form V
struct_form fields make parts = record {
  Writes = λ value j. fields.Writes (parts value) (λ written. j ≡ object (members_of written));
  decode = form_struct_in fields make;
  Fits = λ value. fields.FitsAll (parts value);
}
