-- Enums: variants that are names, that hold a value, and that hold fields.
use Rattle.std.specs.Prelude.{⊤, ℕ, List, Option, option_map}
use Rattle.json.specs.Json.{Json, null, string, object, member, no_members}
use Rattle.naga_json.specs.Numbers.{◌>>=◌}
use Rattle.naga_json.specs.Objects.{choose, holder_in, name_or_holder, variant_in}
use Rattle.naga_json.specs.Codec.{Codec}
use Rattle.naga_json.specs.Fields.{Fields, struct_in, struct_json}

-- A variant that contains data: its name, what it holds, and the value of what it holds. It holds one value or an
-- object with named fields.
pub data Variant (V : Type 0) : Type 1 where
  holds : {A : Type 0} → List ℕ → Codec A → (A → V) → Variant V
  holds_fields : {T : Type 0} → List ℕ → Fields T → (T → V) → Variant V

-- the type of what a variant holds
abbrev pub Parts : {V : Type 0} → Variant V → Type 0
Parts (holds {A} name codec make) = A
Parts (holds_fields {T} name fields make) = T

-- how a value that is a variant is written, and whether it is read as it was written
pub record Payload : Type 1 where
  pub json : Json
  pub fits : Type 0

-- a variant that is a name alone
abbrev pub word : List ℕ → Payload
word name = record { json = string name; fits = ⊤ }

-- a value that is that of no variant, which is neither written nor read
abbrev pub unwritten : Payload
unwritten = record { json = null; fits = ⊥ }

-- a variant that holds these parts
abbrev pub holding : {V : Type 0} → (variant : Variant V) → Parts variant → Payload
holding (holds name codec make) value = record {
  json = object (member name (codec.encode value) no_members);
  fits = codec.Fits value;
}
holding (holds_fields name fields make) parts = record {
  json = object (member name (struct_json fields parts) no_members);
  fits = fields.FitsAll parts;
}

-- the JSON of a variant that holds these parts
abbrev pub held_json : {V : Type 0} → (variant : Variant V) → Parts variant → Json
held_json variant parts = (holding variant parts).json

-- the name of a variant, and its meaning if it holds this JSON
abbrev pub row : {V : Type 0} → Variant V → Json → List ℕ × Option V
row (holds name codec make) held = (name, option_map make (codec.decode held))
row (holds_fields name fields make) held = (name, struct_in fields make held)

-- the value that is a variant which holds this JSON
abbrev pub held_in : {V : Type 0} → Variant V → Json → Option V
held_in variant held = (row variant held).1

-- an enum: its variants that are names, the rows of those that contain data, and how a value is written
abbrev pub enum_codec : {V : Type 0} → List (List ℕ × V) → (Json → List (List ℕ × Option V)) → (V → Payload) → Codec V
enum_codec words rows payload = record {
  encode = λ value. (payload value).json;
  decode = λ j. variant_in j >>= name_or_holder words rows;
  Fits = λ value. (payload value).fits;
}

-- an enum of which each variant contains data
abbrev pub data_enum_codec : {V : Type 0} → (Json → List (List ℕ × Option V)) → (V → Payload) → Codec V
data_enum_codec rows payload = record {
  encode = λ value. (payload value).json;
  decode = λ j. holder_in j >>= λ variant. choose (rows variant.1) variant.0;
  Fits = λ value. (payload value).fits;
}
