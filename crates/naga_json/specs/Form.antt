-- Forms: as codecs, for values of which each may be written in several ways.
--
-- A finite float is written as a plain decimal number that is nearest to it, and there are several. So what contains
-- floats has a form, which relates a value to the JSONs that may be written for it.
use Rattle.std.specs.Prelude.{◌≡◌, ◌<◌, ◌*◌, ℕ, List, All, Option, Some, option_map, IsTrue, from_bits}
use Rattle.std.specs.Float.{Format, float_is_finite}
use Rattle.std.specs.Float.Ieee.{top}
use Rattle.std.specs.Float.Parse.{parse_float}
use Rattle.std.specs.List.{AllZip}
use Rattle.ryu.specs.Plain.{IsPlainNumber}
use Rattle.json.specs.Json.{Json, array, number, object, member, no_members}
use Rattle.naga_arena.specs.Arena.{values}
use Rattle.naga_arena.specs.declared.span.Span.{Span}
use Rattle.naga_json.specs.Arenas.{arena_in, ArenaFits}
use Rattle.naga_json.specs.Lawful.{Gives, IsRead}
use Rattle.naga_json.specs.Lists.{each_in, items_of}
use Rattle.naga_json.specs.Objects.{choose, holder_in, name_or_holder, variant_in}
use Rattle.naga_json.specs.Variants.{Payload}
use Rattle.naga_json.specs.Numbers.{◌>>=◌, float_in}

-- How the values of a type are written and read, if a value has several JSONs, or none. `Writes` holds for a value and
-- a JSON that may be written for it.
pub record Form (A : Type 0) : Type 1 where
  pub Writes : A → Json → Type 0
  pub decode : Json → Option A
  pub Fits : A → Type 0

-- Each JSON that is written for a value that fits is read as the value, and each value that is read fits.
pub record LawfulForm {A : Type 0} (form : Form A) : Type 0 where
  pub reads : (value : A) (j : Json) → form.Fits value → form.Writes value j → IsRead form.decode value j
  pub gives : (j : Json) → Gives form.Fits (form.decode j)

-- The number is a JSON of the finite float with these bits: a decimal number to which no other float is nearer.
abbrev pub IsFloat : Format → ℕ → Json → Type 0
IsFloat format bits j =
    (text : List ℕ) × (j ≡ number text) × IsPlainNumber text × IsTrue (float_is_finite (from_bits format bits)) × (parse_float format text ≡ Some (from_bits format bits))

-- a float, as its bits
abbrev pub float_form : Format → Form ℕ
float_form format = record {
  Writes = IsFloat format;
  decode = float_in format;
  Fits = λ bits. bits < 2 * top format;
}

-- an array of JSONs that are written for these values, in order
abbrev pub IsList : {A : Type 0} → (A → Json → Type 0) → List A → Json → Type 0
IsList Writes values j = (js : List Json) × AllZip Writes values js × (j ≡ array (items_of js))

-- a list
abbrev pub list_form : {A : Type 0} → Form A → Form (List A)
list_form form = record { Writes = IsList form.Writes; decode = each_in form.decode; Fits = All form.Fits }

-- an arena, of which only the values are written
abbrev pub arena_form : {A : Type 0} → Form A → Form (List (A × Span))
arena_form form = record {
  Writes = λ arena j. IsList form.Writes (values arena) j;
  decode = arena_in form.decode;
  Fits = ArenaFits form.Fits;
}

-- A variant that holds a value which may be written in several ways: its name, what it holds, and the value of that.
pub data FormVariant (V : Type 0) : Type 1 where
  holds_form : {A : Type 0} → List ℕ → Form A → (A → V) → FormVariant V

-- the type of what a variant holds
abbrev pub Held : {V : Type 0} → FormVariant V → Type 0
Held (holds_form {A} name form make) = A

-- how a value that is a variant may be written, and whether it is read as it was written
pub record FormPayload : Type 1 where
  pub Writes : Json → Type 0
  pub fits : Type 0

-- a value that is written in one way
abbrev pub written : Payload → FormPayload
written payload = record { Writes = λ j. j ≡ payload.json; fits = payload.fits }

-- a variant that holds this value
abbrev pub holding_form : {V : Type 0} → (variant : FormVariant V) → Held variant → FormPayload
holding_form (holds_form name form make) value = record {
  Writes = λ j. (held : Json) × form.Writes value held × (j ≡ object (member name held no_members));
  fits = form.Fits value;
}

-- the name of a variant, and its meaning if it holds this JSON
abbrev pub form_row : {V : Type 0} → FormVariant V → Json → List ℕ × Option V
form_row (holds_form name form make) held = (name, option_map make (form.decode held))

-- an enum: its variants that are names, the rows of those that contain data, and how a value may be written
abbrev pub enum_form : {V : Type 0} → List (List ℕ × V) → (Json → List (List ℕ × Option V)) → (V → FormPayload) → Form V
enum_form words rows payload = record {
  Writes = λ value. (payload value).Writes;
  decode = λ j. variant_in j >>= name_or_holder words rows;
  Fits = λ value. (payload value).fits;
}

-- an enum of which each variant contains data
abbrev pub data_enum_form : {V : Type 0} → (Json → List (List ℕ × Option V)) → (V → FormPayload) → Form V
data_enum_form rows payload = record {
  Writes = λ value. (payload value).Writes;
  decode = λ j. holder_in j >>= λ variant. choose (rows variant.1) variant.0;
  Fits = λ value. (payload value).fits;
}
