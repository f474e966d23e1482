-- Structs: objects with named fields.
--
-- An object has all fields of its type that are not optional, no others, and none twice. An optional field is null if
-- there is no value, and may also be missing where it is read.
use Rattle.std.specs.Prelude.{⊤, ℕ, List, [], ◌∷◌, Option, Some, IfSome}
use Rattle.json.specs.Json.{Json, object}
use Rattle.json.specs.Find.{get}
use Rattle.naga_json.specs.Numbers.{◌>>=◌}
use Rattle.naga_json.specs.Objects.{fields_in, members_of, optional_at, optional_json}
use Rattle.naga_json.specs.Codec.{Codec}

-- Some fields of an object, whose values are the parts of a nested tuple. `read` is the value that `make` makes of the
-- parts that are read, one field after another.
pub record Fields (T : Type 0) : Type 1 where
  pub names : List (List ℕ)
  pub write : T → List (List ℕ × Json)
  pub read : (V : Type 0) → (T → V) → Json → Option V
  pub FitsAll : T → Type 0

-- no fields
abbrev pub no_fields : Fields ⊤
no_fields = record { names = []; write = λ parts. []; read = λ V make j. Some (make tt); FitsAll = λ parts. ⊤ }

-- one more field, before the others
abbrev pub field : {A T : Type 0} → List ℕ → Codec A → Fields T → Fields (A × T)
field name codec others = record {
  names = name ∷ others.names;
  write = λ parts. (name, codec.encode parts.0) ∷ others.write parts.1;
  read = λ V make j. (get name j >>= codec.decode) >>= λ a. others.read V (λ rest. make (a, rest)) j;
  FitsAll = λ parts. codec.Fits parts.0 × others.FitsAll parts.1;
}

-- one more field, which may be missing or null
abbrev pub optional_field : {A T : Type 0} → List ℕ → Codec A → Fields T → Fields (Option A × T)
optional_field name codec others = record {
  names = name ∷ others.names;
  write = λ parts. (name, optional_json codec.encode parts.0) ∷ others.write parts.1;
  read = λ V make j. optional_at codec.decode name j >>= λ a. others.read V (λ rest. make (a, rest)) j;
  FitsAll = λ parts. IfSome parts.0 codec.Fits × others.FitsAll parts.1;
}

-- an object with these fields
abbrev pub struct_json : {T : Type 0} → Fields T → T → Json
struct_json fields parts = object (members_of (fields.write parts))

-- The value of an object with these fields and no others, and none of them twice. A proof that goes through the fields
-- opens this definition, and no other proof looks inside.
unfoldable pub struct_in : {T V : Type 0} → Fields T → (T → V) → Json → Option V
struct_in {V = V} fields make j = fields_in fields.names j >>= fields.read V make

-- a struct: the value that has these parts, and the parts of a value
abbrev pub struct_codec : {T V : Type 0} → Fields T → (T → V) → (V → T) → Codec V
struct_codec fields make parts = record {
  encode = λ value. struct_json fields (parts value);
  decode = struct_in fields make;
  Fits = λ value. fields.FitsAll (parts value);
}
