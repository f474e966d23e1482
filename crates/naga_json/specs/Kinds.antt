-- Kinds without data, which are written as the names of their variants.
use Rattle.std.specs.Prelude.{⊤, ℕ, List}
use Rattle.json.specs.Json.{string}
use Rattle.json.specs.Find.{as_str}
use Rattle.naga_kinds.specs.Names.{named}
use Rattle.naga_json.specs.Numbers.{◌>>=◌}
use Rattle.naga_json.specs.Codec.{Codec}

-- a kind of which each variant is written as its name, for the names and the variants in order
abbrev pub kind_codec : {A : Type 0} → (A → List ℕ) → List A → Codec A
kind_codec name_of kinds = record {
  encode = λ kind. string (name_of kind);
  decode = λ j. as_str j >>= named name_of kinds;
  Fits = λ kind. ⊤;
}
