-- Codecs of types that contain values of their own type.
use Rattle.std.specs.Prelude.{ℕ, zero, suc, Some, None}
use Rattle.std.specs.Prelude.{⊤}
use Rattle.json.specs.Json.{Json}
use Rattle.naga_json.specs.Codec.{Codec}

-- a JSON as itself, which takes the place of a value whose JSON is known
abbrev pub raw_codec : Codec Json
raw_codec = record { encode = λ j. j; decode = Some; Fits = λ j. ⊤ }

-- The codec of values that are nested in one another no deeper than the number. `encode` is the JSON of a value, and
-- `outer` is the codec of a value, given that of the values in it.
unfoldable pub within_depth : {A : Type 0} → (A → Json) → (Codec A → Codec A) → ℕ → Codec A
within_depth encode outer zero = record { encode = encode; decode = λ j. None; Fits = λ value. ⊥ }
within_depth encode outer (suc depth) = outer (within_depth encode outer depth)
