-- Made by tests/derive from the declarations of naga_kinds and naga_ir.
-- How values are written and read whose types are declared in the module `switch`.
use Rattle.std.specs.Prelude.{[], codes, List, Option, ℕ, ◌∷◌}
use Rattle.json.specs.Json.{Json}
use Rattle.naga_json.specs.Codec.{Codec, integer_codec, word_codec}
use Rattle.naga_json.specs.Variants.{enum_codec, holding, holds, Payload, row, Variant, word}
use Rattle.naga_kinds.specs.declared.switch.SwitchValue.{SwitchValue}
use Rattle.naga_kinds.specs.declared.switch.SwitchValue.TheVariants as switch_value

-- an `I32`
abbrev pub switch_value_i32 : Variant SwitchValue
switch_value_i32 = holds (codes "I32") (integer_codec 31) switch_value.I32

-- a `U32`
abbrev pub switch_value_u32 : Variant SwitchValue
switch_value_u32 = holds (codes "U32") word_codec switch_value.U32

-- the variants of `SwitchValue` that are names alone
abbrev pub switch_value_names : List (List ℕ × SwitchValue)
switch_value_names =
    (codes "Default", switch_value.Default) ∷
    []

-- the variants of `SwitchValue` that contain data
abbrev pub switch_value_rows : Json → List (List ℕ × Option SwitchValue)
switch_value_rows held =
    row switch_value_i32 held ∷
    row switch_value_u32 held ∷
    []

-- how a `SwitchValue` is written
abbrev pub switch_value_payload : SwitchValue → Payload
switch_value_payload (switch_value.I32 value) = holding switch_value_i32 value
switch_value_payload (switch_value.U32 value) = holding switch_value_u32 value
switch_value_payload switch_value.Default = word (codes "Default")

-- a `SwitchValue`
abbrev pub switch_value_codec : Codec SwitchValue
switch_value_codec = enum_codec switch_value_names switch_value_rows switch_value_payload
