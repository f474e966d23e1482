-- Made by tests/derive from the declarations of naga_kinds and naga_ir.
-- Values whose types are declared in the module `switch` are read as they are written.
use Rattle.std.proofs.Common.{arith, refl}
use Rattle.std.specs.List.{AllByRecursion}
use Rattle.json.specs.Json.{Json}
use Rattle.naga_json.specs.Lawful.{Gives, IsRead, Lawful}
use Rattle.naga_json.proofs.CodecLemmas.{lawful-integer, lawful-word}
use Rattle.naga_json.proofs.VariantsLemmas.{gives-enum, is_word, lawful-holds, LawfulVariant}
use Rattle.naga_kinds.specs.declared.switch.SwitchValue.{SwitchValue}
use Rattle.naga_kinds.specs.declared.switch.SwitchValue.TheVariants as switch_value
use Rattle.naga_json.specs.derived.Switch.{switch_value_codec, switch_value_i32, switch_value_names, switch_value_rows, switch_value_u32}

lawful-switch_value_i32 : LawfulVariant switch_value_i32
lawful-switch_value_i32 = lawful-holds _ _ _ (lawful-integer 31 (omega arith))

lawful-switch_value_u32 : LawfulVariant switch_value_u32
lawful-switch_value_u32 = lawful-holds _ _ _ lawful-word

pub lawful-switch_value : Lawful switch_value_codec
lawful-switch_value = record { reads = reads; gives = gives-enum switch_value_codec.Fits switch_value_names switch_value_rows (search) each }
  where
    reads : (value : SwitchValue) → switch_value_codec.Fits value → IsRead switch_value_codec.decode value (switch_value_codec.encode value)
    reads (switch_value.I32 value) fits = lawful-switch_value_i32.reads value fits switch_value_codec.decode (λ held. refl)
    reads (switch_value.U32 value) fits = lawful-switch_value_u32.reads value fits switch_value_codec.decode (λ held. refl)
    reads switch_value.Default fits = is_word refl

    each : (held : Json) → AllByRecursion (λ row. Gives switch_value_codec.Fits row.1) (switch_value_rows held)
    each held = (lawful-switch_value_i32.gives switch_value_codec.Fits (λ parts fits. fits) held, (lawful-switch_value_u32.gives switch_value_codec.Fits (λ parts fits. fits) held, tt))
