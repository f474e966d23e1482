-- Made by tests/derive from the declarations of naga_kinds and naga_ir.
-- Values whose types are declared in the module `binding` are read as they are written.
use Rattle.std.proofs.Common.{refl}
use Rattle.std.specs.List.{AllByRecursion}
use Rattle.json.specs.Json.{Json}
use Rattle.naga_json.specs.Lawful.{Gives, IsRead, Lawful}
use Rattle.naga_json.proofs.CodecLemmas.{lawful-boolean, lawful-word}
use Rattle.naga_json.proofs.FieldsLemmas.{contains, distinct, lawful-field, lawful-no_fields, lawful-optional_field, lawful-struct, LawfulFields}
use Rattle.naga_json.proofs.VariantsLemmas.{gives-data_enum, lawful-holds, lawful-holds_fields, LawfulVariant}
use Rattle.naga_kinds.specs.declared.binding.Binding.{Binding}
use Rattle.naga_kinds.specs.declared.binding.Binding.TheVariants as binding
use Rattle.naga_json.specs.derived.Binding.{binding_built_in, binding_codec, binding_location, binding_rows, resource_binding_codec, resource_binding_fields}
use Rattle.naga_json.proofs.derived.BuiltinLemmas.{lawful-built_in}
use Rattle.naga_json.proofs.derived.KindsLemmas.{lawful-interpolation, lawful-sampling}

lawful-binding_built_in : LawfulVariant binding_built_in
lawful-binding_built_in = lawful-holds _ _ _ lawful-built_in

lawful-binding_location : LawfulVariant binding_location
unfolding distinct contains
lawful-binding_location = lawful-holds_fields _ _ _ (lawful-field _ _ _ lawful-word (lawful-optional_field _ _ _ lawful-interpolation (lawful-optional_field _ _ _ lawful-sampling (lawful-optional_field _ _ _ lawful-word (lawful-field _ _ _ lawful-boolean lawful-no_fields))))) refl

pub lawful-binding : Lawful binding_codec
lawful-binding = record { reads = reads; gives = gives-data_enum binding_codec.Fits binding_rows each }
  where
    reads : (value : Binding) → binding_codec.Fits value → IsRead binding_codec.decode value (binding_codec.encode value)
    reads (binding.BuiltIn value) fits = lawful-binding_built_in.reads value fits binding_codec.decode (λ held. refl)
    reads (binding.Location location interpolation sampling blend_src per_primitive) fits = lawful-binding_location.reads (location, (interpolation, (sampling, (blend_src, (per_primitive, tt))))) fits binding_codec.decode (λ held. refl)

    each : (held : Json) → AllByRecursion (λ row. Gives binding_codec.Fits row.1) (binding_rows held)
    each held = (lawful-binding_built_in.gives binding_codec.Fits (λ parts fits. fits) held, (lawful-binding_location.gives binding_codec.Fits (λ parts fits. fits) held, tt))

lawful-resource_binding_fields : LawfulFields resource_binding_fields
lawful-resource_binding_fields = lawful-field _ _ _ lawful-word (lawful-field _ _ _ lawful-word lawful-no_fields)

pub lawful-resource_binding : Lawful resource_binding_codec
unfolding distinct contains
lawful-resource_binding = lawful-struct resource_binding_fields lawful-resource_binding_fields _ _ (λ value. refl) (λ parts. refl) refl
