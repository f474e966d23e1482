-- Made by tests/derive from the declarations of naga_kinds and naga_ir.
-- How values are written and read whose types are declared in the module `binding`.
use Rattle.std.specs.Prelude.{[], codes, List, Option, ℕ, ⊤, ◌∷◌}
use Rattle.json.specs.Json.{Json}
use Rattle.naga_json.specs.Codec.{boolean_codec, Codec, word_codec}
use Rattle.naga_json.specs.Fields.{field, Fields, no_fields, optional_field, struct_codec}
use Rattle.naga_json.specs.Variants.{data_enum_codec, holding, holds, holds_fields, Payload, row, Variant}
use Rattle.naga_kinds.specs.declared.binding.Binding.{Binding}
use Rattle.naga_kinds.specs.declared.binding.Binding.TheVariants as binding
use Rattle.naga_kinds.specs.declared.binding.ResourceBinding.{ResourceBinding}
use Rattle.naga_json.specs.derived.Builtin.{built_in_codec}
use Rattle.naga_json.specs.derived.Kinds.{interpolation_codec, sampling_codec}

-- a `BuiltIn`
abbrev pub binding_built_in : Variant Binding
binding_built_in = holds (codes "BuiltIn") built_in_codec binding.BuiltIn

-- a `Location`
abbrev pub binding_location : Variant Binding
binding_location =
    holds_fields (codes "Location")
    (field (codes "location") word_codec (
    optional_field (codes "interpolation") interpolation_codec (
    optional_field (codes "sampling") sampling_codec (
    optional_field (codes "blend_src") word_codec (
    field (codes "per_primitive") boolean_codec no_fields)))))
    (λ parts. binding.Location parts.0 parts.1.0 parts.1.1.0 parts.1.1.1.0 parts.1.1.1.1.0)

-- the variants of `Binding` that contain data
abbrev pub binding_rows : Json → List (List ℕ × Option Binding)
binding_rows held =
    row binding_built_in held ∷
    row binding_location held ∷
    []

-- how a `Binding` is written
abbrev pub binding_payload : Binding → Payload
binding_payload (binding.BuiltIn value) = holding binding_built_in value
binding_payload (binding.Location location interpolation sampling blend_src per_primitive) =
    holding binding_location (location, (interpolation, (sampling, (blend_src, (per_primitive, tt)))))

-- a `Binding`
abbrev pub binding_codec : Codec Binding
binding_codec = data_enum_codec binding_rows binding_payload

-- the fields of a `ResourceBinding`
abbrev pub resource_binding_fields : Fields (ℕ × (ℕ × ⊤))
resource_binding_fields = field (codes "group") word_codec (field (codes "binding") word_codec no_fields)

-- a `ResourceBinding`
abbrev pub resource_binding_codec : Codec ResourceBinding
resource_binding_codec =
    struct_codec resource_binding_fields
    (λ parts. record { group = parts.0; binding = parts.1.0 })
    (λ value. (value.group, (value.binding, tt)))
