-- Made by tests/derive from the declarations of naga_kinds and naga_ir.
-- How values are written and read whose types are declared in the module `image`.
use Rattle.std.specs.Prelude.{[], codes, List, Option, ℕ, ◌∷◌}
use Rattle.json.specs.Json.{Json}
use Rattle.naga_json.specs.Codec.{boolean_codec, Codec}
use Rattle.naga_json.specs.Fields.{field, no_fields}
use Rattle.naga_json.specs.FlagSets.{storage_access_codec}
use Rattle.naga_json.specs.Variants.{enum_codec, holding, holds_fields, Payload, row, Variant, word}
use Rattle.naga_kinds.specs.declared.image.ImageClass.{ImageClass}
use Rattle.naga_kinds.specs.declared.image.ImageClass.TheVariants as image_class
use Rattle.naga_json.specs.derived.Kinds.{scalar_kind_codec, storage_format_codec}

-- a `Sampled`
abbrev pub image_class_sampled : Variant ImageClass
image_class_sampled =
    holds_fields (codes "Sampled")
    (field (codes "kind") scalar_kind_codec (field (codes "multi") boolean_codec no_fields))
    (λ parts. image_class.Sampled parts.0 parts.1.0)

-- a `Depth`
abbrev pub image_class_depth : Variant ImageClass
image_class_depth =
    holds_fields (codes "Depth")
    (field (codes "multi") boolean_codec no_fields)
    (λ parts. image_class.Depth parts.0)

-- a `Storage`
abbrev pub image_class_storage : Variant ImageClass
image_class_storage =
    holds_fields (codes "Storage")
    (field (codes "format") storage_format_codec (field (codes "access") storage_access_codec no_fields))
    (λ parts. image_class.Storage parts.0 parts.1.0)

-- the variants of `ImageClass` that are names alone
abbrev pub image_class_names : List (List ℕ × ImageClass)
image_class_names =
    (codes "External", image_class.External) ∷
    []

-- the variants of `ImageClass` that contain data
abbrev pub image_class_rows : Json → List (List ℕ × Option ImageClass)
image_class_rows held =
    row image_class_sampled held ∷
    row image_class_depth held ∷
    row image_class_storage held ∷
    []

-- how an `ImageClass` is written
abbrev pub image_class_payload : ImageClass → Payload
image_class_payload (image_class.Sampled kind multi) = holding image_class_sampled (kind, (multi, tt))
image_class_payload (image_class.Depth multi) = holding image_class_depth (multi, tt)
image_class_payload image_class.External = word (codes "External")
image_class_payload (image_class.Storage format access) = holding image_class_storage (format, (access, tt))

-- an `ImageClass`
abbrev pub image_class_codec : Codec ImageClass
image_class_codec = enum_codec image_class_names image_class_rows image_class_payload
