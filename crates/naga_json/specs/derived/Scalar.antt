-- Made by tests/derive from the declarations of naga_kinds and naga_ir.
-- How values are written and read whose types are declared in the module `scalar`.
use Rattle.std.specs.Prelude.{codes, ℕ, ⊤}
use Rattle.naga_json.specs.Codec.{byte_codec, Codec}
use Rattle.naga_json.specs.Fields.{field, Fields, no_fields, struct_codec}
use Rattle.naga_kinds.specs.declared.scalar.ScalarKind.{ScalarKind}
use Rattle.naga_kinds.specs.declared.scalar.Scalar.{Scalar}
use Rattle.naga_json.specs.derived.Kinds.{scalar_kind_codec}

-- the fields of a `Scalar`
abbrev pub scalar_fields : Fields (ScalarKind × (ℕ × ⊤))
scalar_fields = field (codes "kind") scalar_kind_codec (field (codes "width") byte_codec no_fields)

-- a `Scalar`
abbrev pub scalar_codec : Codec Scalar
scalar_codec =
    struct_codec scalar_fields
    (λ parts. record { kind = parts.0; width = parts.1.0 })
    (λ value. (value.kind, (value.width, tt)))
