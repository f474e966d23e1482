-- Made by tests/derive from the declarations of naga_kinds and naga_ir.
-- How values are written and read whose types are declared in the module `entry_point`.
use Rattle.std.specs.Prelude.{[], codes, List, Option, ℕ, ◌∷◌}
use Rattle.json.specs.Json.{Json}
use Rattle.naga_json.specs.Codec.{Codec}
use Rattle.naga_json.specs.Fields.{field, no_fields}
use Rattle.naga_json.specs.Variants.{enum_codec, holding, holds_fields, Payload, row, Variant, word}
use Rattle.naga_kinds.specs.declared.entry_point.EarlyDepthTest.{EarlyDepthTest}
use Rattle.naga_kinds.specs.declared.entry_point.EarlyDepthTest.TheVariants as early_depth_test
use Rattle.naga_json.specs.derived.Kinds.{conservative_depth_codec}

-- an `Allow`
abbrev pub early_depth_test_allow : Variant EarlyDepthTest
early_depth_test_allow =
    holds_fields (codes "Allow")
    (field (codes "conservative") conservative_depth_codec no_fields)
    (λ parts. early_depth_test.Allow parts.0)

-- the variants of `EarlyDepthTest` that are names alone
abbrev pub early_depth_test_names : List (List ℕ × EarlyDepthTest)
early_depth_test_names =
    (codes "Force", early_depth_test.Force) ∷
    []

-- the variants of `EarlyDepthTest` that contain data
abbrev pub early_depth_test_rows : Json → List (List ℕ × Option EarlyDepthTest)
early_depth_test_rows held =
    row early_depth_test_allow held ∷
    []

-- how an `EarlyDepthTest` is written
abbrev pub early_depth_test_payload : EarlyDepthTest → Payload
early_depth_test_payload early_depth_test.Force = word (codes "Force")
early_depth_test_payload (early_depth_test.Allow conservative) = holding early_depth_test_allow (conservative, tt)

-- an `EarlyDepthTest`
abbrev pub early_depth_test_codec : Codec EarlyDepthTest
early_depth_test_codec = enum_codec early_depth_test_names early_depth_test_rows early_depth_test_payload
