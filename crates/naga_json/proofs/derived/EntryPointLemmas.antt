-- Made by tests/derive from the declarations of naga_kinds and naga_ir.
-- Values whose types are declared in the module `entry_point` are read as they are written.
use Rattle.std.proofs.Common.{refl}
use Rattle.std.specs.List.{AllByRecursion}
use Rattle.json.specs.Json.{Json}
use Rattle.naga_json.specs.Lawful.{Gives, IsRead, Lawful}
use Rattle.naga_json.proofs.FieldsLemmas.{contains, distinct, lawful-field, lawful-no_fields}
use Rattle.naga_json.proofs.VariantsLemmas.{gives-enum, is_word, lawful-holds_fields, LawfulVariant}
use Rattle.naga_kinds.specs.declared.entry_point.EarlyDepthTest.{EarlyDepthTest}
use Rattle.naga_kinds.specs.declared.entry_point.EarlyDepthTest.TheVariants as early_depth_test
use Rattle.naga_json.specs.derived.EntryPoint.{early_depth_test_allow, early_depth_test_codec, early_depth_test_names, early_depth_test_rows}
use Rattle.naga_json.proofs.derived.KindsLemmas.{lawful-conservative_depth}

lawful-early_depth_test_allow : LawfulVariant early_depth_test_allow
unfolding distinct contains
lawful-early_depth_test_allow = lawful-holds_fields _ _ _ (lawful-field _ _ _ lawful-conservative_depth lawful-no_fields) refl

pub lawful-early_depth_test : Lawful early_depth_test_codec
lawful-early_depth_test = record { reads = reads; gives = gives-enum early_depth_test_codec.Fits early_depth_test_names early_depth_test_rows (search) each }
  where
    reads : (value : EarlyDepthTest) → early_depth_test_codec.Fits value → IsRead early_depth_test_codec.decode value (early_depth_test_codec.encode value)
    reads early_depth_test.Force fits = is_word refl
    reads (early_depth_test.Allow conservative) fits = lawful-early_depth_test_allow.reads (conservative, tt) fits early_depth_test_codec.decode (λ held. refl)

    each : (held : Json) → AllByRecursion (λ row. Gives early_depth_test_codec.Fits row.1) (early_depth_test_rows held)
    each held = (lawful-early_depth_test_allow.gives early_depth_test_codec.Fits (λ parts fits. fits) held, tt)
