-- Diagnostic filters are read as they are written.
use Rattle.std.proofs.Common.{refl}
use Rattle.std.specs.List.{AllByRecursion}
use Rattle.json.specs.Json.{Json}
use Rattle.naga_json.specs.DiagnosticFilter.{RuleValue, standard, unknown, user, filter_codec, filter_fields, node_codec, node_fields, rule_codec, rule_rows, standard_variant, unknown_variant, user_variant}
use Rattle.naga_json.specs.Lawful.{Gives, IsRead, Lawful}
use Rattle.naga_json.proofs.CodecLemmas.{lawful-handle, lawful-text}
use Rattle.naga_json.proofs.FieldsLemmas.{LawfulFields, contains, distinct, lawful-field, lawful-no_fields, lawful-optional_field, lawful-struct}
use Rattle.naga_json.proofs.derived.KindsLemmas.{lawful-severity, lawful-standard_filterable_triggering_rule}
use Rattle.naga_json.proofs.ListsLemmas.{lawful-pair}
use Rattle.naga_json.proofs.VariantsLemmas.{LawfulVariant, gives-data_enum, lawful-holds}

lawful-standard_variant : LawfulVariant standard_variant
lawful-standard_variant = lawful-holds _ _ _ lawful-standard_filterable_triggering_rule

lawful-unknown_variant : LawfulVariant unknown_variant
lawful-unknown_variant = lawful-holds _ _ _ lawful-text

lawful-user_variant : LawfulVariant user_variant
lawful-user_variant = lawful-holds _ _ _ (lawful-pair _ lawful-text)

pub lawful-rule : Lawful rule_codec
lawful-rule = record { reads = reads; gives = gives-data_enum rule_codec.Fits rule_rows each }
  where
    reads : (value : RuleValue) → rule_codec.Fits value → IsRead rule_codec.decode value (rule_codec.encode value)
    reads (standard known) fits = lawful-standard_variant.reads known fits rule_codec.decode (λ held. refl)
    reads (unknown name) fits = lawful-unknown_variant.reads name fits rule_codec.decode (λ held. refl)
    reads (user tool name) fits = lawful-user_variant.reads (tool, name) fits rule_codec.decode (λ held. refl)

    each : (held : Json) → AllByRecursion (λ row. Gives rule_codec.Fits row.1) (rule_rows held)
    each held = (lawful-standard_variant.gives rule_codec.Fits (λ parts fits. fits) held, (lawful-unknown_variant.gives rule_codec.Fits (λ parts fits. fits) held, (lawful-user_variant.gives rule_codec.Fits (λ parts fits. fits) held, tt)))

lawful-filter_fields : LawfulFields filter_fields
lawful-filter_fields = search (lawful-field, lawful-no_fields, lawful-severity, lawful-rule) depth 10

pub lawful-filter : Lawful filter_codec
unfolding distinct contains
lawful-filter = lawful-struct filter_fields lawful-filter_fields _ _ (λ value. refl) (λ parts. refl) refl

lawful-node_fields : LawfulFields node_fields
lawful-node_fields = search (lawful-field, lawful-no_fields, lawful-optional_field, lawful-handle, lawful-filter) depth 10

pub lawful-node : Lawful node_codec
unfolding distinct contains
lawful-node = lawful-struct node_fields lawful-node_fields _ _ (λ value. refl) (λ parts. refl) refl
