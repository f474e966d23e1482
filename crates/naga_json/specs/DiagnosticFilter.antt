-- Diagnostic filters.
use Rattle.std.specs.Prelude.{⊤, ℕ, List, [], ◌∷◌, codes, string_bytes, Option}
use Rattle.json.specs.Json.{Json}
use Rattle.naga_kinds.specs.declared.diagnostic_filter.Severity.{Severity}
use Rattle.naga_kinds.specs.declared.diagnostic_filter.StandardFilterableTriggeringRule.{StandardFilterableTriggeringRule}
use Rattle.naga_kinds.specs.declared.diagnostic_filter.FilterableTriggeringRule.{FilterableTriggeringRule}
use Rattle.naga_kinds.specs.declared.diagnostic_filter.FilterableTriggeringRule.TheVariants as rule
use Rattle.naga_kinds.specs.declared.diagnostic_filter.DiagnosticFilter.{DiagnosticFilter}
use Rattle.naga_kinds.specs.declared.diagnostic_filter.DiagnosticFilterNode.{DiagnosticFilterNode}
use Rattle.naga_json.specs.Codec.{Codec, handle_codec, text_codec}
use Rattle.naga_json.specs.Fields.{Fields, field, no_fields, optional_field, struct_codec}
use Rattle.naga_json.specs.derived.Kinds.{severity_codec, standard_filterable_triggering_rule_codec}
use Rattle.naga_json.specs.Lists.{pair_codec}
use Rattle.naga_json.specs.Variants.{Payload, Variant, data_enum_codec, holding, holds, row}

-- the rule of a diagnostic filter, without the spare capacity of its names
pub data RuleValue : Type 0 where
  standard : StandardFilterableTriggeringRule → RuleValue
  unknown : List ℕ → RuleValue
  user : (tool : List ℕ) (name : List ℕ) → RuleValue

-- the value of the rule of a diagnostic filter
abbrev pub rule_value : FilterableTriggeringRule → RuleValue
rule_value (rule.Standard known) = standard known
rule_value (rule.Unknown name) = unknown (string_bytes name)
rule_value (rule.User tool name) = user (string_bytes tool) (string_bytes name)

-- a diagnostic filter, without the spare capacity of the names in its rule
pub record FilterValue : Type 0 where
  pub new_severity : Severity
  pub triggering_rule : RuleValue

-- the value of a diagnostic filter
abbrev pub filter_value : DiagnosticFilter → FilterValue
filter_value filter = record {
  new_severity = filter.new_severity;
  triggering_rule = rule_value filter.triggering_rule;
}

-- a node of the tree of diagnostic filters, without the spare capacity of the names in its rule
pub record NodeValue : Type 0 where
  pub inner : FilterValue
  pub parent : Option ℕ

-- the value of a node of the tree of diagnostic filters
abbrev pub node_value : DiagnosticFilterNode → NodeValue
node_value node = record { inner = filter_value node.inner; parent = node.parent }

-- a `Standard`
abbrev pub standard_variant : Variant RuleValue
standard_variant = holds (codes "Standard") standard_filterable_triggering_rule_codec standard

-- an `Unknown`
abbrev pub unknown_variant : Variant RuleValue
unknown_variant = holds (codes "Unknown") text_codec unknown

-- an `User`
abbrev pub user_variant : Variant RuleValue
user_variant = holds (codes "User") (pair_codec text_codec) (λ names. user names.0 names.1)

-- the variants of a rule
abbrev pub rule_rows : Json → List (List ℕ × Option RuleValue)
rule_rows held = row standard_variant held ∷ row unknown_variant held ∷ row user_variant held ∷ []

-- how the rule of a diagnostic filter is written
abbrev pub rule_payload : RuleValue → Payload
rule_payload (standard known) = holding standard_variant known
rule_payload (unknown name) = holding unknown_variant name
rule_payload (user tool name) = holding user_variant (tool, name)

-- the rule of a diagnostic filter, without the spare capacity of its names
abbrev pub rule_codec : Codec RuleValue
rule_codec = data_enum_codec rule_rows rule_payload

-- the fields of a diagnostic filter
abbrev pub filter_fields : Fields (Severity × (RuleValue × ⊤))
filter_fields = field (codes "new_severity") severity_codec (field (codes "triggering_rule") rule_codec no_fields)

-- a diagnostic filter
abbrev pub filter_codec : Codec FilterValue
filter_codec =
    struct_codec filter_fields
    (λ parts. record { new_severity = parts.0; triggering_rule = parts.1.0 })
    (λ value. (value.new_severity, (value.triggering_rule, tt)))

-- the fields of a node of the tree of diagnostic filters
abbrev pub node_fields : Fields (FilterValue × (Option ℕ × ⊤))
node_fields = field (codes "inner") filter_codec (optional_field (codes "parent") handle_codec no_fields)

-- a node of the tree of diagnostic filters
abbrev pub node_codec : Codec NodeValue
node_codec =
    struct_codec node_fields
    (λ parts. record { inner = parts.0; parent = parts.1.0 })
    (λ value. (value.inner, (value.parent, tt)))
