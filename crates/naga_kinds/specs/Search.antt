-- Searches in a tree of filters, along the path from a leaf to the root.
use Rattle.std.specs.Prelude.{◌≡◌, ℕ, ◌+◌, min, Bool, true, false, List, length, find, map, Option, option_and_then}
use Rattle.std.specs.List.{filter_map, position_or_len}
use Rattle.std.specs.Option.{option_map_or}
use Rattle.naga_arena.specs.Arena.{value_at}
use Rattle.naga_arena.specs.declared.span.Span.{Span}
use Rattle.naga_kinds.specs.Filter.{default_of}
use Rattle.naga_kinds.specs.Path.{Path, Descends}
use Rattle.naga_kinds.specs.declared.diagnostic_filter.DiagnosticFilter.{DiagnosticFilter}
use Rattle.naga_kinds.specs.declared.diagnostic_filter.DiagnosticFilterNode.{DiagnosticFilterNode}
use Rattle.naga_kinds.specs.declared.diagnostic_filter.FilterableTriggeringRule.{FilterableTriggeringRule}
use Rattle.naga_kinds.specs.declared.diagnostic_filter.FilterableTriggeringRule.TheVariants.{Standard, Unknown, User}
use Rattle.naga_kinds.specs.declared.diagnostic_filter.Severity.{Severity}
use Rattle.naga_kinds.specs.declared.diagnostic_filter.StandardFilterableTriggeringRule.{StandardFilterableTriggeringRule}
use Rattle.naga_kinds.specs.declared.diagnostic_filter.StandardFilterableTriggeringRule.TheVariants.{DerivativeUniformity}

-- ---- the tree

-- the parent of the node with this handle, or `None` if there is none
abbrev pub parent_of : List (DiagnosticFilterNode × Span) → ℕ → Option ℕ
parent_of nodes handle = option_and_then (λ node. node.parent) (value_at nodes handle)

-- each parent has a lower index than its node
abbrev pub ParentsPrecede : List (DiagnosticFilterNode × Span) → Type 0
ParentsPrecede nodes = Descends (parent_of nodes)

-- the filters of the nodes with these handles
abbrev pub filters_of : List (DiagnosticFilterNode × Span) → List ℕ → List DiagnosticFilter
filters_of nodes handles = map (λ node. node.inner) (filter_map (value_at nodes) handles)

-- ---- the result of a search

-- `true` if a rule is the given rule of WGSL
abbrev pub is_rule : StandardFilterableTriggeringRule → FilterableTriggeringRule → Bool
is_rule DerivativeUniformity (Standard DerivativeUniformity) = true
is_rule rule (Unknown name) = false
is_rule rule (User tool name) = false

-- the severity of the first filter for the rule, or the rule's default severity if there is none
abbrev pub severity_by : List DiagnosticFilter → StandardFilterableTriggeringRule → Severity
severity_by filters rule =
    option_map_or (λ filter. filter.new_severity) (find (λ filter. is_rule rule filter.triggering_rule) filters) (default_of rule)

-- the number of filters that a search looks at: up to and including the first one for the rule, or all if there is none
abbrev pub looked_at : List DiagnosticFilter → StandardFilterableTriggeringRule → ℕ
looked_at filters rule =
    min (position_or_len (λ filter. is_rule rule filter.triggering_rule) filters + 1) (length filters)

-- a search from `leaf` finds `found`: a severity, and the number of filters that the search looks at
abbrev pub Finds : List (DiagnosticFilterNode × Span) → Option ℕ → StandardFilterableTriggeringRule → Severity × ℕ → Type 0
Finds nodes leaf rule found =
    (path : List ℕ) × Path (parent_of nodes) leaf path
    × (let filters = filters_of nodes path in found ≡ (severity_by filters rule, looked_at filters rule))
