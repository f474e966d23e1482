-- Diagnostic rules as plain values, without the capacities of their strings.
use Rattle.std.specs.Prelude.{ℕ, List, string_bytes}
use Rattle.naga_kinds.specs.declared.diagnostic_filter.FilterableTriggeringRule.{FilterableTriggeringRule}
use Rattle.naga_kinds.specs.declared.diagnostic_filter.FilterableTriggeringRule.TheVariants.{Standard, Unknown, User}
use Rattle.naga_kinds.specs.declared.diagnostic_filter.StandardFilterableTriggeringRule.{StandardFilterableTriggeringRule}

-- a rule of WGSL, or a rule that is given by its name or names
pub data Rule : Type 0 where
  standard : (rule : StandardFilterableTriggeringRule) → Rule
  unknown : (name : List ℕ) → Rule
  user : (tool name : List ℕ) → Rule

-- the rule that a value represents
abbrev pub rule_of : FilterableTriggeringRule → Rule
rule_of (Standard rule) = standard rule
rule_of (Unknown name) = unknown (string_bytes name)
rule_of (User tool name) = user (string_bytes tool) (string_bytes name)
