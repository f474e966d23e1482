-- The rule of a renamed expression is its rule, renamed.
use Rattle.std.proofs.Common.{◌≡◌, refl, ℕ}
use Rattle.std.specs.Option.{option_map}
use Rattle.naga_ir.specs.declared.expression.Expression.{Expression}
use Rattle.naga_ir.specs.declared.expression.Expression.TheVariants.{ImageQuery, Binary, Relational}
use Rattle.naga_ir.specs.declared.expression.ImageQuery as query
use Rattle.naga_ir.specs.declared.expression.ImageQuery.TheVariants.{Size}
use Rattle.naga_compact.specs.Renaming.{Renaming}
use Rattle.naga_compact.specs.derived.Renaming.{rename_expression, rename_image_query}
use Rattle.naga_typifier.specs.Rules.{rule_of_expression, rule_of_query}
use Rattle.naga_typifier.specs.declared.rules.Named.{Named}
use Rattle.naga_typifier.specs.declared.rules.Named.TheVariants as named
use Rattle.naga_typifier.specs.declared.rules.Rule.{Rule}
use Rattle.naga_typifier.specs.declared.rules.Rule.TheVariants as rule
use Rattle.naga_typifier.proofs.RulesLemmas.{rule_of_binary-by, rule_of_relational-by}

module _ (r : Renaming) where
  -- what is named, at its new handle
  abbrev pub rename_named : Named → Named
  rename_named (named.Constant constant) = named.Constant (r.constants constant)
  rename_named (named.Override override) = named.Override (r.overrides override)
  rename_named (named.GlobalVariable global) = named.GlobalVariable (r.global_variables global)
  rename_named (named.Result function) = named.Result (r.functions function)
  rename_named what = what

  -- the rule with its operands, or what it names, at their new handles
  abbrev pub rename_rule : Rule → Rule
  rename_rule (rule.Fixed size scalar) = rule.Fixed size scalar
  rename_rule (rule.Declared ty) = rule.Declared (r.types ty)
  rename_rule (rule.Named what) = rule.Named (rename_named what)
  rename_rule (rule.Like operand) = rule.Like (r.expressions operand)
  rename_rule (rule.Read what operand) = rule.Read what (r.expressions operand)
  rename_rule (rule.Product left right) = rule.Product (r.expressions left) (r.expressions right)
  rename_rule (rule.Math fun first second) = rule.Math fun (r.expressions first) (option_map r.expressions second)

  -- a rule and the renamed one
  abbrev AreRenamed : Rule → Rule → Type 0
  AreRenamed old new = new ≡ rename_rule old

  query-renamed : (asked : query.ImageQuery) (image : ℕ) → rule_of_query (rename_image_query r asked) (r.expressions image) ≡ rename_rule (rule_of_query asked image)
  query-renamed (Size level) image = refl
  query-renamed asked image = refl

  pub rule-renamed : (expression : Expression) → rule_of_expression (rename_expression r expression) ≡ rename_rule (rule_of_expression expression)
  rule-renamed (ImageQuery image asked) = query-renamed asked image
  rule-renamed (Binary of left right) = rule_of_binary-by AreRenamed left right (r.expressions left) (r.expressions right) refl refl refl of
  rule-renamed (Relational fun argument) = rule_of_relational-by AreRenamed argument (r.expressions argument) refl refl fun
  rule-renamed expression = refl
