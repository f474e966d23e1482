-- The type of an expression depends only on the types of some of its operands.
use Rattle.std.proofs.Common.{◌≡◌, ◌∙◌, sym, ap, refl, ℕ, Option, Some, None}
use Rattle.std.proofs.lemmas.List.Elements.{recursion_from_All}
use Rattle.std.specs.List.{AllByRecursion}
use Rattle.std.specs.Prelude.{All, IfSome, option_and_then, option_map}
use Rattle.naga_ir.specs.declared.expression.Expression.{Expression}
use Rattle.naga_ir.specs.declared.expression.Expression.TheVariants.{ImageQuery, Binary, Relational, Math}
use Rattle.naga_ir.specs.declared.types.TypeInner.{TypeInner}
use Rattle.naga_valid.specs.Operands.{operands_of}
use Rattle.naga_compact.specs.Renaming.{of_expressions}
use Rattle.naga_compact.specs.derived.Renaming.{rename_expression}
use Rattle.naga_typifier.specs.Context.{Context, inner_of}
use Rattle.naga_typifier.specs.Math.{applied, rule_of}
use Rattle.naga_typifier.specs.Rows.{copied, product}
use Rattle.naga_typifier.specs.Rules.{rule_of_expression}
use Rattle.naga_typifier.specs.Table.{optional, product_of, read_from, type_by, type_of}
use Rattle.naga_typifier.specs.declared.resolution.TypeResolution.{TypeResolution}
use Rattle.naga_typifier.specs.declared.rules.Named.{Named}
use Rattle.naga_typifier.specs.declared.rules.Named.TheVariants as named
use Rattle.naga_typifier.specs.declared.rules.Rule.{Rule}
use Rattle.naga_typifier.specs.declared.rules.Rule.TheVariants as rule
use Rattle.naga_typifier.proofs.RulesLemmas.{rule_of_binary-by, rule_of_query-by, rule_of_relational-by}
use Rattle.naga_typing.specs.Operands.{Depends, DependsBy}
use Rattle.naga_typing.proofs.RenamedRulesLemmas.{rename_named, rename_rule, rule-renamed}

-- ---- among the operands

module _ (P : ℕ → Type 0) where
  -- the rules of most expressions depend on operands that are at hand
  by_operands : (expression : Expression) → AllByRecursion P (operands_of expression) → Depends P expression
  by_operands (ImageQuery image asked) all = rule_of_query-by (DependsBy P) image all.0 tt asked
  by_operands (Binary of left right) all = rule_of_binary-by (λ by _. DependsBy P by) left right left right (all.0, all.1.0) all.0 all.0 of
  by_operands (Relational fun argument) all = rule_of_relational-by (λ by _. DependsBy P by) argument argument all.0 tt fun
  by_operands (Math fun arg None arg2 arg3) all = (all.0, tt)
  by_operands (Math fun arg (Some arg1) arg2 arg3) all = (all.0, all.1.0)
  by_operands expression all = assumption

  -- what holds of all operands holds of those on which the type depends
  pub Depends-operands : (expression : Expression) → All P (operands_of expression) → Depends P expression
  Depends-operands expression all = by_operands expression (recursion_from_All P (operands_of expression) all)

  -- what holds of all expressions holds of those on which the type depends
  Depends-all : ((operand : ℕ) → P operand) → (expression : Expression) → Depends P expression
  Depends-all holds expression = Depends-operands expression (λ k d inside. holds _)

module _ (P Q : ℕ → Type 0) (more : (operand : ℕ) → P operand → Q operand) where
  optional-weaker : (operand : Option ℕ) → IfSome operand P → IfSome operand Q
  optional-weaker None so = tt
  optional-weaker (Some operand) so = more operand so

  DependsBy-weaker : (by : Rule) → DependsBy P by → DependsBy Q by
  DependsBy-weaker (rule.Like operand) so = more operand so
  DependsBy-weaker (rule.Read what operand) so = more operand so
  DependsBy-weaker (rule.Product left right) so = (more left so.0, more right so.1)
  DependsBy-weaker (rule.Math fun first second) so = (more first so.0, optional-weaker second so.1)
  DependsBy-weaker by so = tt

  pub Depends-weaker : (expression : Expression) → Depends P expression → Depends Q expression
  Depends-weaker expression so = DependsBy-weaker (rule_of_expression expression) so

-- ---- operands at other handles

module _ (f : ℕ → ℕ) (ctx : Context) (known after : ℕ → Option TypeResolution) where
  -- the operand has the same type at its new handle
  abbrev IsMoved : ℕ → Type 0
  IsMoved operand = after (f operand) ≡ known operand

  optional-moved : (operand : Option ℕ) → IfSome operand IsMoved → optional ctx after (option_map f operand) ≡ optional ctx known operand
  optional-moved None moved = refl
  optional-moved (Some operand) moved = ap (option_and_then (inner_of ctx)) moved

  product_of-moved : (left right : ℕ) → IsMoved left → IsMoved right → product_of ctx after (f left) (f right) ≡ product_of ctx known left right
  product_of-moved left right of_left of_right =
      λ i. option_and_then (λ (a : TypeResolution). option_and_then (λ (b : TypeResolution). option_and_then (λ (c : TypeInner). option_and_then (product a b c) (inner_of ctx b)) (inner_of ctx a)) (of_right i)) (of_left i)

  named-moved : (what : Named) → rename_named (of_expressions f) what ≡ what
  named-moved (named.Constant constant) = refl
  named-moved what = refl

  -- the type by a rule is the same with the new handles of the operands
  type_by-moved : (by : Rule) → DependsBy IsMoved by → type_by ctx after (rename_rule (of_expressions f) by) ≡ type_by ctx known by
  type_by-moved (rule.Fixed size scalar) moved = refl
  type_by-moved (rule.Declared ty) moved = refl
  type_by-moved (rule.Named what) moved = ap (λ named. type_by ctx known (rule.Named named)) (named-moved what)
  type_by-moved (rule.Like operand) moved = ap (option_and_then copied) moved
  type_by-moved (rule.Read what operand) moved = ap (λ found. option_and_then (read_from ctx what) (option_and_then (inner_of ctx) found)) moved
  type_by-moved (rule.Product left right) moved = product_of-moved left right moved.0 moved.1
  type_by-moved (rule.Math fun first second) moved =
      λ i. option_and_then (λ (t : TypeResolution). option_and_then (λ (c : TypeInner). applied ctx (rule_of fun) t c (optional-moved second moved.1 i)) (inner_of ctx t)) (moved.0 i)

  -- the expression has the same type with the new handles of its operands
  pub type_of-moved : (expression : Expression) → Depends IsMoved expression → type_of ctx after (rename_expression (of_expressions f) expression) ≡ type_of ctx known expression
  type_of-moved expression moved =
      ap (type_by ctx after) (rule-renamed (of_expressions f) expression) ∙ type_by-moved (rule_of_expression expression) moved

-- ---- operands with the same types

-- the expression has the same type wherever the operands on which it depends have the same types
pub type_of-depends : (ctx : Context) (known after : ℕ → Option TypeResolution) (expression : Expression) → Depends (λ operand. after operand ≡ known operand) expression → type_of ctx after expression ≡ type_of ctx known expression
type_of-depends ctx known after expression agrees =
    sym (type_of-moved (λ operand. operand) ctx after after expression (Depends-all (λ operand. after operand ≡ after operand) (λ operand. refl) expression))
    ∙ type_of-moved (λ operand. operand) ctx known after expression agrees
