-- The expressions to which renamed expressions and blocks refer.
use Rattle.std.proofs.Common.{◌≡◌, ◌∙◌, ap, refl, ℕ, List, [], ◌∷◌, map, Option, None, Some}
use Rattle.std.specs.List.{cons_option}
use Rattle.std.specs.Option.{option_map}
use Rattle.naga_ir.specs.Tree.{Tree}
use Rattle.naga_ir.specs.declared.expression.Expression.{Expression}
use Rattle.naga_valid.specs.Expressions.{references_of_expression}
use Rattle.naga_valid.specs.Operands.{expression_of, expressions_of, operands_of}
use Rattle.naga_valid.specs.Statements.{references_of_tree}
use Rattle.naga_valid.specs.declared.reference.Reference.{Reference}
use Rattle.naga_valid.specs.declared.reference.Reference.TheVariants as reference
use Rattle.naga_compact.specs.Operands.{used_by}
use Rattle.naga_compact.specs.Renaming.{Renaming, rename_reference}
use Rattle.naga_compact.specs.derived.Renaming.{rename_expression}
use Rattle.naga_compact.specs.Renaming.Blocks.{rename_tree}
use Rattle.naga_compact.proofs.RenamedBodyReferencesLemmas.{references_of_tree-renamed}
use Rattle.naga_compact.proofs.derived_lemmas.RenamedVariantsLemmas.{references_of_expression-renamed}

expression_of-renamed : (r : Renaming) (x : Reference) → expression_of (rename_reference r x) ≡ option_map r.expressions (expression_of x)
expression_of-renamed r (reference.«Type» handle) = refl
expression_of-renamed r (reference.Constant handle) = refl
expression_of-renamed r (reference.Override handle) = refl
expression_of-renamed r (reference.GlobalVariable handle) = refl
expression_of-renamed r (reference.GlobalExpression handle) = refl
expression_of-renamed r (reference.Expression handle) = refl
expression_of-renamed r (reference.Expressions start end') = refl
expression_of-renamed r (reference.LocalVariable handle) = refl
expression_of-renamed r (reference.Function handle) = refl
expression_of-renamed r (reference.DiagnosticFilter handle) = refl

pub cons_option-renamed : (f : ℕ → ℕ) (first : Option ℕ) (rest : List ℕ) → cons_option (option_map f first) (map f rest) ≡ map f (cons_option first rest)
cons_option-renamed f None rest = refl
cons_option-renamed f (Some x) rest = refl

expressions_of-renamed : (r : Renaming) (xs : List Reference) → expressions_of (map (rename_reference r) xs) ≡ map r.expressions (expressions_of xs)
expressions_of-renamed r [] = refl
expressions_of-renamed r (x ∷ xs) =
    ap (λ first. cons_option first (expressions_of (map (rename_reference r) xs))) (expression_of-renamed r x)
    ∙ ap (cons_option (option_map r.expressions (expression_of x))) (expressions_of-renamed r xs)
    ∙ cons_option-renamed r.expressions (expression_of x) (expressions_of xs)

pub operands_of-renamed : (r : Renaming) (expression : Expression) → operands_of (rename_expression r expression) ≡ map r.expressions (operands_of expression)
operands_of-renamed r expression =
    ap expressions_of (references_of_expression-renamed r expression) ∙ expressions_of-renamed r (references_of_expression expression)

pub used_by-renamed : (r : Renaming) (body : Tree) → used_by (rename_tree r body) ≡ map r.expressions (used_by body)
used_by-renamed r body = ap expressions_of (references_of_tree-renamed r body) ∙ expressions_of-renamed r (references_of_tree body)
