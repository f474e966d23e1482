-- What has a fault is not typed.
use Rattle.std.proofs.Common.{◌≡◌, ◌∙◌, inl, inr, sym, subst, ℕ, List, [], ◌∷◌, ◌++◌, Option, Some, None}
use Rattle.std.proofs.lemmas.List.Elements.{All-head, All-tail}
use Rattle.std.proofs.lemmas.Option.{get_or_from_slice_get, slice_get_within}
use Rattle.std.specs.Prelude.{All, slice_get}
use Rattle.naga_arena.specs.Arena.{values}
use Rattle.naga_ir.specs.Tree.{Tree}
use Rattle.naga_ir.specs.View.{tree_of}
use Rattle.naga_ir.specs.declared.expression.Expression.{Expression}
use Rattle.naga_ir.specs.declared.module.Function as function
use Rattle.naga_ir.specs.declared.module.Module as the_module
use Rattle.naga_flow.proofs.IsFirstNotLemmas.{IsFirstNot-not_all}
use Rattle.naga_typifier.specs.Context.{Context, context_in}
use Rattle.naga_typifier.specs.declared.resolution.TypeResolution.{TypeResolution}
use Rattle.naga_typing.specs.Checks.{IsMismatchIn}
use Rattle.naga_typing.specs.Expressions.{ExpressionFits, required_by_expression}
use Rattle.naga_typing.specs.Faults.{ExpressionsAreTyped, FitsBy, IsExpressionFault, IsFirstUnfit, IsFirstUnmetAt, IsInitialFault}
use Rattle.naga_typing.specs.Requirements.{Signature}
use Rattle.naga_typing.specs.Statements.{EntryFits, required_by, statements}
use Rattle.naga_typing.specs.Initials.{constants_of, locals_of, overrides_of, variables_of}
use Rattle.naga_typing.specs.TypedFunctions.{signature_in}
use Rattle.naga_typing.specs.TypedModules.{DeclarationsAreTyped, FitsGlobally, FitsInside, FunctionIsTyped, IsFault, IsGlobalFault, global_context, global_signature, global_types, typing_in}
use Rattle.naga_typing.specs.declared.initial.DeclarationKind.{DeclarationKind}
use Rattle.naga_typing.specs.declared.initial.DeclarationKind.TheVariants as kind
use Rattle.naga_typing.specs.declared.invalid_types.TypeFault.{TypeFault}
use Rattle.naga_typing.specs.declared.invalid_types.TypeFault.TheVariants as type_fault
use Rattle.naga_typing.specs.declared.invalid_types.ValueFault.{ValueFault}
use Rattle.naga_typing.specs.declared.invalid_types.ValueFault.TheVariants as fault
use Rattle.naga_typing.specs.declared.mismatch.TypeMismatch.{TypeMismatch}
use Rattle.naga_typing.specs.declared.requirement.Requirement.{Requirement}

module _ {X : Type 0} (P : X → Type 0) where
  All-at : (xs : List X) (i : ℕ) (x : X) → slice_get xs i ≡ Some x → All P xs → P x
  All-at xs i x at all = subst P (get_or_from_slice_get xs i x x at) (all i x (slice_get_within xs i x at))

  All-middle : (before after : List X) (x : X) → All P (before ++ x ∷ after) → P x
  All-middle [] after x all = All-head P x after all
  All-middle (y ∷ before) after x all = All-middle before after x (All-tail P y (before ++ x ∷ after) all)

-- ---- requirements

module _ (fits : Option Requirement → Type 0) where
  IsFirstUnfit-refused : (expressions : List Expression) (count position : ℕ) (unmet : Requirement) →
      IsFirstUnfit fits expressions count position unmet → ¬ All (ExpressionFits fits) expressions
  IsFirstUnfit-refused expressions count position unmet first all =
      IsFirstNot-not_all fits (required_by_expression first.inside) (Some unmet) first.first
      (All-at (ExpressionFits fits) expressions position first.inside first.at all)

  IsFirstUnmetAt-refused : (slots : List (Option Requirement)) (position : ℕ) (unmet : Requirement) →
      IsFirstUnmetAt fits slots position unmet → ¬ All fits slots
  IsFirstUnmetAt-refused slots position unmet first all = first.fails (All-at fits slots position (Some unmet) first.at all)

  IsMismatchIn-refused : (body : Tree) (mismatch : TypeMismatch) → IsMismatchIn fits body mismatch → ¬ All (EntryFits fits) (statements body)
  IsMismatchIn-refused body mismatch first all =
      IsFirstNot-not_all fits (required_by first.at.0) (Some mismatch.requirement) first.first
      (All-middle (EntryFits fits) first.before first.after first.at (subst (All (EntryFits fits)) first.split all))

-- ---- expressions and initial values

module _ (ctx : Context) (signature : Signature) (expressions : List Expression) where
  pub IsExpressionFault-refused : (found : ValueFault) → IsExpressionFault ctx signature expressions found → ¬ ExpressionsAreTyped ctx signature expressions
  IsExpressionFault-refused (fault.NoType expression error) is typed =
      let same : None ≡ Some error = sym typed.0 ∙ is.1 in cc
  IsExpressionFault-refused (fault.Operand expression unmet) is typed =
      IsFirstUnfit-refused (FitsBy ctx signature _) expressions _ expression unmet.requirement is.0 typed.1
  IsExpressionFault-refused (fault.Initial declared unmet) is typed = is

module _ (ctx : Context) (signature : Signature) (types : List TypeResolution) (of : DeclarationKind) (slots : List (Option Requirement)) where
  IsInitialFault-refused : (found : ValueFault) → IsInitialFault ctx signature types of slots found → ¬ All (FitsBy ctx signature types) slots
  IsInitialFault-refused (fault.NoType expression error) is all = is
  IsInitialFault-refused (fault.Operand expression unmet) is all = is
  IsInitialFault-refused (fault.Initial declared unmet) is all =
      IsFirstUnmetAt-refused (FitsBy ctx signature types) slots is.0 unmet.requirement is.2 all

-- ---- functions and declarations

module _ (whole : the_module.Module) where
  pub IsFault-refused : (inside : function.Function) (found : TypeFault) → IsFault whole inside found → ¬ FunctionIsTyped whole inside
  IsFault-refused inside (type_fault.Value found) (inl here) typed =
      IsExpressionFault-refused (context_in whole inside) (signature_in whole inside) (values inside.expressions) found here (typed.typed.0, typed.operands)
  IsFault-refused inside (type_fault.Value found) (inr later) typed =
      IsInitialFault-refused (context_in whole inside) (signature_in whole inside) (typing_in whole inside).0 kind.LocalVariable (locals_of inside) found later.1 typed.variables
  IsFault-refused inside (type_fault.Mismatch mismatch type) is typed =
      IsMismatchIn-refused (FitsInside whole inside) (tree_of inside.body) mismatch is.2 typed.typed.1

  global-refused : (of : DeclarationKind) (slots : List (Option Requirement)) (found : ValueFault) →
      IsInitialFault (global_context whole) (global_signature whole) (global_types whole) of slots found → ¬ All (FitsGlobally whole) slots
  global-refused of slots = IsInitialFault-refused (global_context whole) (global_signature whole) (global_types whole) of slots

  pub IsGlobalFault-refused : (found : ValueFault) → IsGlobalFault whole found → ¬ DeclarationsAreTyped whole
  IsGlobalFault-refused found (inl here) typed =
      IsExpressionFault-refused (global_context whole) (global_signature whole) (values whole.global_expressions) found here typed.expressions
  IsGlobalFault-refused found (inr (expressions, inl here)) typed = global-refused kind.Constant (constants_of whole) found here typed.constants
  IsGlobalFault-refused found (inr (expressions, inr (constants, inl here))) typed =
      global-refused kind.Override (overrides_of whole) found here typed.overrides
  IsGlobalFault-refused found (inr (expressions, inr (constants, inr (overrides, here)))) typed =
      global-refused kind.GlobalVariable (variables_of whole) found here typed.variables
