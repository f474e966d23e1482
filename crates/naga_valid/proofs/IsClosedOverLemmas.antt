-- The context of a valid module contains everything that is looked up in it.
use Rattle.std.proofs.Common.{◌≡◌, sym, subst, refl, ℕ, ◌<◌, List, [], length}
use Rattle.std.specs.Prelude.{All, IfSome, option_to_list}
use Rattle.std.specs.Option.{option_map}
use Rattle.naga_arena.specs.Arena.{values}
use Rattle.naga_arena.specs.declared.span.Span.{Span}
use Rattle.naga_ir.specs.Constant.{HasInit, IsClosedOver, IsKnown, MayHaveInit}
use Rattle.naga_ir.specs.declared.expression.Expression.{Expression}
use Rattle.naga_ir.specs.declared.global_ctx.GlobalCtx.{GlobalCtx}
use Rattle.naga_ir.specs.declared.module.Constant as constant
use Rattle.naga_ir.specs.declared.module.Module as the_module
use Rattle.naga_ir.specs.declared.module.Override as override
use Rattle.naga_valid.specs.Contexts.{IsContextOf}
use Rattle.naga_valid.specs.Declarations.{references_of_constant, references_of_override}
use Rattle.naga_valid.specs.Expressions.{references_of_expression}
use Rattle.naga_valid.specs.Limits.{AreWithin}
use Rattle.naga_valid.specs.Places.{lengths}
use Rattle.naga_valid.proofs.EachIsWithinLemmas.{EachIsWithin}
use Rattle.naga_valid.specs.Valid.{HandlesAreValid}
use Rattle.naga_valid.specs.declared.limits.Limits.{Limits}
use Rattle.naga_valid.specs.declared.reference.Reference.TheVariants as reference
use Rattle.naga_valid.proofs.EachIsWithinLemmas.{EachIsWithin-All}
use Rattle.naga_valid.proofs.HandlesAreValidLemmas.{global_limits, HandlesAreValid-constants, HandlesAreValid-global_expressions, HandlesAreValid-overrides}
use Rattle.naga_valid.proofs.IsWithinLemmas.{IsWithin-optional, IsWithin-rest, IsWithin-second}
use Rattle.naga_valid.proofs.ReferencesOfExpressionLemmas.{EachIsWithin-IsKnown}

module _ (whole : the_module.Module) (valid : HandlesAreValid whole) (ctx : GlobalCtx) (is : IsContextOf whole ctx) where
  -- a global expression of the module is one of the context
  in_context : (init : ℕ) → init < length whole.global_expressions → init < length ctx.global_expressions.now
  in_context init within = subst (λ arena. init < length arena) (sym is.global_expressions) within

  HasInit-within : (declared : constant.Constant) → AreWithin (lengths whole) (references_of_constant declared) → HasInit ctx declared
  HasInit-within declared all =
      in_context declared.init (IsWithin-second (lengths whole) (reference.«Type» declared.ty) (reference.GlobalExpression declared.init) [] all)

  MayHaveInit-within : (declared : override.Override) → AreWithin (lengths whole) (references_of_override declared) → MayHaveInit ctx declared
  MayHaveInit-within declared all =
      let init = IsWithin-optional (lengths whole) reference.GlobalExpression declared.init (IsWithin-rest (lengths whole) (reference.«Type» declared.ty) (option_to_list (option_map reference.GlobalExpression declared.init)) all) in
      subst (λ arena. IfSome declared.init (λ init. init < length arena)) (sym is.global_expressions) init

  known : (arena : List (Expression × Span)) (limits : ℕ → Limits) → EachIsWithin references_of_expression limits (values arena) → ((index : ℕ) → (limits index).constants ≡ length whole.constants) → ((index : ℕ) → (limits index).types ≡ length whole.types) → All (IsKnown ctx) (values arena)
  known arena limits each constants types =
      EachIsWithin-IsKnown arena limits each ctx
      (λ index. subst (λ list. (limits index).constants ≡ length list) (sym is.constants) (constants index))
      (λ index. subst (λ list. (limits index).types ≡ length list) (sym is.types) (types index))

  pub IsClosedOver-within : (arena : List (Expression × Span)) (limits : ℕ → Limits) → EachIsWithin references_of_expression limits (values arena) → ((index : ℕ) → (limits index).constants ≡ length whole.constants) → ((index : ℕ) → (limits index).types ≡ length whole.types) → IsClosedOver ctx arena
  IsClosedOver-within arena limits each constants types =
      let global = known whole.global_expressions (global_limits whole) (HandlesAreValid-global_expressions whole valid) (λ _. refl) (λ _. refl) in
      let inits = EachIsWithin-All references_of_constant (λ _. lengths whole) (values whole.constants) (HandlesAreValid-constants whole valid) (HasInit ctx) (λ _ declared. HasInit-within declared) in
      let optional_inits = EachIsWithin-All references_of_override (λ _. lengths whole) (values whole.overrides) (HandlesAreValid-overrides whole valid) (MayHaveInit ctx) (λ _ declared. MayHaveInit-within declared) in
      record {
        expressions = known arena limits each constants types;
        global_expressions = subst (λ list. All (IsKnown ctx) (values list)) (sym is.global_expressions) global;
        constants = subst (λ list. All (HasInit ctx) (values list)) (sym is.constants) inits;
        overrides = subst (λ list. All (MayHaveInit ctx) (values list)) (sym is.overrides) optional_inits;
      }

  pub IsClosedOver-global : IsClosedOver ctx ctx.global_expressions.now
  IsClosedOver-global =
      subst (IsClosedOver ctx) (sym is.global_expressions)
      (IsClosedOver-within whole.global_expressions (global_limits whole) (HandlesAreValid-global_expressions whole valid) (λ _. refl) (λ _. refl))
