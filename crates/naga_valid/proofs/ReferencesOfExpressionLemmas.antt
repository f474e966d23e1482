-- Expressions whose handles are within limits: what they are made of, and what is looked up for them.
use Rattle.std.proofs.Common.{◌≡◌, ap, subst, ℕ, ◌<◌, List, [], ◌∷◌, length, Some}
use Rattle.std.specs.Prelude.{All, option_and_then}
use Rattle.std.proofs.lemmas.List.Elements.{All-nil, All-cons, All-head, All-tail}
use Rattle.std.proofs.lemmas.Option.{none-some, option_and_then_some, same_Some}
use Rattle.naga_arena.specs.Arena.{value_at, values}
use Rattle.naga_arena.specs.declared.span.Span.{Span}
use Rattle.naga_ir.specs.Chain.{ChainsPrecede, FollowsItsParts, made_of}
use Rattle.naga_ir.specs.Constant.{IsKnown}
use Rattle.naga_ir.specs.Expression.{compose_of}
use Rattle.naga_ir.specs.declared.expression.Expression.{Expression}
use Rattle.naga_ir.specs.declared.expression.Expression.TheVariants.{Constant, ZeroValue, Access, AccessIndex, Compose, Splat}
use Rattle.naga_ir.specs.declared.global_ctx.GlobalCtx.{GlobalCtx}
use Rattle.naga_valid.specs.Expressions.{references_of_expression}
use Rattle.naga_valid.specs.Limits.{AreWithin, IsWithin}
use Rattle.naga_valid.specs.Reference.{operands}
use Rattle.naga_valid.proofs.EachIsWithinLemmas.{EachIsWithin}
use Rattle.naga_valid.specs.declared.limits.Limits.{Limits}
use Rattle.naga_valid.specs.declared.reference.Reference.{Reference}
use Rattle.naga_valid.specs.declared.reference.Reference.TheVariants as reference
use Rattle.naga_valid.proofs.EachIsWithinLemmas.{EachIsWithin-All, EachIsWithin-at, EachIsWithin-enumerate_from}

module _ (limits : Limits) where
  -- the handle is below the limit of expressions
  abbrev IsBefore : ℕ → Type 0
  IsBefore handle = handle < limits.expressions

  AreWithin-operands : (handles : List ℕ) → AreWithin limits (operands handles) → All IsBefore handles
  AreWithin-operands [] all = All-nil IsBefore
  AreWithin-operands (handle ∷ handles) all =
      let first = All-head (IsWithin limits) (reference.Expression handle) (operands handles) all in
      let rest = All-tail (IsWithin limits) (reference.Expression handle) (operands handles) all in
      All-cons IsBefore handle handles first (AreWithin-operands handles rest)

  AreWithin-operand : (handle : ℕ) (rest : List Reference) → AreWithin limits (reference.Expression handle ∷ rest) → All IsBefore (handle ∷ [])
  AreWithin-operand handle rest all =
      All-cons IsBefore handle [] (All-head (IsWithin limits) (reference.Expression handle) rest all) (All-nil IsBefore)

  -- what an expression is made of are some of its operands
  pub AreWithin-made_of : (expression : Expression) → AreWithin limits (references_of_expression expression) → All (λ part. part < limits.expressions) (made_of expression)
  AreWithin-made_of (Access base index) all = AreWithin-operand base (reference.Expression index ∷ []) all
  AreWithin-made_of (AccessIndex base index) all = AreWithin-operand base [] all
  AreWithin-made_of (Compose ty components) all =
      AreWithin-operands components.items (All-tail (IsWithin limits) (reference.«Type» ty) (operands components.items) all)
  AreWithin-made_of (Splat size value) all = AreWithin-operand value [] all
  AreWithin-made_of _ all = All-nil IsBefore

  module _ (ctx : GlobalCtx) (constants : limits.constants ≡ length ctx.constants.now) (types : limits.types ≡ length ctx.types.now) where
    pub AreWithin-IsKnown : (expression : Expression) → AreWithin limits (references_of_expression expression) → IsKnown ctx expression
    AreWithin-IsKnown (Constant constant) all = subst (λ n. constant < n) constants (All-head (IsWithin limits) (reference.Constant constant) [] all)
    AreWithin-IsKnown (ZeroValue ty) all = subst (λ n. ty < n) types (All-head (IsWithin limits) (reference.«Type» ty) [] all)
    AreWithin-IsKnown _ all = tt

  -- the type of a `Compose`
  AreWithin-compose : (ty : ℕ) (components : List ℕ) (expression : Expression) → compose_of expression ≡ Some (ty, components) → AreWithin limits (references_of_expression expression) → ty < limits.types
  AreWithin-compose ty components (Compose own_ty own) is all =
      let own_within : own_ty < limits.types = All-head (IsWithin limits) (reference.«Type» own_ty) (operands own.items) all in
      subst (λ t. t < limits.types) (ap (λ pair. pair.0) (same_Some (own_ty, own.items) (ty, components) is)) own_within
  AreWithin-compose ty components _ is all = absurd (none-some (ty, components) is)

-- ---- arenas of expressions

module _ (arena : List (Expression × Span)) (limits : ℕ → Limits) (each : EachIsWithin references_of_expression limits (values arena)) where
  pub EachIsWithin-ChainsPrecede : ((index : ℕ) → (limits index).expressions ≡ index) → ChainsPrecede arena
  EachIsWithin-ChainsPrecede is =
      EachIsWithin-enumerate_from references_of_expression limits (values arena) each FollowsItsParts
      (λ index expression within. subst (λ n. All (λ part. part < n) (made_of expression)) (is index) (AreWithin-made_of (limits index) expression within))

  pub EachIsWithin-IsKnown : (ctx : GlobalCtx) → ((index : ℕ) → (limits index).constants ≡ length ctx.constants.now) → ((index : ℕ) → (limits index).types ≡ length ctx.types.now) → All (IsKnown ctx) (values arena)
  EachIsWithin-IsKnown ctx constants types =
      EachIsWithin-All references_of_expression limits (values arena) each (IsKnown ctx)
      (λ index expression. AreWithin-IsKnown (limits index) ctx (constants index) (types index) expression)

  pub EachIsWithin-compose : (count : ℕ) → ((index : ℕ) → (limits index).types ≡ count) → (handle ty : ℕ) (components : List ℕ) → option_and_then compose_of (value_at arena handle) ≡ Some (ty, components) → ty < count
  EachIsWithin-compose count types handle ty components is =
      option_and_then_some compose_of (value_at arena handle) (ty, components) is (λ expression found compose.
      subst (λ n. ty < n) (types handle)
      (AreWithin-compose (limits handle) ty components expression compose (EachIsWithin-at references_of_expression limits (values arena) each handle expression found)))
