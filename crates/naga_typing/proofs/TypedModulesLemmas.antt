-- Declarations and functions that are typed, and the first fault of a module.
use Rattle.std.proofs.Common.{◌≡◌, ◌∙◌, ap, inl, inr, subst, sym, ◌⊎◌, ℕ, List, [], None, Option, Some, map, take}
use Rattle.std.specs.Option.{option_map}
use Rattle.std.specs.Prelude.{All, slice_get}
use Rattle.naga_arena.specs.Arena.{value_at, values}
use Rattle.naga_ir.specs.Module.{IsEmptyFunction}
use Rattle.naga_ir.specs.View.{tree_of}
use Rattle.naga_ir.specs.declared.module.Function as function
use Rattle.naga_ir.specs.declared.module.Module as the_module
use Rattle.naga_flow.specs.Bodies.{functions_of, functions_of_entries}
use Rattle.naga_flow.specs.declared.bodies.BodyOwner.TheVariants as owner
use Rattle.naga_typifier.specs.Context.{Context, context_in, context_with}
use Rattle.naga_typifier.specs.Typing.{typing}
use Rattle.naga_typifier.specs.declared.resolution.TypeResolution.{TypeResolution}
use Rattle.naga_typing.specs.Checks.{IsMismatchIn}
use Rattle.naga_typing.specs.Faults.{ExpressionsAreTyped, FitsBy, IsExpressionFault, IsInitialFault, IsStop}
use Rattle.naga_typing.specs.Found.{found_in}
use Rattle.naga_typing.specs.Initials.{constants_of, locals_of, overrides_of, variables_of}
use Rattle.naga_typing.specs.Requirements.{Signature}
use Rattle.naga_typing.specs.Statements.{BodyIsTyped}
use Rattle.naga_typing.specs.Stages.{GlobalInitialsFit, IsGlobalInitialFault, AreInvalidDeclarations, IsInvalidFunction, IsUseFault, UsesFit, invalid_function}
use Rattle.naga_typing.specs.TypedFunctions.{context_of, signature_in, signature_of}
use Rattle.naga_typing.specs.TypedModules.{DeclarationsAreTyped, FunctionIsTyped, IsFault, IsFirstOf, IsGlobalFault, IsInvalid, IsInvalidIn, global_context, global_signature, global_types}
use Rattle.naga_typing.specs.declared.initial.DeclarationKind.TheVariants as kind
use Rattle.naga_typing.specs.declared.invalid_types.InvalidTypes.{InvalidTypes}
use Rattle.naga_typing.specs.declared.invalid_types.InvalidTypes.TheVariants as invalid
use Rattle.naga_typing.specs.declared.invalid_types.TypeFault.{TypeFault}
use Rattle.naga_typing.specs.declared.invalid_types.TypeFault.TheVariants as fault
use Rattle.naga_typing.specs.declared.invalid_types.ValueFault.{ValueFault}
use Rattle.naga_typing.specs.declared.mismatch.TypeMismatch.{TypeMismatch}
use Rattle.naga_typing.specs.declared.found.FoundType.{FoundType}
use Rattle.naga_typing.specs.declared.invalid_types.InvalidValues.{InvalidValues}
use Rattle.naga_typing.specs.declared.invalid_types.InvalidValues.TheVariants as stop
use Rattle.naga_typing.specs.declared.typed_function.TypedFunction.{TypedFunction}

-- ---- functions

module _ (whole : the_module.Module) (inside : function.Function) (types : List TypeResolution) where
  abbrev ctx : Context
  ctx = context_in whole inside

  abbrev sig : Signature
  sig = signature_in whole inside

  abbrev Typed : Type 0
  Typed = ExpressionsAreTyped ctx sig (values inside.expressions)

  module _ (is : typing ctx [] (values inside.expressions) ≡ (types, None)) (typed : Typed) where
    same : types ≡ (typing ctx [] (values inside.expressions)).0
    same = sym (ap (λ found. found.0) is)

    pub FunctionIsTyped-uses : All (FitsBy ctx sig types) (locals_of inside) → BodyIsTyped ctx (slice_get types) sig (tree_of inside.body) → FunctionIsTyped whole inside
    FunctionIsTyped-uses locals body = record {
      typed = (typed.0, subst (λ by. BodyIsTyped ctx (slice_get by) sig (tree_of inside.body)) same body);
      operands = typed.1;
      variables = subst (λ by. All (FitsBy ctx sig by) (locals_of inside)) same locals;
    }

    pub IsFault-initial : (found : ValueFault) → IsInitialFault ctx sig types kind.LocalVariable (locals_of inside) found → IsFault whole inside (fault.Value found)
    IsFault-initial found h =
        inr (typed, subst (λ by. IsInitialFault ctx sig by kind.LocalVariable (locals_of inside) found) same h)

    pub IsFault-mismatch : (mismatch : TypeMismatch) (found : Option FoundType) → All (FitsBy ctx sig types) (locals_of inside)
        → IsMismatchIn (FitsBy ctx sig types) (tree_of inside.body) mismatch → found ≡ found_in ctx (slice_get types) mismatch.requirement
        → IsFault whole inside (fault.Mismatch mismatch found)
    IsFault-mismatch mismatch found locals h is_found = (
      typed,
      subst (λ by. All (FitsBy ctx sig by) (locals_of inside)) same locals,
      subst (λ by. IsMismatchIn (FitsBy ctx sig by) (tree_of inside.body) mismatch) same h,
      is_found ∙ ap (λ by. found_in ctx (slice_get by) mismatch.requirement) same,
    )

-- ---- declarations

module _ (whole : the_module.Module) (inside : function.Function) (empty : IsEmptyFunction inside) where
  context-global : context_in whole inside ≡ global_context whole
  context-global = λ i.
      context_with whole.constants whole.overrides whole.types whole.special_types whole.global_variables (empty.local_variables i) whole.functions (empty.arguments i)

  signature-global : signature_in whole inside ≡ global_signature whole
  signature-global = λ i. record {
    parameters = λ handle. option_map (λ (called : function.Function). map (λ argument. argument.ty) called.arguments.items) (value_at whole.functions handle);
    result = option_map (λ result. result.ty) (empty.result i);
    ray_desc = whole.special_types.ray_desc;
  }

  abbrev empty_context : Context
  empty_context = context_in whole inside

  abbrev empty_signature : Signature
  empty_signature = signature_in whole inside

  abbrev TypedBy : Context → Signature → Type 0
  TypedBy by of = ExpressionsAreTyped by of (values whole.global_expressions)

  pub typed-global : TypedBy empty_context empty_signature → TypedBy (global_context whole) (global_signature whole)
  typed-global h = subst (λ by. TypedBy by (global_signature whole)) context-global (subst (TypedBy empty_context) signature-global h)

  pub expression-global : (found : ValueFault) → IsExpressionFault empty_context empty_signature (values whole.global_expressions) found
      → IsExpressionFault (global_context whole) (global_signature whole) (values whole.global_expressions) found
  expression-global found h =
      subst (λ by. IsExpressionFault by (global_signature whole) (values whole.global_expressions) found) context-global
      (subst (λ of. IsExpressionFault empty_context of (values whole.global_expressions) found) signature-global h)

  pub IsGlobalFault-expression : (found : ValueFault) → IsExpressionFault empty_context empty_signature (values whole.global_expressions) found → IsGlobalFault whole found
  IsGlobalFault-expression found h = inl (expression-global found h)

  module _ (types : List TypeResolution) (is : typing empty_context [] (values whole.global_expressions) ≡ (types, None)) (typed : TypedBy empty_context empty_signature) where
    types-global : types ≡ global_types whole
    types-global = sym (ap (λ found. found.0) is) ∙ ap (λ by. (typing by [] (values whole.global_expressions)).0) context-global

    -- what holds by the function that is empty holds globally
    pub global : (P : Context → Signature → List TypeResolution → Type 0) → P empty_context empty_signature types → P (global_context whole) (global_signature whole) (global_types whole)
    global P h =
        subst (λ by. P by (global_signature whole) (global_types whole)) context-global
        (subst (λ of. P empty_context of (global_types whole)) signature-global (subst (P empty_context empty_signature) types-global h))

    pub DeclarationsAreTyped-fit : All (FitsBy empty_context empty_signature types) (constants_of whole) → All (FitsBy empty_context empty_signature types) (overrides_of whole) → All (FitsBy empty_context empty_signature types) (variables_of whole)
        → DeclarationsAreTyped whole
    DeclarationsAreTyped-fit constants overrides variables = record {
      expressions = typed-global typed;
      constants = global (λ by of known. All (FitsBy by of known) (constants_of whole)) constants;
      overrides = global (λ by of known. All (FitsBy by of known) (overrides_of whole)) overrides;
      variables = global (λ by of known. All (FitsBy by of known) (variables_of whole)) variables;
    }

    -- the first fault of the initial values
    abbrev IsFirst : ValueFault → Context → Signature → List TypeResolution → Type 0
    IsFirst found by of known =
        IsInitialFault by of known kind.Constant (constants_of whole) found
        ⊎ (All (FitsBy by of known) (constants_of whole)
        × (IsInitialFault by of known kind.Override (overrides_of whole) found
        ⊎ (All (FitsBy by of known) (overrides_of whole) × IsInitialFault by of known kind.GlobalVariable (variables_of whole) found)))

    pub IsGlobalFault-initial : (found : ValueFault) → IsFirst found empty_context empty_signature types → IsGlobalFault whole found
    IsGlobalFault-initial found h = inr (typed-global typed, global (IsFirst found) h)

-- ---- what the stages of the check find

module _ (typed : TypedFunction) where
  abbrev Found : Type 0
  Found =
      (typing (context_of typed) [] (values typed.function.now.expressions) ≡ (typed.known.now, None))
      × ExpressionsAreTyped (context_of typed) (signature_of typed) (values typed.function.now.expressions)

  pub FunctionIsTyped-stages : Found → UsesFit typed → FunctionIsTyped typed.«module».now typed.function.now
  FunctionIsTyped-stages found uses =
      FunctionIsTyped-uses typed.«module».now typed.function.now typed.known.now found.0 found.1 uses.0 uses.1

  pub IsFault-stages : Found → (fault : TypeFault) → IsUseFault typed fault → IsFault typed.«module».now typed.function.now fault
  IsFault-stages found (fault.Value other) h = IsFault-initial typed.«module».now typed.function.now typed.known.now found.0 found.1 other h
  IsFault-stages found (fault.Mismatch mismatch other) h =
      IsFault-mismatch typed.«module».now typed.function.now typed.known.now found.0 found.1 mismatch other h.0 h.1 h.2

  pub IsInvalidFunction-stop : (found : InvalidValues) → IsStop (context_of typed) (signature_of typed) (values typed.function.now.expressions) found
      → IsInvalidFunction typed.«module».now typed.function.now (invalid_function found)
  IsInvalidFunction-stop stop.Memory h = tt
  IsInvalidFunction-stop (stop.Fault found) h = inl h

  module _ (empty : IsEmptyFunction typed.function.now) where
    abbrev Globally : Type 0
    Globally =
        (typing (context_of typed) [] (values typed.«module».now.global_expressions) ≡ (typed.known.now, None))
        × ExpressionsAreTyped (context_of typed) (signature_of typed) (values typed.«module».now.global_expressions)

    pub DeclarationsAreTyped-stages : Globally → GlobalInitialsFit typed → DeclarationsAreTyped typed.«module».now
    DeclarationsAreTyped-stages found fit =
        DeclarationsAreTyped-fit typed.«module».now typed.function.now empty typed.known.now found.0 found.1 fit.0 fit.1 fit.2

    pub AreInvalidDeclarations-initial : Globally → (found : ValueFault) → IsGlobalInitialFault typed found → AreInvalidDeclarations typed.«module».now (stop.Fault found)
    AreInvalidDeclarations-initial found other h = IsGlobalFault-initial typed.«module».now typed.function.now empty typed.known.now found.0 found.1 other h

    pub AreInvalidDeclarations-expression : (found : InvalidValues) → IsStop (context_of typed) (signature_of typed) (values typed.«module».now.global_expressions) found
        → AreInvalidDeclarations typed.«module».now found
    AreInvalidDeclarations-expression stop.Memory h = tt
    AreInvalidDeclarations-expression (stop.Fault found) h = IsGlobalFault-expression typed.«module».now typed.function.now empty found h

-- ---- the first of a module

module _ (whole : the_module.Module) (inside : function.Function) (declared : DeclarationsAreTyped whole) where
  pub IsInvalid-function : (handle : ℕ) (error : InvalidTypes) → IsInvalidIn whole inside (owner.Function handle) error
      → slice_get (functions_of whole) handle ≡ Some inside → All (FunctionIsTyped whole) (take handle (functions_of whole))
      → IsInvalid whole error
  IsInvalid-function handle invalid.Memory is at earlier = tt
  IsInvalid-function handle (invalid.Declaration found) is at earlier = absurd is
  IsInvalid-function handle (invalid.Function found) is at earlier =
      (declared, subst (λ named. IsFirstOf whole named found.fault) (sym is.0) (record { inside = inside; at = at; is = is.1; earlier = earlier }))

  pub IsInvalid-entry_point : (position : ℕ) (error : InvalidTypes) → IsInvalidIn whole inside (owner.EntryPoint position) error
      → All (FunctionIsTyped whole) (functions_of whole) → slice_get (functions_of_entries whole.entry_points.items) position ≡ Some inside
      → All (FunctionIsTyped whole) (take position (functions_of_entries whole.entry_points.items)) → IsInvalid whole error
  IsInvalid-entry_point position invalid.Memory is typed at earlier = tt
  IsInvalid-entry_point position (invalid.Declaration found) is typed at earlier = absurd is
  IsInvalid-entry_point position (invalid.Function found) is typed at earlier =
      (declared, subst (λ named. IsFirstOf whole named found.fault) (sym is.0) (typed, record { inside = inside; at = at; is = is.1; earlier = earlier }))
