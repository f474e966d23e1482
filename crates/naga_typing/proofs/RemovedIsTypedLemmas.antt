-- A function of a module whose unused elements are removed is typed if it was.
use Rattle.std.proofs.Common.{◌≡◌, ◌∙◌, sym, ap, subst, refl, inl, inr, ℕ, ◌<◌, List, [], ◌∷◌, map, length, Bool, true, Option, None, Some, arith}
use Rattle.std.proofs.lemmas.List.{length-map}
use Rattle.std.proofs.lemmas.List.Elements.{All-head, All-map, All-tail, All-weaker, Contains-append_left}
use Rattle.std.proofs.lemmas.Option.{none-some, same_Some, slice_get-map, slice_get_cases}
use Rattle.std.specs.FinSet.{contains}
use Rattle.std.specs.List.{AllByRecursion, Contains}
use Rattle.std.specs.Option.{option_map}
use Rattle.std.specs.Prelude.{All, IfSome, option_to_list, slice_get}
use Rattle.naga_arena.specs.Arena.{value_at, values}
use Rattle.naga_ir.specs.View.{tree_of}
use Rattle.naga_ir.specs.declared.expression.Expression.{Expression}
use Rattle.naga_ir.specs.declared.module.Function as function
use Rattle.naga_ir.specs.declared.module.FunctionArgument as argument
use Rattle.naga_ir.specs.declared.module.FunctionResult as outcome
use Rattle.naga_ir.specs.declared.module.LocalVariable as local
use Rattle.naga_ir.specs.declared.module.Module as the_module
use Rattle.naga_ir.specs.declared.module.SpecialTypes as special
use Rattle.naga_valid.specs.Expressions.{references_of_expression}
use Rattle.naga_valid.specs.Limits.{AreWithin}
use Rattle.naga_valid.specs.Places.{lengths, limits_in_part, limits_inside, references_found, references_in_part}
use Rattle.naga_valid.specs.Declarations.{references_of_local_variable}
use Rattle.naga_valid.specs.Valid.{HandlesAreValid}
use Rattle.naga_valid.specs.declared.place.Part.{Part}
use Rattle.naga_valid.specs.declared.place.Part.TheVariants as part
use Rattle.naga_valid.specs.declared.reference.Reference.{Reference}
use Rattle.naga_valid.specs.declared.reference.Reference.TheVariants as reference
use Rattle.naga_valid.proofs.HandlesAreValidLemmas.{HandlesAreValid-function}
use Rattle.naga_compact.specs.Kept.{kept_elements, new_index}
use Rattle.naga_compact.specs.Module.Compaction.{RemovesElements, kept_handles}
use Rattle.naga_compact.specs.Module.References.{references_of_function}
use Rattle.naga_compact.specs.Module.Used.{AreUsed}
use Rattle.naga_compact.specs.Operands.{OperandsPrecede}
use Rattle.naga_compact.specs.Renaming.{Renaming}
use Rattle.naga_compact.specs.Renaming.Declarations.{rename_local_variable}
use Rattle.naga_compact.specs.Renaming.Functions.{IsRenamedFunction, map_value, rename_argument, rename_result}
use Rattle.naga_compact.specs.Renaming.Renumbering.{renaming_of}
use Rattle.naga_compact.specs.derived.Renaming.{rename_expression}
use Rattle.naga_compact.specs.declared.module.renumbering.ModuleRenumbering.{ModuleRenumbering}
use Rattle.naga_compact.specs.declared.module.roots.KeepUnused.{KeepUnused}
use Rattle.naga_compact.proofs.IsWithinRenamedLemmas.{AreUpTo, IsKeptElement, Limits}
use Rattle.naga_compact.proofs.KeptElementsLemmas.{kept_elements-found, value_at-found}
use Rattle.naga_compact.proofs.MappedListLemmas.{items-mapped}
use Rattle.naga_typifier.specs.Context.{Context, context_in}
use Rattle.naga_typifier.specs.Typing.{typing}
use Rattle.naga_typifier.specs.declared.resolution.TypeResolution.{TypeResolution}
use Rattle.naga_typifier.specs.declared.resolve_error.ResolveError.{ResolveError}
use Rattle.naga_typing.specs.Expressions.{ExpressionFits}
use Rattle.naga_typing.specs.Faults.{FitsBy}
use Rattle.naga_typing.specs.Functions.{HasTypes}
use Rattle.naga_typing.specs.Initials.{locals_of, of_local_variable}
use Rattle.naga_typing.specs.Renamed.{HasRenamed, RenamesContext, TypeIsKept, TypesAreKept, rename_resolution}
use Rattle.naga_typing.specs.RenamedRequirements.{NameIsRenamed, RenamesCalled, RenamesSignature}
use Rattle.naga_typing.specs.Requirements.{Signature}
use Rattle.naga_typing.specs.Statements.{BodyIsTyped}
use Rattle.naga_typing.specs.TypedFunctions.{signature_in}
use Rattle.naga_typing.specs.TypedModules.{FunctionIsTyped, typing_in}
use Rattle.naga_typing.specs.declared.requirement.Requirement.{Requirement}
use Rattle.naga_typing.proofs.AreTypesLemmas.{AreTypes-exist, Precede-of, types_of}
use Rattle.naga_typing.proofs.BodyIsTypedRenamedLemmas.{BodyIsTyped-renamed, ExpressionFits-renamed, initial-renamed}
use Rattle.naga_typing.proofs.CompactedIsTypedLemmas.{All-at, All-from_positions}
use Rattle.naga_typing.proofs.FunctionIsTypedRenamedLemmas.{if_present}
use Rattle.naga_typing.proofs.ContextLemmas.{read-mapped, value_at-mapped}
use Rattle.naga_typing.proofs.FunctionIsTypedLemmas.{arguments_of}
use Rattle.naga_typing.proofs.KeepsTypesLemmas.{none-mapped}
use Rattle.naga_typing.proofs.RemovesElementsLemmas as removes
use Rattle.naga_typing.proofs.TypingLemmas.{typing-all, typing-some, typing-types}

module _ (whole new : the_module.Module) (keep_unused : KeepUnused) (kept : ModuleRenumbering) (used : AreUsed whole keep_unused (kept_handles kept)) (removed : RemovesElements kept whole new) (valid : HandlesAreValid whole) where
  abbrev r : Renaming
  r = renaming_of kept

  abbrev is_kept : ℕ → Bool
  is_kept = contains kept.types.members

  abbrev Stays : Reference → Type 0
  Stays = removes.Stays whole new keep_unused kept used removed valid

  -- ---- functions that are called

  -- a function that is kept, and what it has become
  abbrev FoundFunction : ℕ → Type 0
  FoundFunction handle =
      (before : function.Function) × (after : function.Function) × (value_at whole.functions handle ≡ Some before)
      × (value_at new.functions (r.functions handle) ≡ Some after) × IsRenamedFunction r before after

  function-found : (handle : ℕ) → contains kept.functions.members handle ≡ true → FoundFunction handle
  function-found handle so = elim (slice_get_cases whole.functions handle).1 [
    | inl present ↦
        let after = removes.AllZip-found _ (kept_elements kept.functions whole.functions) new.functions removed.functions (new_index kept.functions handle) present.0 (kept_elements-found kept.functions whole.functions handle present.0 present.2 so) in
        (present.0.0, after.0.0, value_at-found whole.functions handle (Some present.0) present.2, value_at-found new.functions (new_index kept.functions handle) (Some after.0) after.1, after.2.0)
    | inr past ↦
        let present : handle < length whole.functions = removes.is_element whole new keep_unused kept used removed valid (reference.Function handle) so in absurd (omega (arith, present, past.0))
  ]

  types-renamed : (list : List argument.FunctionArgument) → map (λ (a : argument.FunctionArgument). a.ty) (map (rename_argument r) list) ≡ map r.types (map (λ (a : argument.FunctionArgument). a.ty) list)
  types-renamed [] = refl
  types-renamed (a ∷ list) = ap (λ (rest : List ℕ). r.types a.ty ∷ rest) (types-renamed list)

  types-kept : (list : List argument.FunctionArgument) → All Stays (map (λ (a : argument.FunctionArgument). reference.«Type» a.ty) list) → AllByRecursion (TypeIsKept is_kept) (map (λ (a : argument.FunctionArgument). a.ty) list)
  types-kept [] all = tt
  types-kept (a ∷ list) all =
      let rest : List Reference = map (λ (b : argument.FunctionArgument). reference.«Type» b.ty) list in
      (All-head Stays (reference.«Type» a.ty) rest all, types-kept list (All-tail Stays (reference.«Type» a.ty) rest all))

  arguments-renamed : (before after : function.Function) → IsRenamedFunction r before after → arguments_of (Some after) ≡ option_map (map r.types) (arguments_of (Some before))
  arguments-renamed before after is =
      ap (λ (declared : function.Function). arguments_of (Some declared)) is.outside
      ∙ ap (λ (items : List argument.FunctionArgument). Some (map (λ (a : argument.FunctionArgument). a.ty) items)) (items-mapped (rename_argument r) before.arguments)
      ∙ ap Some (types-renamed before.arguments.items)

  arguments-stay : (handle : ℕ) → contains kept.functions.members handle ≡ true → (before : function.Function) → value_at whole.functions handle ≡ Some before → All Stays (references_in_part before part.Arguments)
  arguments-stay handle so before is =
      let present : handle < length whole.functions = removes.is_element whole new keep_unused kept used removed valid (reference.Function handle) so in
      removes.all_stay whole new keep_unused kept used removed valid (limits_inside (record (lengths whole) { functions = handle }) before) (omega arith, omega arith, omega arith, omega arith, omega arith, omega (arith, present))
      (references_in_part before part.Arguments)
      (λ name inside. removes.refers whole new keep_unused kept used removed valid (reference.Function handle) so name
      (subst (λ (v : Option function.Function). Contains (references_found references_of_function v) name) (sym is)
      (Contains-append_left (references_in_part before part.Arguments) _ name inside)))
      (HandlesAreValid-function whole valid handle before is part.Arguments)

  pub parameters-found : (handle : ℕ) → contains kept.functions.members handle ≡ true → arguments_of (value_at new.functions (r.functions handle)) ≡ option_map (map r.types) (arguments_of (value_at whole.functions handle))
  parameters-found handle so =
      let at = function-found handle so in
      ap arguments_of at.3 ∙ arguments-renamed at.0 at.1 at.4 ∙ sym (ap (λ (found : Option function.Function). option_map (map r.types) (arguments_of found)) at.2)

  pub parameters-kept : (handle : ℕ) → contains kept.functions.members handle ≡ true → IfSome (arguments_of (value_at whole.functions handle)) (AllByRecursion (TypeIsKept is_kept))
  parameters-kept handle so =
      let at = function-found handle so in
      subst (λ (found : Option function.Function). IfSome (arguments_of found) (AllByRecursion (TypeIsKept is_kept))) (sym at.2)
      (types-kept at.0.arguments.items (arguments-stay handle so at.0 at.2))

  called-renamed : (declared now : function.Function) (handle : ℕ) → contains kept.functions.members handle ≡ true
      → RenamesCalled r is_kept (signature_in whole declared) (signature_in new now) (context_in whole declared) (context_in new now) handle
  called-renamed declared now handle so = record {
    parameters = parameters-found handle so;
    parameters_kept = parameters-kept handle so;
    result = removes.result-found whole new keep_unused kept used removed valid handle so;
  }

  -- ---- a function

  module _ (declared now : function.Function) (is : IsRenamedFunction r declared now) (closed : (name : Reference) → Contains (references_of_function declared) name → IsKeptElement whole kept name) (limits : Limits) (up_to : AreUpTo whole limits)
      (within : (inner : Part) → AreWithin (limits_in_part (limits_inside limits declared) inner) (references_in_part declared inner))
      (precede : OperandsPrecede declared.expressions) (precede_now : OperandsPrecede now.expressions) (typed : FunctionIsTyped whole declared) where
    abbrev ctx : Context
    ctx = context_in whole declared

    abbrev ctx' : Context
    ctx' = context_in new now

    abbrev sig : Signature
    sig = signature_in whole declared

    abbrev sig' : Signature
    sig' = signature_in new now

    -- ---- the types

    abbrev found : List TypeResolution
    found = (typing_in whole declared).0

    is_typing : typing ctx [] (values declared.expressions) ≡ (found, None)
    is_typing = λ i. (found, typed.typed.0 i)

    of_old : HasTypes whole declared (slice_get found)
    of_old = typing-types ctx declared.expressions (Precede-of declared.expressions precede) found is_typing

    abbrev types : ℕ → Option TypeResolution
    types = types_of ctx' (value_at now.expressions) (Precede-of now.expressions precede_now)

    are : HasTypes new now types
    are = AreTypes-exist ctx' (value_at now.expressions) (Precede-of now.expressions precede_now)

    has-types : (types' after : ℕ → Option TypeResolution) → HasTypes whole declared types' → HasTypes new now after → (handle : ℕ) → HasRenamed r is_kept types' after handle
    has-types = removes.RemovesElements-has whole new keep_unused kept used removed valid declared now is closed limits up_to within precede

    long : length now.expressions ≡ length declared.expressions
    long = ap (λ (f : function.Function). length f.expressions) is.outside ∙ length-map declared.expressions (map_value (rename_expression r))

    left : (left : List TypeResolution) × (typing ctx' [] (values now.expressions) ≡ (left, None))
    left = typing-all ctx' now.expressions (Precede-of now.expressions precede_now) types are (λ handle less none.
        typing-some ctx declared.expressions (Precede-of declared.expressions precede) found is_typing handle (omega (arith, long, less))
        (none-mapped (rename_resolution r) (slice_get found handle) (sym (has-types (slice_get found) types of_old are handle).0 ∙ none)))

    has : (handle : ℕ) → HasRenamed r is_kept (slice_get found) (slice_get left.0) handle
    has = has-types (slice_get found) (slice_get left.0) of_old (typing-types ctx' now.expressions (Precede-of now.expressions precede_now) left.0 left.1)

    -- ---- what is named

    abbrev Named : Reference → Type 0
    Named = NameIsRenamed r is_kept sig sig' ctx ctx' (slice_get found) (slice_get left.0)

    named : (name : Reference) → Stays name → Named name
    named (reference.Expression handle) so = has handle
    named (reference.Function handle) so = called-renamed declared now handle so
    named (reference.«Type» handle) so = so
    named name so = tt

    renamed_context : RenamesContext r is_kept ctx ctx'
    renamed_context = removes.RenamesContext-removed whole new keep_unused kept used removed valid declared now is closed limits up_to within

    types_kept : TypesAreKept is_kept ctx
    types_kept = removes.TypesAreKept-removed whole new keep_unused kept used removed valid declared now is closed limits up_to within

    signature-renamed : RenamesSignature r is_kept sig sig'
    signature-renamed = record {
      result =
          ap (λ (f : function.Function). option_map (λ (result : outcome.FunctionResult). result.ty) f.result) is.outside
          ∙ read-mapped (rename_result r) r.types (λ (result : outcome.FunctionResult). result.ty) (λ result. refl) declared.result;
      result_kept = removes.outcome-kept whole new keep_unused kept used removed valid declared.result (removes.returned-stays whole new keep_unused kept used removed valid declared now is closed limits up_to within);
      ray_desc = ap (λ (types : special.SpecialTypes). types.ray_desc) removed.special_types;
      ray_desc_kept = (removes.fixed-kept whole new keep_unused kept used removed valid).0;
    }

    -- ---- parts of the function

    abbrev Before : Option Requirement → Type 0
    Before = FitsBy ctx sig found

    abbrev After : Option Requirement → Type 0
    After = FitsBy ctx' sig' left.0

    body : BodyIsTyped ctx' (slice_get left.0) sig' (tree_of now.body)
    body =
        subst (BodyIsTyped ctx' (slice_get left.0) sig') (sym is.body)
        (BodyIsTyped-renamed r is_kept ctx ctx' renamed_context types_kept sig sig' signature-renamed (slice_get found) (slice_get left.0) (tree_of declared.body)
        (All-weaker Stays Named named (references_in_part declared part.Body) (removes.body-stays whole new keep_unused kept used removed valid declared now is closed limits up_to within))
        typed.typed.1)

    expression-at : (handle : ℕ) → value_at now.expressions handle ≡ option_map (rename_expression r) (value_at declared.expressions handle)
    expression-at handle = ap (λ (f : function.Function). value_at f.expressions handle) is.outside ∙ value_at-mapped (rename_expression r) declared.expressions handle

    expression-fits : (handle : ℕ) (after : Expression) (before : Option Expression) → value_at declared.expressions handle ≡ before → option_map (rename_expression r) before ≡ Some after → ExpressionFits After after
    expression-fits handle after None at same = absurd (none-some after same)
    expression-fits handle after (Some before) at same =
        subst (ExpressionFits After) (same_Some (rename_expression r before) after same)
        (ExpressionFits-renamed r is_kept ctx ctx' renamed_context types_kept sig sig' signature-renamed (slice_get found) (slice_get left.0) before
        (All-weaker Stays Named named (references_of_expression before) (removes.found-stays whole new keep_unused kept used removed valid declared now is closed limits up_to within handle before at))
        (All-at (ExpressionFits Before) (values declared.expressions) handle before typed.operands at))

    operands : All (ExpressionFits After) (values now.expressions)
    operands = All-from_positions (ExpressionFits After) (values now.expressions)
        (λ handle after at. expression-fits handle after (value_at declared.expressions handle) refl (sym (expression-at handle) ∙ at))

    variable-at : (handle : ℕ) → value_at now.local_variables handle ≡ option_map (rename_local_variable r) (value_at declared.local_variables handle)
    variable-at handle = ap (λ (f : function.Function). value_at f.local_variables handle) is.outside ∙ value_at-mapped (rename_local_variable r) declared.local_variables handle

    slot-at : (handle : ℕ) (before : local.LocalVariable) → value_at declared.local_variables handle ≡ Some before → Before (of_local_variable before)
    slot-at handle before at =
        All-at Before (locals_of declared) handle (of_local_variable before) typed.variables
        (slice_get-map of_local_variable (values declared.local_variables) handle ∙ ap (option_map of_local_variable) at)

    variable-fits : (handle : ℕ) (after : local.LocalVariable) (before : Option local.LocalVariable) → value_at declared.local_variables handle ≡ before → option_map (rename_local_variable r) before ≡ Some after → After (of_local_variable after)
    variable-fits handle after None at same = absurd (none-some after same)
    variable-fits handle after (Some before) at same =
        subst (λ (variable : local.LocalVariable). After (of_local_variable variable)) (same_Some (rename_local_variable r before) after same)
        (initial-renamed r is_kept ctx ctx' renamed_context types_kept sig sig' signature-renamed (slice_get found) (slice_get left.0) before.ty
        (All-head Stays (reference.«Type» before.ty) (option_to_list (option_map reference.Expression before.init))
        (subst (λ (v : Option local.LocalVariable). All Stays (references_found references_of_local_variable v)) at
        (removes.variable-stays whole new keep_unused kept used removed valid declared now is closed limits up_to within handle)))
        before.init (if_present (HasRenamed r is_kept (slice_get found) (slice_get left.0)) before.init (λ init at. has init)) (slot-at handle before at))

    variables : All After (locals_of now)
    variables = All-map After of_local_variable (values now.local_variables)
        (All-from_positions (λ (variable : local.LocalVariable). After (of_local_variable variable)) (values now.local_variables)
        (λ handle after at. variable-fits handle after (value_at declared.local_variables handle) refl (sym (variable-at handle) ∙ at)))

    -- that the new function is typed, by the types of its expressions
    abbrev By : List TypeResolution → Type 0
    By known =
        BodyIsTyped ctx' (slice_get known) sig' (tree_of now.body)
        × (All (ExpressionFits (FitsBy ctx' sig' known)) (values now.expressions) × All (FitsBy ctx' sig' known) (locals_of now))

    there : By (typing_in new now).0
    there = subst By (sym (ap (λ (pair : List TypeResolution × Option ResolveError). pair.0) left.1)) (body, (operands, variables))

    pub FunctionIsTyped-removed : FunctionIsTyped new now
    FunctionIsTyped-removed = record {
      typed = (ap (λ (pair : List TypeResolution × Option ResolveError). pair.1) left.1, there.0);
      operands = there.1.0;
      variables = there.1.1;
    }
