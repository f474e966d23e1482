-- The declarations of a module whose unused elements are removed are typed if they were.
use Rattle.std.proofs.Common.{◌≡◌, ◌∙◌, sym, ap, subst, refl, inl, inr, ℕ, ◌<◌, List, [], ◌∷◌, map, length, Bool, true, Option, None, Some, arith}
use Rattle.std.proofs.lemmas.List.{length-map}
use Rattle.std.proofs.lemmas.List.Elements.{All-cons, All-contains, All-contains_itself, All-head, All-map, All-nil, All-tail, All-weaker}
use Rattle.std.proofs.lemmas.Option.{none-some, same_Some, slice_get-map, slice_get_cases, slice_get_past, slice_get_within}
use Rattle.std.specs.FinSet.{contains}
use Rattle.std.specs.List.{Contains}
use Rattle.std.specs.Option.{option_map}
use Rattle.std.specs.Prelude.{All, IfSome, option_to_list, slice_get}
use Rattle.naga_arena.specs.Arena.{value_at, values}
use Rattle.naga_arena.specs.declared.span.Span.{Span}
use Rattle.naga_ir.specs.declared.expression.Expression.{Expression}
use Rattle.naga_ir.specs.declared.expression.Expression.TheVariants as expression
use Rattle.naga_ir.specs.declared.module.Constant as constant
use Rattle.naga_ir.specs.declared.module.FunctionArgument as argument
use Rattle.naga_ir.specs.declared.module.GlobalVariable as global
use Rattle.naga_ir.specs.declared.module.LocalVariable as local
use Rattle.naga_ir.specs.declared.module.Module as the_module
use Rattle.naga_ir.specs.declared.module.Override as override
use Rattle.naga_ir.specs.declared.module.SpecialTypes as special
use Rattle.naga_ir.specs.declared.types.«Type».{«Type» as NamedType}
use Rattle.naga_ir.specs.declared.types.TypeInner.{TypeInner}
use Rattle.naga_ir.specs.declared.types.TypeInner.TheVariants as inner
use Rattle.naga_sets.specs.HandleSet.{BoundedSet}
use Rattle.naga_valid.specs.Declarations.{references_of_constant, references_of_global_variable, references_of_override}
use Rattle.naga_valid.specs.Expressions.{references_of_expression}
use Rattle.naga_valid.specs.Limits.{AreWithin, IsWithin}
use Rattle.naga_valid.specs.Operands.{expressions_of}
use Rattle.naga_valid.specs.Places.{lengths, references_found}
use Rattle.naga_valid.specs.Reference.{operands}
use Rattle.naga_valid.specs.Valid.{HandlesAreValid}
use Rattle.naga_valid.specs.declared.place.Place.TheVariants as place
use Rattle.naga_valid.specs.declared.reference.Reference.{Reference}
use Rattle.naga_valid.specs.declared.reference.Reference.TheVariants as reference
use Rattle.naga_valid.proofs.ContainsLemmas.{Contains-map}
use Rattle.naga_compact.specs.Kept.{kept_elements, new_index}
use Rattle.naga_compact.specs.Module.Compaction.{RemovesElements, kept_handles}
use Rattle.naga_compact.specs.Module.References.{as_global, references_of_element}
use Rattle.naga_compact.specs.Module.Used.{AreUsed, is_member}
use Rattle.naga_compact.specs.Renaming.{Renaming, in_global, rename_reference}
use Rattle.naga_compact.specs.Renaming.Declarations.{rename_constant, rename_global_variable, rename_override}
use Rattle.naga_compact.specs.Renaming.Functions.{map_value, map_values}
use Rattle.naga_compact.specs.Renaming.Renumbering.{renaming_of}
use Rattle.naga_compact.specs.derived.Renaming.{rename_expression, rename_type, rename_type_inner}
use Rattle.naga_compact.specs.declared.module.renumbering.ModuleRenumbering.{ModuleRenumbering}
use Rattle.naga_compact.specs.declared.module.roots.KeepUnused.{KeepUnused}
use Rattle.naga_compact.proofs.IsWithinRenamedLemmas.{IsKeptElement}
use Rattle.naga_compact.proofs.KeptElementsLemmas.{IsOrigin, IsOrigin-of, value_at-found}
use Rattle.naga_compact.proofs.RemovesElementsLemmas.{value_at-kept}
use Rattle.naga_compact.proofs.derived_lemmas.RenamedVariantsLemmas.{references_of_expression-renamed}
use Rattle.naga_typifier.specs.Context.{Context}
use Rattle.naga_typifier.specs.Typing.{typing}
use Rattle.naga_typifier.specs.declared.resolution.TypeResolution.{TypeResolution}
use Rattle.naga_typifier.specs.declared.resolve_error.ResolveError.{ResolveError}
use Rattle.naga_typing.specs.Arenas.{AreTypes, IsCompacted}
use Rattle.naga_typing.specs.Expressions.{ExpressionFits}
use Rattle.naga_typing.specs.Faults.{FitsBy}
use Rattle.naga_typing.specs.Initials.{constants_of, of_constant, of_global_variable, of_override, overrides_of, variables_of}
use Rattle.naga_typing.specs.Renamed.{HasRenamed, NamesAreKept, NamesAreRenamed, RenamesContext, TypeIsKept, TypesAreKept, rename_global, rename_resolution}
use Rattle.naga_typing.specs.RenamedRequirements.{NameIsRenamed, RenamesCalled, RenamesSignature}
use Rattle.naga_typing.specs.Requirements.{Signature}
use Rattle.naga_typing.specs.Statements.{of_type_if}
use Rattle.naga_typing.specs.TypedModules.{DeclarationsAreTyped, global_context, global_signature, global_types}
use Rattle.naga_typing.specs.declared.requirement.Requirement.{Requirement}
use Rattle.naga_typing.specs.declared.requirement.Source.TheVariants as source
use Rattle.naga_typing.proofs.AreTypesLemmas.{AreTypes-exist, Precede, types_of}
use Rattle.naga_typing.proofs.BodyIsTypedRenamedLemmas.{ExpressionFits-renamed, initial-renamed}
use Rattle.naga_typing.proofs.CompactedIsTypedLemmas.{All-at, All-each, All-from_positions}
use Rattle.naga_typing.proofs.ContextLemmas.{read-mapped}
use Rattle.naga_typing.proofs.DependsLemmas.{Depends-operands}
use Rattle.naga_typing.proofs.IsCompactedLemmas.{IsCompacted-types}
use Rattle.naga_typing.proofs.KeepsTypesLemmas.{none-mapped}
use Rattle.naga_typing.proofs.RemovedIsTypedLemmas.{parameters-found, parameters-kept}
use Rattle.naga_typing.proofs.RemovesElementsLemmas as removes
use Rattle.naga_typing.proofs.TypingLemmas.{typing-all, typing-some, typing-types}

-- ---- lists

-- what holds of the expressions among these handles
expressions-in : (P : Reference → Type 0) (Q : ℕ → Type 0) → ((handle : ℕ) → P (reference.Expression handle) → Q handle) → (names : List Reference) → All P names → All Q (expressions_of names)
expressions-in P Q gives [] all = All-nil Q
expressions-in P Q gives (reference.Expression handle ∷ names) all =
    All-cons Q handle (expressions_of names) (gives handle (All-head P (reference.Expression handle) names all)) (expressions-in P Q gives names (All-tail P (reference.Expression handle) names all))
expressions-in P Q gives (name ∷ names) all = expressions-in P Q gives names (All-tail P name names all)

-- where an element that is kept was
module _ {X : Type 0} (f : X → X) (kept : BoundedSet) (old new : List (X × Span)) (is : new ≡ map_values f (kept_elements kept old)) where
  abbrev Origin : ℕ → X → Type 0
  Origin position after =
      (at : ℕ) × (before : X) × (value_at old at ≡ Some before) × (contains kept.members at ≡ true) × (f before ≡ after) × (position ≡ new_index kept at)

  origin-of : (position : ℕ) (after : X × Span) → slice_get new position ≡ Some after → Origin position after.0
  origin-of position after found = go (slice_get (kept_elements kept old) position) refl
    where
      now : (entry : Option (X × Span)) → slice_get (kept_elements kept old) position ≡ entry → option_map (map_value f) entry ≡ Some after
      now entry at =
          sym (ap (λ (arena : List (X × Span)). slice_get arena position) is ∙ slice_get-map (map_value f) (kept_elements kept old) position ∙ ap (option_map (map_value f)) at)
          ∙ found

      go : (entry : Option (X × Span)) → slice_get (kept_elements kept old) position ≡ entry → Origin position after.0
      go None at = absurd (none-some after (now None at))
      go (Some entry) at =
          let from : IsOrigin kept old position entry = IsOrigin-of kept old position entry at in (
            from.at,
            entry.0,
            value_at-found old from.at (Some entry) from.found,
            from.so,
            ap (λ (pair : X × Span). pair.0) (same_Some (map_value f entry) after (now (Some entry) at)),
            from.renamed,
          )

  -- what holds of each element that is kept holds of all elements
  All-kept : (P : X → Type 0) → ((at : ℕ) (before : X) → value_at old at ≡ Some before → contains kept.members at ≡ true → P (f before)) → All P (values new)
  All-kept P holds = All-map P (λ (entry : X × Span). entry.0) new (All-from_positions (λ (entry : X × Span). P entry.0) new
      (λ position after found. let from = origin-of position after found in subst P from.4 (holds from.0 from.1 from.2 from.3)))

-- ---- global expressions of a valid module

-- each comes after its operands
pub Precede-global : (whole : the_module.Module) → HandlesAreValid whole → Precede (value_at whole.global_expressions)
Precede-global whole valid handle e found =
    Depends-operands (λ operand. operand < handle) e
    (expressions-in (IsWithin (record (lengths whole) { expressions = handle })) (λ operand. operand < handle) (λ operand within. within) (references_of_expression e)
    (subst (λ (v : Option Expression). AreWithin (record (lengths whole) { expressions = handle }) (references_found references_of_expression v)) found (valid.references (place.GlobalExpression handle))))

-- ---- the declarations

none-at : (X : Type 0) (position : ℕ) → slice_get {X = X} [] position ≡ None
none-at X position = slice_get_past {X = X} [] position (omega arith)

module _ (whole new : the_module.Module) (keep_unused : KeepUnused) (kept : ModuleRenumbering) (used : AreUsed whole keep_unused (kept_handles kept)) (removed : RemovesElements kept whole new)
    (valid : HandlesAreValid whole) (valid_after : HandlesAreValid new) (typed : DeclarationsAreTyped whole) where
  abbrev r : Renaming
  r = renaming_of kept

  -- the renaming of global expressions
  abbrev r' : Renaming
  r' = in_global r

  abbrev is_kept : ℕ → Bool
  is_kept = contains kept.types.members

  abbrev stays : ℕ → Bool
  stays = contains kept.global_expressions.members

  abbrev ctx : Context
  ctx = global_context whole

  abbrev ctx' : Context
  ctx' = global_context new

  abbrev sig : Signature
  sig = global_signature whole

  abbrev sig' : Signature
  sig' = global_signature new

  -- ---- what is kept

  -- the element is kept, if it is a type, a global expression, or what has a type
  abbrev Kept : Reference → Type 0
  Kept (reference.GlobalExpression handle) = stays handle ≡ true
  Kept name = removes.Stays whole new keep_unused kept used removed valid name

  -- the same inside a global expression
  abbrev KeptBefore : (limit : ℕ) → Reference → Type 0
  KeptBefore limit (reference.Expression handle) = (handle < limit) × (stays handle ≡ true)
  KeptBefore limit name = removes.Stays whole new keep_unused kept used removed valid name

  kept-element : (name : Reference) → IsKeptElement whole kept name → IsWithin (lengths whole) name → Kept name
  kept-element (reference.«Type» handle) so within = so within
  kept-element (reference.Constant handle) so within = so within
  kept-element (reference.Override handle) so within = so within
  kept-element (reference.GlobalVariable handle) so within = so within
  kept-element (reference.GlobalExpression handle) so within = so within
  kept-element (reference.Function handle) so within = so within
  kept-element name so within = tt

  kept-before : (limit : ℕ) → limit < length whole.global_expressions → (name : Reference) → IsKeptElement whole kept (as_global name) → IsWithin (record (lengths whole) { expressions = limit }) name → KeptBefore limit name
  kept-before limit less (reference.«Type» handle) so within = so within
  kept-before limit less (reference.Constant handle) so within = so within
  kept-before limit less (reference.Override handle) so within = so within
  kept-before limit less (reference.GlobalVariable handle) so within = so within
  kept-before limit less (reference.Expression handle) so within = (within, so (omega (arith, less, within)))
  kept-before limit less (reference.Function handle) so within = so within
  kept-before limit less name so within = tt

  all-kept : (names : List Reference) → ((name : Reference) → Contains names name → IsKeptElement whole kept name) → AreWithin (lengths whole) names → All Kept names
  all-kept names so within = λ k d inside. kept-element _ (so _ (All-contains_itself names k d inside)) (within k d inside)

  -- what a global expression that is kept refers to is kept
  expression-kept : (handle : ℕ) → stays handle ≡ true → (e : Expression) → value_at whole.global_expressions handle ≡ Some e → All (KeptBefore handle) (references_of_expression e)
  expression-kept handle so e found =
      let limits = record (lengths whole) { expressions = handle } in
      let within : AreWithin limits (references_of_expression e) =
      subst (λ (v : Option Expression). AreWithin limits (references_found references_of_expression v)) found (valid.references (place.GlobalExpression handle))
      in
      All-each (KeptBefore handle) (references_of_expression e) (λ name inside.
      kept-before handle (removes.is_element whole new keep_unused kept used removed valid (reference.GlobalExpression handle) so) name
      (removes.refers whole new keep_unused kept used removed valid (reference.GlobalExpression handle) so (as_global name)
      (subst (λ (v : Option Expression). Contains (map as_global (references_found references_of_expression v)) (as_global name)) (sym found)
      (Contains-map as_global (references_of_expression e) name inside)))
      (All-contains (IsWithin limits) (references_of_expression e) name within inside))

  -- ---- the context

  inner-same : (what : TypeInner) → rename_type_inner r' what ≡ rename_type_inner r what
  inner-same (inner.Pointer base space) = refl
  inner-same (inner.Array base size stride) = refl
  inner-same (inner.BindingArray base size) = refl
  inner-same (inner.Struct members span) = refl
  inner-same what = refl

  context-renamed : RenamesContext r' is_kept ctx ctx'
  context-renamed = record {
    types = λ ty so.
        ap (option_map (λ (type : NamedType). type.inner)) (removes.type-found whole new keep_unused kept used removed valid ty so)
        ∙ read-mapped (rename_type r) (rename_type_inner r) (λ (type : NamedType). type.inner) (λ type. refl) (value_at whole.types ty)
        ∙ (λ i. option_map (λ (what : TypeInner). sym (inner-same what) i) (ctx.types ty));
    locals = λ handle.
        (λ i. option_map (λ (variable : local.LocalVariable). variable.ty) (none-at local.LocalVariable handle i))
        ∙ sym (λ i. option_map r.types (option_map (λ (variable : local.LocalVariable). variable.ty) (none-at local.LocalVariable handle i)));
    arguments = λ index.
        (λ i. option_map (λ (a : argument.FunctionArgument). a.ty) (none-at argument.FunctionArgument index i))
        ∙ sym (λ i. option_map r.types (option_map (λ (a : argument.FunctionArgument). a.ty) (none-at argument.FunctionArgument index i)));
    ray_intersection = ap (λ (types : special.SpecialTypes). types.ray_intersection) removed.special_types;
    ray_vertex_return = ap (λ (types : special.SpecialTypes). types.ray_vertex_return) removed.special_types;
    predeclared = removes.predeclared-renamed whole new keep_unused kept used removed valid;
  }

  types_kept : TypesAreKept is_kept ctx
  types_kept = record {
    closed = removes.types-closed whole new keep_unused kept used removed valid;
    locals = λ handle. subst (λ (found : Option local.LocalVariable). IfSome (option_map (λ (variable : local.LocalVariable). variable.ty) found) (TypeIsKept is_kept)) (sym (none-at local.LocalVariable handle)) tt;
    arguments = λ index. subst (λ (found : Option argument.FunctionArgument). IfSome (option_map (λ (a : argument.FunctionArgument). a.ty) found) (TypeIsKept is_kept)) (sym (none-at argument.FunctionArgument index)) tt;
    ray_intersection = (removes.fixed-kept whole new keep_unused kept used removed valid).1.0;
    ray_vertex_return = (removes.fixed-kept whole new keep_unused kept used removed valid).1.1.0;
    predeclared = removes.predeclared-kept whole new keep_unused kept used removed valid;
  }

  signature-renamed : RenamesSignature r' is_kept sig sig'
  signature-renamed = record {
    result = refl;
    result_kept = tt;
    ray_desc = ap (λ (types : special.SpecialTypes). types.ray_desc) removed.special_types;
    ray_desc_kept = (removes.fixed-kept whole new keep_unused kept used removed valid).0;
  }

  called-renamed : (handle : ℕ) → contains kept.functions.members handle ≡ true → RenamesCalled r' is_kept sig sig' ctx ctx' handle
  called-renamed handle so = record {
    parameters = parameters-found whole new keep_unused kept used removed valid handle so;
    parameters_kept = parameters-kept whole new keep_unused kept used removed valid handle so;
    result = removes.result-found whole new keep_unused kept used removed valid handle so;
  }

  names-renamed : (limit : ℕ) (e : Expression) → All (KeptBefore limit) (references_of_expression e) → NamesAreRenamed r' ctx ctx' e
  names-renamed limit (expression.Constant handle) all =
      ap (option_map (λ (c : constant.Constant). c.ty)) (removes.constant-found whole new keep_unused kept used removed valid handle (All-head (KeptBefore limit) (reference.Constant handle) [] all))
      ∙ read-mapped (rename_constant r) r.types (λ (c : constant.Constant). c.ty) (λ c. refl) (value_at whole.constants handle)
  names-renamed limit (expression.Override handle) all =
      ap (option_map (λ (o : override.Override). o.ty)) (removes.override-found whole new keep_unused kept used removed valid handle (All-head (KeptBefore limit) (reference.Override handle) [] all))
      ∙ read-mapped (rename_override r) r.types (λ (o : override.Override). o.ty) (λ o. refl) (value_at whole.overrides handle)
  names-renamed limit (expression.GlobalVariable handle) all =
      ap (option_map (λ (g : global.GlobalVariable). (g.space, g.ty))) (removes.variable-found whole new keep_unused kept used removed valid handle (All-head (KeptBefore limit) (reference.GlobalVariable handle) [] all))
      ∙ read-mapped (rename_global_variable r) (rename_global r') (λ (g : global.GlobalVariable). (g.space, g.ty)) (λ g. refl) (value_at whole.global_variables handle)
  names-renamed limit (expression.CallResult handle) all =
      removes.result-found whole new keep_unused kept used removed valid handle (All-head (KeptBefore limit) (reference.Function handle) [] all)
  names-renamed limit e all = tt

  names-kept : (limit : ℕ) (e : Expression) → All (KeptBefore limit) (references_of_expression e) → NamesAreKept is_kept ctx e
  names-kept limit (expression.Constant handle) all = removes.constant-kept whole new keep_unused kept used removed valid handle (All-head (KeptBefore limit) (reference.Constant handle) [] all)
  names-kept limit (expression.Override handle) all = removes.override-kept whole new keep_unused kept used removed valid handle (All-head (KeptBefore limit) (reference.Override handle) [] all)
  names-kept limit (expression.GlobalVariable handle) all = removes.variable-kept whole new keep_unused kept used removed valid handle (All-head (KeptBefore limit) (reference.GlobalVariable handle) [] all)
  names-kept limit (expression.CallResult handle) all = removes.result-kept whole new keep_unused kept used removed valid handle (All-head (KeptBefore limit) (reference.Function handle) [] all)
  names-kept limit (expression.ZeroValue ty) all = All-head (KeptBefore limit) (reference.«Type» ty) [] all
  names-kept limit (expression.Compose ty components) all = All-head (KeptBefore limit) (reference.«Type» ty) (operands components.items) all
  names-kept limit (expression.AtomicResult ty comparison) all = All-head (KeptBefore limit) (reference.«Type» ty) [] all
  names-kept limit (expression.WorkGroupUniformLoadResult ty) all = All-head (KeptBefore limit) (reference.«Type» ty) [] all
  names-kept limit (expression.SubgroupOperationResult ty) all = All-head (KeptBefore limit) (reference.«Type» ty) [] all
  names-kept limit e all = tt

  compacted : IsCompacted r' is_kept stays ctx ctx' (value_at whole.global_expressions) (value_at new.global_expressions)
  compacted = record {
    found = λ handle so.
        value_at-kept references_of_expression (rename_expression r') (rename_reference r') (references_of_expression-renamed r') kept.global_expressions whole.global_expressions new.global_expressions removed.global_expressions handle
        (removes.is_element whole new keep_unused kept used removed valid (reference.GlobalExpression handle) so) so;
    names = λ handle e so found. names-renamed handle e (expression-kept handle so e found);
    names_kept = λ handle e so found. names-kept handle e (expression-kept handle so e found);
    operands = λ handle e so found.
        Depends-operands (λ operand. (operand < handle) × (stays operand ≡ true)) e
        (expressions-in (KeptBefore handle) (λ operand. (operand < handle) × (stays operand ≡ true)) (λ operand so. so) (references_of_expression e) (expression-kept handle so e found));
  }

  -- ---- the types

  abbrev found : List TypeResolution
  found = global_types whole

  is_typing : typing ctx [] (values whole.global_expressions) ≡ (found, None)
  is_typing = λ i. (found, typed.expressions.0 i)

  of_old : AreTypes ctx (value_at whole.global_expressions) (slice_get found)
  of_old = typing-types ctx whole.global_expressions (Precede-global whole valid) found is_typing

  abbrev types : ℕ → Option TypeResolution
  types = types_of ctx' (value_at new.global_expressions) (Precede-global new valid_after)

  are : AreTypes ctx' (value_at new.global_expressions) types
  are = AreTypes-exist ctx' (value_at new.global_expressions) (Precede-global new valid_after)

  has-types : (types' after : ℕ → Option TypeResolution) → AreTypes ctx (value_at whole.global_expressions) types' → AreTypes ctx' (value_at new.global_expressions) after → (handle : ℕ) → stays handle ≡ true → HasRenamed r' is_kept types' after handle
  has-types = IsCompacted-types r' is_kept stays ctx ctx' context-renamed types_kept (value_at whole.global_expressions) (value_at new.global_expressions) compacted

  left : (left : List TypeResolution) × (typing ctx' [] (values new.global_expressions) ≡ (left, None))
  left = typing-all ctx' new.global_expressions (Precede-global new valid_after) types are (λ position less none. elim (slice_get_cases new.global_expressions position).1 [
    | inl present ↦
        let from = origin-of (rename_expression r') kept.global_expressions whole.global_expressions new.global_expressions removed.global_expressions position present.0 present.2 in
        let within : from.0 < length (values whole.global_expressions) = slice_get_within (values whole.global_expressions) from.0 from.1 from.2 in
        typing-some ctx whole.global_expressions (Precede-global whole valid) found is_typing from.0 (omega (arith, within, length-map whole.global_expressions (λ (p : Expression × Span). p.0)))
        (none-mapped (rename_resolution r') (slice_get found from.0) (sym (has-types (slice_get found) types of_old are from.0 from.3).0 ∙ ap types (sym from.5) ∙ none))
    | inr past ↦ absurd (omega (arith, less, past.0))
  ])

  has : (handle : ℕ) → stays handle ≡ true → HasRenamed r' is_kept (slice_get found) (slice_get left.0) handle
  has = has-types (slice_get found) (slice_get left.0) of_old (typing-types ctx' new.global_expressions (Precede-global new valid_after) left.0 left.1)

  -- ---- expressions and initial values

  abbrev Before : Option Requirement → Type 0
  Before = FitsBy ctx sig found

  abbrev After : Option Requirement → Type 0
  After = FitsBy ctx' sig' left.0

  abbrev Named : Reference → Type 0
  Named = NameIsRenamed r' is_kept sig sig' ctx ctx' (slice_get found) (slice_get left.0)

  named : (limit : ℕ) (name : Reference) → KeptBefore limit name → Named name
  named limit (reference.Expression handle) so = has handle so.1
  named limit (reference.Function handle) so = called-renamed handle so
  named limit (reference.«Type» handle) so = so
  named limit name so = tt

  expressions : All (ExpressionFits After) (values new.global_expressions)
  expressions = All-kept (rename_expression r') kept.global_expressions whole.global_expressions new.global_expressions removed.global_expressions (ExpressionFits After)
      (λ at before is so.
      ExpressionFits-renamed r' is_kept ctx ctx' context-renamed types_kept sig sig' signature-renamed (slice_get found) (slice_get left.0) before
      (All-weaker (KeptBefore at) Named (named at) (references_of_expression before) (expression-kept at so before is))
      (All-at (ExpressionFits Before) (values whole.global_expressions) at before typed.expressions.1 is))

  -- the initial value of a declaration that is kept
  initial : (ty : ℕ) (init : Option ℕ) → All Kept (reference.«Type» ty ∷ option_to_list (option_map reference.GlobalExpression init)) → Before (of_type_if (source.Declared ty) init)
      → After (of_type_if (source.Declared (r.types ty)) (option_map r.global_expressions init))
  initial ty None all h = tt
  initial ty (Some init) all h =
      initial-renamed r' is_kept ctx ctx' context-renamed types_kept sig sig' signature-renamed (slice_get found) (slice_get left.0) ty
      (All-head Kept (reference.«Type» ty) (reference.GlobalExpression init ∷ []) all) (Some init)
      (has init (All-head Kept (reference.GlobalExpression init) [] (All-tail Kept (reference.«Type» ty) (reference.GlobalExpression init ∷ []) all))) h

  -- what a declaration that is kept refers to is kept
  declared-kept : {X : Type 0} (references : X → List Reference) (from : Reference) → is_member (kept_handles kept) from ≡ true → (arena : List (X × Span)) (at : ℕ) (before : X) → value_at arena at ≡ Some before
      → references_of_element whole from ≡ references_found references (value_at arena at) → AreWithin (lengths whole) (references_found references (value_at arena at)) → All Kept (references before)
  declared-kept references from so arena at before is same within =
      all-kept (references before)
      (λ name inside. removes.refers whole new keep_unused kept used removed valid from so name
      (subst (λ (names : List Reference). Contains names name) (sym (same ∙ ap (references_found references) is)) inside))
      (subst (AreWithin (lengths whole)) (ap (references_found references) is) within)

  constants : All After (constants_of new)
  constants = All-map After of_constant (values new.constants) (All-kept (rename_constant r) kept.constants whole.constants new.constants removed.constants (λ (c : constant.Constant). After (of_constant c))
      (λ at before is so.
      initial before.ty (Some before.init)
      (declared-kept references_of_constant (reference.Constant at) so whole.constants at before is refl (valid.references (place.Constant at)))
      (All-at Before (constants_of whole) at (of_constant before) typed.constants (slice_get-map of_constant (values whole.constants) at ∙ ap (option_map of_constant) is))))

  overrides : All After (overrides_of new)
  overrides = All-map After of_override (values new.overrides) (All-kept (rename_override r) kept.overrides whole.overrides new.overrides removed.overrides (λ (o : override.Override). After (of_override o))
      (λ at before is so.
      initial before.ty before.init
      (declared-kept references_of_override (reference.Override at) so whole.overrides at before is refl (valid.references (place.Override at)))
      (All-at Before (overrides_of whole) at (of_override before) typed.overrides (slice_get-map of_override (values whole.overrides) at ∙ ap (option_map of_override) is))))

  variables : All After (variables_of new)
  variables = All-map After of_global_variable (values new.global_variables) (All-kept (rename_global_variable r) kept.global_variables whole.global_variables new.global_variables removed.global_variables (λ (g : global.GlobalVariable). After (of_global_variable g))
      (λ at before is so.
      initial before.ty before.init
      (declared-kept references_of_global_variable (reference.GlobalVariable at) so whole.global_variables at before is refl (valid.references (place.GlobalVariable at)))
      (All-at Before (variables_of whole) at (of_global_variable before) typed.variables (slice_get-map of_global_variable (values whole.global_variables) at ∙ ap (option_map of_global_variable) is))))

  -- ---- the whole

  -- that the declarations are typed, by the types of global expressions
  abbrev By : List TypeResolution → Type 0
  By known =
      All (ExpressionFits (FitsBy ctx' sig' known)) (values new.global_expressions)
      × (All (FitsBy ctx' sig' known) (constants_of new) × (All (FitsBy ctx' sig' known) (overrides_of new) × All (FitsBy ctx' sig' known) (variables_of new)))

  there : By (global_types new)
  there = subst By (sym (ap (λ (pair : List TypeResolution × Option ResolveError). pair.0) left.1)) (expressions, (constants, (overrides, variables)))

  pub DeclarationsAreTyped-removed : DeclarationsAreTyped new
  DeclarationsAreTyped-removed = record {
    expressions = (ap (λ (pair : List TypeResolution × Option ResolveError). pair.1) left.1, there.0);
    constants = there.1.0;
    overrides = there.1.1.0;
    variables = there.1.1.1;
  }
