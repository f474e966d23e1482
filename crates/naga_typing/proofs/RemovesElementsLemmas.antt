-- The types of the expressions of a module whose unused elements are removed.
use Rattle.std.proofs.Common.{◌≡◌, ◌∙◌, sym, ap, subst, refl, inl, inr, ℕ, zero, suc, ◌<◌, List, [], ◌∷◌, map, length, Bool, true, false, cond, Option, None, Some, arith}
use Rattle.std.proofs.lemmas.List.Elements.{All-contains_itself, All-head, All-tail, Contains-append_left, Contains-append_right}
use Rattle.std.proofs.lemmas.Option.{none-some, same_Some, slice_get-map, slice_get_cases}
use Rattle.std.specs.FinSet.{contains}
use Rattle.std.specs.List.{All, AllByRecursion, AllZip, Contains, flat_map}
use Rattle.std.specs.Map.{lookup}
use Rattle.std.specs.Option.{option_map}
use Rattle.std.specs.Prelude.{IfSome, option_to_list, slice_get}
use Rattle.naga_arena.specs.Arena.{value_at, values}
use Rattle.naga_kinds.specs.declared.address_space.AddressSpace.{AddressSpace}
use Rattle.naga_kinds.specs.declared.scalar.PredeclaredType.{PredeclaredType}
use Rattle.naga_kinds.specs.contracts.scalar.PredeclaredTypePartialEq.TheImpl as predeclared_eq
use Rattle.naga_ir.specs.declared.expression.Expression.{Expression}
use Rattle.naga_ir.specs.declared.expression.Expression.TheVariants as expression
use Rattle.naga_ir.specs.declared.module.Constant as constant
use Rattle.naga_ir.specs.declared.module.Function as function
use Rattle.naga_ir.specs.declared.module.FunctionArgument as argument
use Rattle.naga_ir.specs.declared.module.FunctionResult as outcome
use Rattle.naga_ir.specs.declared.module.GlobalVariable as global
use Rattle.naga_ir.specs.declared.module.LocalVariable as local
use Rattle.naga_ir.specs.declared.module.Module as the_module
use Rattle.naga_ir.specs.declared.module.Override as override
use Rattle.naga_ir.specs.declared.module.SpecialTypes as special
use Rattle.naga_ir.specs.declared.types.StructMember.{StructMember}
use Rattle.naga_ir.specs.declared.types.«Type».{«Type» as NamedType}
use Rattle.naga_ir.specs.declared.types.TypeInner.{TypeInner}
use Rattle.naga_ir.specs.declared.types.TypeInner.TheVariants as inner
use Rattle.naga_valid.specs.Declarations.{pending_of, references_of_constant, references_of_global_variable, references_of_inner, references_of_local_variable, references_of_override, references_of_type}
use Rattle.naga_valid.specs.Expressions.{references_of_expression}
use Rattle.naga_valid.specs.Limits.{AreWithin, IsWithin}
use Rattle.naga_valid.specs.Places.{lengths, limits_in_part, limits_inside, references_found, references_in_part, references_of_fixed_types, references_of_special_types}
use Rattle.naga_valid.specs.Reference.{operands, present_then}
use Rattle.naga_valid.specs.Valid.{HandlesAreValid}
use Rattle.naga_valid.specs.declared.place.Part.{Part}
use Rattle.naga_valid.specs.declared.place.Part.TheVariants as part
use Rattle.naga_valid.specs.declared.place.Place.TheVariants as place
use Rattle.naga_valid.specs.declared.reference.Reference.{Reference}
use Rattle.naga_valid.specs.declared.reference.Reference.TheVariants as reference
use Rattle.naga_valid.proofs.HandlesAreValidLemmas.{HandlesAreValid-function}
use Rattle.naga_compact.specs.Kept.{kept_elements, new_index}
use Rattle.naga_compact.specs.Module.Compaction.{RemovesElements, kept_handles}
use Rattle.naga_compact.specs.Module.References.{IsElement, references_of_element, references_of_function}
use Rattle.naga_compact.specs.Module.Used.{AreUsed, is_member, required, roots}
use Rattle.naga_compact.specs.Operands.{OperandsPrecede}
use Rattle.naga_compact.specs.Renaming.{Renaming, rename_reference}
use Rattle.naga_compact.specs.Renaming.Declarations.{rename_constant, rename_global_variable, rename_local_variable, rename_override}
use Rattle.naga_compact.specs.Renaming.Functions.{IsRenamedFunction, rename_argument, rename_result}
use Rattle.naga_compact.specs.Renaming.Renumbering.{renaming_of}
use Rattle.naga_compact.specs.Renaming.Types.{rename_value}
use Rattle.naga_compact.specs.derived.Renaming.{rename_expression, rename_type, rename_type_inner}
use Rattle.naga_compact.specs.declared.module.renumbering.ModuleRenumbering.{ModuleRenumbering}
use Rattle.naga_compact.specs.declared.module.roots.KeepUnused.{KeepUnused}
use Rattle.naga_compact.specs.declared.module.roots.KeepUnused.TheVariants.{No, Yes}
use Rattle.naga_compact.proofs.IsUsedLemmas.{AreUsed-refers, AreUsed-root}
use Rattle.naga_compact.proofs.IsWithinRenamedLemmas.{AreUpTo, IsKeptElement, Limits}
use Rattle.naga_compact.proofs.KeptElementsLemmas.{kept_elements-found, value_at-found}
use Rattle.naga_compact.proofs.MappedListLemmas.{items-mapped}
use Rattle.naga_compact.proofs.RemovesElementsLemmas.{value_at-kept}
use Rattle.naga_compact.proofs.RenamedPartsLemmas.{references_of_global_variable-renamed, references_of_override-renamed, references_of_type-renamed}
use Rattle.naga_proc.proofs.AllLemmas.{All-parts}
use Rattle.naga_typifier.specs.Context.{Context, context_in}
use Rattle.naga_typifier.specs.declared.resolution.TypeResolution.{TypeResolution}
use Rattle.naga_typing.specs.Arenas.{IsCompacted}
use Rattle.naga_typing.specs.Functions.{HasTypes}
use Rattle.naga_typing.specs.Renamed.{HasRenamed, MentionsKept, NamesAreKept, NamesAreRenamed, RenamesContext, TypeIsKept, TypesAreKept, rename_global, rename_resolution}
use Rattle.naga_typing.proofs.AreTypesLemmas.{Depends-found}
use Rattle.naga_typing.proofs.ContextLemmas.{read-mapped, result_of, type_of_local, value_at-mapped}
use Rattle.naga_typing.proofs.IsCompactedLemmas.{IsCompacted-types}

-- the space and the type of a global variable
abbrev space_and_type : global.GlobalVariable → AddressSpace × ℕ
space_and_type declared = (declared.space, declared.ty)

-- ---- lists

-- an element of the first list is related to the one of the second list at the same position
pub AllZip-found : {A B : Type 0} (R : A → B → Type 0) (xs : List A) (ys : List B) → AllZip R xs ys → (k : ℕ) (x : A) → slice_get xs k ≡ Some x → (y : B) × (slice_get ys k ≡ Some y) × R x y
AllZip-found R [] ys all zero x found = absurd (none-some x found)
AllZip-found R [] ys all (suc k) x found = absurd (none-some x found)
AllZip-found R (z ∷ xs) [] all k x found = absurd all
AllZip-found R (z ∷ xs) (y ∷ ys) all zero x found = (y, refl, subst (λ w. R w y) (same_Some z x found) all.0)
AllZip-found R (z ∷ xs) (y ∷ ys) all (suc k) x found = AllZip-found R xs ys all.1 k x found

pub Contains-found : {X : Type 0} (references : X → List Reference) (xs : List X) (i : ℕ) (n : Reference) → Contains (references_found references (slice_get xs i)) n → Contains (flat_map references xs) n
Contains-found references [] zero n inside = inside
Contains-found references [] (suc i) n inside = inside
Contains-found references (x ∷ xs) zero n inside = Contains-append_left (references x) (flat_map references xs) n inside
Contains-found references (x ∷ xs) (suc i) n inside = Contains-append_right (references x) (flat_map references xs) n (Contains-found references xs i n inside)

lookup-renamed : {K : Type 0} (r : Renaming) (test : K → Bool) (entries : List (K × ℕ)) → lookup test (map (rename_value r) entries) ≡ option_map r.types (lookup test entries)
lookup-renamed r test [] = refl
lookup-renamed r test (entry ∷ entries) = go (lookup-renamed r test entries) (test entry.0)
  where
    go : lookup test (map (rename_value r) entries) ≡ option_map r.types (lookup test entries) → (t : Bool) → cond t (Some (r.types entry.1)) (lookup test (map (rename_value r) entries)) ≡ option_map r.types (cond t (Some entry.1) (lookup test entries))
    go rest true = refl
    go rest false = rest

module _ (whole new : the_module.Module) (keep_unused : KeepUnused) (kept : ModuleRenumbering) (used : AreUsed whole keep_unused (kept_handles kept)) (removed : RemovesElements kept whole new) (valid : HandlesAreValid whole) where
  abbrev pub r : Renaming
  r = renaming_of kept

  abbrev pub is_kept : ℕ → Bool
  is_kept = contains kept.types.members

  pub is_element : (name : Reference) → is_member (kept_handles kept) name ≡ true → IsElement whole name
  is_element name so = ((used.members name).0 so).0

  -- ---- elements at their new handles

  pub type-found : (handle : ℕ) → is_kept handle ≡ true → value_at new.types (r.types handle) ≡ option_map (rename_type r) (value_at whole.types handle)
  type-found handle so =
      value_at-kept references_of_type (rename_type r) (rename_reference r) (references_of_type-renamed r) kept.types whole.types new.types removed.types handle (is_element (reference.«Type» handle) so) so

  pub constant-found : (handle : ℕ) → contains kept.constants.members handle ≡ true → value_at new.constants (r.constants handle) ≡ option_map (rename_constant r) (value_at whole.constants handle)
  constant-found handle so =
      value_at-kept references_of_constant (rename_constant r) (rename_reference r) (λ x. refl) kept.constants whole.constants new.constants removed.constants handle (is_element (reference.Constant handle) so) so

  pub override-found : (handle : ℕ) → contains kept.overrides.members handle ≡ true → value_at new.overrides (r.overrides handle) ≡ option_map (rename_override r) (value_at whole.overrides handle)
  override-found handle so =
      value_at-kept references_of_override (rename_override r) (rename_reference r) (references_of_override-renamed r) kept.overrides whole.overrides new.overrides removed.overrides handle (is_element (reference.Override handle) so) so

  pub variable-found : (handle : ℕ) → contains kept.global_variables.members handle ≡ true → value_at new.global_variables (r.global_variables handle) ≡ option_map (rename_global_variable r) (value_at whole.global_variables handle)
  variable-found handle so =
      value_at-kept references_of_global_variable (rename_global_variable r) (rename_reference r) (references_of_global_variable-renamed r) kept.global_variables whole.global_variables new.global_variables removed.global_variables handle (is_element (reference.GlobalVariable handle) so) so

  result-renamed : (before after : function.Function) → IsRenamedFunction r before after → result_of (Some after) ≡ option_map (option_map r.types) (result_of (Some before))
  result-renamed before after is =
      ap (λ (declared : function.Function). result_of (Some declared)) is.outside
      ∙ ap Some (read-mapped (rename_result r) r.types (λ (result : outcome.FunctionResult). result.ty) (λ result. refl) before.result)

  pub result-found : (handle : ℕ) → contains kept.functions.members handle ≡ true → result_of (value_at new.functions (r.functions handle)) ≡ option_map (option_map r.types) (result_of (value_at whole.functions handle))
  result-found handle so = elim (slice_get_cases whole.functions handle).1 [
    | inl present ↦
        let after = AllZip-found _ (kept_elements kept.functions whole.functions) new.functions removed.functions (new_index kept.functions handle) present.0 (kept_elements-found kept.functions whole.functions handle present.0 present.2 so) in
        ap result_of (value_at-found new.functions (new_index kept.functions handle) (Some after.0) after.1)
        ∙ result-renamed present.0.0 after.0.0 after.2.0
        ∙ sym (ap (λ found. option_map (option_map r.types) (result_of found)) (value_at-found whole.functions handle (Some present.0) present.2))
    | inr past ↦ let present : handle < length whole.functions = is_element (reference.Function handle) so in absurd (omega (arith, present, past.0))
  ]

  -- ---- what is kept

  -- The element is kept. Global expressions, whose types are not examined, and what is no element of the module are left
  -- out.
  abbrev pub Stays : Reference → Type 0
  Stays (reference.«Type» handle) = contains kept.types.members handle ≡ true
  Stays (reference.Constant handle) = contains kept.constants.members handle ≡ true
  Stays (reference.Override handle) = contains kept.overrides.members handle ≡ true
  Stays (reference.GlobalVariable handle) = contains kept.global_variables.members handle ≡ true
  Stays (reference.Function handle) = contains kept.functions.members handle ≡ true
  Stays name = Unit {0}

  abbrev AreClosed : List Reference → Type 0
  AreClosed names = (name : Reference) → Contains names name → IsKeptElement whole kept name

  stays : (limits : Limits) → AreUpTo whole limits → (name : Reference) → IsKeptElement whole kept name → IsWithin limits name → Stays name
  stays limits up_to (reference.«Type» handle) so within = so (omega (arith, up_to.0, within))
  stays limits up_to (reference.Constant handle) so within = so (omega (arith, up_to.1, within))
  stays limits up_to (reference.Override handle) so within = so (omega (arith, up_to.2, within))
  stays limits up_to (reference.GlobalVariable handle) so within = so (omega (arith, up_to.3, within))
  stays limits up_to (reference.Function handle) so within = so (omega (arith, up_to.5, within))
  stays limits up_to name so within = tt

  pub all_stay : (limits : Limits) → AreUpTo whole limits → (names : List Reference) → AreClosed names → AreWithin limits names → All Stays names
  all_stay limits up_to names so within = λ k d inside. stays limits up_to _ (so _ (All-contains_itself names k d inside)) (within k d inside)

  pub up_to_all : AreUpTo whole (lengths whole)
  up_to_all = (omega arith, omega arith, omega arith, omega arith, omega arith, omega arith)

  pub refers : (from : Reference) → is_member (kept_handles kept) from ≡ true → AreClosed (references_of_element whole from)
  refers from so name inside present = AreUsed-refers whole keep_unused (kept_handles kept) from name used so inside present

  pub root : (name : Reference) → Contains (required whole) name → IsKeptElement whole kept name
  root name inside present = AreUsed-root whole keep_unused (kept_handles kept) name used (is_root keep_unused) present
    where
      is_root : (keep : KeepUnused) → Contains (roots whole keep) name
      is_root No = inside
      is_root Yes = Contains-append_left (required whole) _ name inside

  -- ---- types

  members-kept : (members : List StructMember) → All Stays (map (λ (member : StructMember). reference.«Type» member.ty) members) → AllByRecursion (λ (member : StructMember). TypeIsKept is_kept member.ty) members
  members-kept [] all = tt
  members-kept (member ∷ members) all =
      let rest : List Reference = map (λ (m : StructMember). reference.«Type» m.ty) members in
      (All-head Stays (reference.«Type» member.ty) rest all, members-kept members (All-tail Stays (reference.«Type» member.ty) rest all))

  mentions-kept : (contents : TypeInner) → All Stays (references_of_inner contents) → MentionsKept is_kept contents
  mentions-kept (inner.Pointer base space) all = All-head Stays (reference.«Type» base) [] all
  mentions-kept (inner.Array base size stride) all = All-head Stays (reference.«Type» base) (option_to_list (option_map reference.Override (pending_of size))) all
  mentions-kept (inner.BindingArray base size) all = All-head Stays (reference.«Type» base) (option_to_list (option_map reference.Override (pending_of size))) all
  mentions-kept (inner.Struct members span) all = members-kept members.items all
  mentions-kept contents all = tt

  -- what follows for a value from what it contains
  if_found : {X : Type 0} (references : X → List Reference) (P : X → Type 0) → ((x : X) → All Stays (references x) → P x) → (found : Option X) → All Stays (references_found references found) → IfSome found P
  if_found references P follows None all = tt
  if_found references P follows (Some x) all = follows x all

  if_read : {X Y : Type 0} (read : X → Y) (P : Y → Type 0) (found : Option X) → IfSome found (λ x. P (read x)) → IfSome (option_map read found) P
  if_read read P None so = so
  if_read read P (Some x) so = so

  pub types-closed : (ty : ℕ) → is_kept ty ≡ true → IfSome (option_map (λ (type : NamedType). type.inner) (value_at whole.types ty)) (MentionsKept is_kept)
  types-closed ty so =
      let present : ty < length whole.types = is_element (reference.«Type» ty) so in
      if_read (λ (type : NamedType). type.inner) (MentionsKept is_kept) (value_at whole.types ty)
      (if_found references_of_type (λ type. MentionsKept is_kept type.inner) (λ type all. mentions-kept type.inner all) (value_at whole.types ty)
      (all_stay (record (lengths whole) { types = ty }) (omega (arith, present), omega arith, omega arith, omega arith, omega arith, omega arith)
      (references_of_element whole (reference.«Type» ty)) (refers (reference.«Type» ty) so) (valid.references (place.«Type» ty))))

  -- ---- what has a type

  pub constant-kept : (handle : ℕ) → contains kept.constants.members handle ≡ true → IfSome (option_map (λ (declared : constant.Constant). declared.ty) (value_at whole.constants handle)) (TypeIsKept is_kept)
  constant-kept handle so =
      if_read (λ (declared : constant.Constant). declared.ty) (TypeIsKept is_kept) (value_at whole.constants handle)
      (if_found references_of_constant (λ declared. TypeIsKept is_kept declared.ty)
      (λ declared all. All-head Stays (reference.«Type» declared.ty) (reference.GlobalExpression declared.init ∷ []) all) (value_at whole.constants handle)
      (all_stay (lengths whole) up_to_all (references_of_element whole (reference.Constant handle)) (refers (reference.Constant handle) so) (valid.references (place.Constant handle))))

  pub override-kept : (handle : ℕ) → contains kept.overrides.members handle ≡ true → IfSome (option_map (λ (declared : override.Override). declared.ty) (value_at whole.overrides handle)) (TypeIsKept is_kept)
  override-kept handle so =
      if_read (λ (declared : override.Override). declared.ty) (TypeIsKept is_kept) (value_at whole.overrides handle)
      (if_found references_of_override (λ declared. TypeIsKept is_kept declared.ty)
      (λ declared all. All-head Stays (reference.«Type» declared.ty) (option_to_list (option_map reference.GlobalExpression declared.init)) all) (value_at whole.overrides handle)
      (all_stay (lengths whole) up_to_all (references_of_element whole (reference.Override handle)) (refers (reference.Override handle) so) (valid.references (place.Override handle))))

  pub variable-kept : (handle : ℕ) → contains kept.global_variables.members handle ≡ true → IfSome (option_map space_and_type (value_at whole.global_variables handle)) (λ (found : AddressSpace × ℕ). TypeIsKept is_kept found.1)
  variable-kept handle so =
      if_read space_and_type (λ (found : AddressSpace × ℕ). TypeIsKept is_kept found.1) (value_at whole.global_variables handle)
      (if_found references_of_global_variable (λ declared. TypeIsKept is_kept declared.ty)
      (λ declared all. All-head Stays (reference.«Type» declared.ty) (option_to_list (option_map reference.GlobalExpression declared.init)) all) (value_at whole.global_variables handle)
      (all_stay (lengths whole) up_to_all (references_of_element whole (reference.GlobalVariable handle)) (refers (reference.GlobalVariable handle) so) (valid.references (place.GlobalVariable handle))))

  pub outcome-kept : (result : Option outcome.FunctionResult) → All Stays (option_to_list (option_map (λ (result : outcome.FunctionResult). reference.«Type» result.ty) result)) → IfSome (option_map (λ (result : outcome.FunctionResult). result.ty) result) (TypeIsKept is_kept)
  outcome-kept None all = tt
  outcome-kept (Some result) all = All-head Stays (reference.«Type» result.ty) [] all

  pub result-kept : (handle : ℕ) → contains kept.functions.members handle ≡ true → IfSome (result_of (value_at whole.functions handle)) (λ result. IfSome result (TypeIsKept is_kept))
  result-kept handle so = go (value_at whole.functions handle) refl
    where
      go : (found : Option function.Function) → value_at whole.functions handle ≡ found → IfSome (result_of found) (λ result. IfSome result (TypeIsKept is_kept))
      go None is = tt
      go (Some called) is =
          let present : handle < length whole.functions = is_element (reference.Function handle) so in
          let arguments : List Reference = references_in_part called part.Arguments in
          outcome-kept called.result
          (all_stay (limits_inside (record (lengths whole) { functions = handle }) called) (omega arith, omega arith, omega arith, omega arith, omega arith, omega (arith, present))
          (references_in_part called part.Result)
          (λ name inside. refers (reference.Function handle) so name
          (subst (λ v. Contains (references_found references_of_function v) name) (sym is)
          (Contains-append_right arguments _ name (Contains-append_left (references_in_part called part.Result) _ name inside))))
          (HandlesAreValid-function whole valid handle called is part.Result))

  -- ---- special types

  special-stay : All Stays (references_of_special_types whole.special_types)
  special-stay =
      all_stay (lengths whole) up_to_all (references_of_special_types whole.special_types)
      (λ name inside. root name (Contains-append_left (references_of_special_types whole.special_types) _ name inside)) (valid.references place.SpecialTypes)

  special_parts : All Stays (references_of_fixed_types whole.special_types) × All Stays (map reference.«Type» (map (λ e. e.1) whole.special_types.predeclared_types.entries))
  special_parts = All-parts Stays (references_of_fixed_types whole.special_types) (map reference.«Type» (map (λ e. e.1) whole.special_types.predeclared_types.entries)) special-stay

  present-kept : (types : List (Option ℕ)) → All Stays (present_then (map (option_map reference.«Type») types) []) → AllByRecursion (λ ty. IfSome ty (TypeIsKept is_kept)) types
  present-kept [] all = tt
  present-kept (None ∷ types) all = (tt, present-kept types all)
  present-kept (Some ty ∷ types) all =
      let rest : List Reference = present_then (map (option_map reference.«Type») types) [] in
      (All-head Stays (reference.«Type» ty) rest all, present-kept types (All-tail Stays (reference.«Type» ty) rest all))

  pub fixed-kept : AllByRecursion (λ ty. IfSome ty (TypeIsKept is_kept)) (whole.special_types.ray_desc ∷ whole.special_types.ray_intersection ∷ whole.special_types.ray_vertex_return ∷ whole.special_types.external_texture_params ∷ whole.special_types.external_texture_transfer_function ∷ [])
  fixed-kept =
      let types : special.SpecialTypes = whole.special_types in
      present-kept (types.ray_desc ∷ types.ray_intersection ∷ types.ray_vertex_return ∷ types.external_texture_params ∷ types.external_texture_transfer_function ∷ []) special_parts.0

  lookup-kept : {K : Type 0} (test : K → Bool) (entries : List (K × ℕ)) → All Stays (map reference.«Type» (map (λ (e : K × ℕ). e.1) entries)) → IfSome (lookup test entries) (TypeIsKept is_kept)
  lookup-kept {K} test [] all = tt
  lookup-kept {K} test (entry ∷ entries) all =
      go (lookup-kept test entries (All-tail Stays (reference.«Type» entry.1) (map reference.«Type» (map (λ (e : K × ℕ). e.1) entries)) all)) (test entry.0)
    where
      go : IfSome (lookup test entries) (TypeIsKept is_kept) → (t : Bool) → IfSome (cond t (Some entry.1) (lookup test entries)) (TypeIsKept is_kept)
      go rest true = All-head Stays (reference.«Type» entry.1) (map reference.«Type» (map (λ (e : K × ℕ). e.1) entries)) all
      go rest false = rest

  pub predeclared-kept : (key : PredeclaredType) → IfSome (lookup (predeclared_eq.ghosts.eq key) whole.special_types.predeclared_types.entries) (TypeIsKept is_kept)
  predeclared-kept key = lookup-kept (predeclared_eq.ghosts.eq key) whole.special_types.predeclared_types.entries special_parts.1

  pub predeclared-renamed : (key : PredeclaredType) → lookup (predeclared_eq.ghosts.eq key) new.special_types.predeclared_types.entries ≡ option_map r.types (lookup (predeclared_eq.ghosts.eq key) whole.special_types.predeclared_types.entries)
  predeclared-renamed key =
      ap (λ (types : special.SpecialTypes). lookup (predeclared_eq.ghosts.eq key) types.predeclared_types.entries) removed.special_types
      ∙ lookup-renamed r (predeclared_eq.ghosts.eq key) whole.special_types.predeclared_types.entries

  -- ---- a function

  module _ (declared now : function.Function) (is : IsRenamedFunction r declared now) (closed : AreClosed (references_of_function declared)) (limits : Limits) (up_to : AreUpTo whole limits)
      (within : (inner : Part) → AreWithin (limits_in_part (limits_inside limits declared) inner) (references_in_part declared inner)) where
    abbrev ctx : Context
    ctx = context_in whole declared

    abbrev ctx' : Context
    ctx' = context_in new now

    abbrev arguments : List Reference
    arguments = references_in_part declared part.Arguments

    abbrev returned : List Reference
    returned = references_in_part declared part.Result

    abbrev variables : List Reference
    variables = flat_map references_of_local_variable (values declared.local_variables)

    abbrev expressions : List Reference
    expressions = flat_map references_of_expression (values declared.expressions)

    arguments-stay : All Stays arguments
    arguments-stay =
        all_stay (limits_inside limits declared) up_to arguments (λ name inside. closed name (Contains-append_left arguments _ name inside)) (within part.Arguments)

    pub variable-stays : (handle : ℕ) → All Stays (references_in_part declared (part.LocalVariable handle))
    variable-stays handle =
        all_stay (limits_inside limits declared) up_to (references_in_part declared (part.LocalVariable handle))
        (λ name inside. closed name (Contains-append_right arguments _ name (Contains-append_right returned _ name (Contains-append_left variables _ name (Contains-found references_of_local_variable (values declared.local_variables) handle name inside)))))
        (within (part.LocalVariable handle))

    expression-stays : (handle : ℕ) → All Stays (references_in_part declared (part.Expression handle))
    expression-stays handle =
        all_stay (limits_in_part (limits_inside limits declared) (part.Expression handle)) up_to (references_in_part declared (part.Expression handle))
        (λ name inside. closed name (Contains-append_right arguments _ name (Contains-append_right returned _ name (Contains-append_right variables _ name (Contains-append_left expressions _ name (Contains-found references_of_expression (values declared.expressions) handle name inside))))))
        (within (part.Expression handle))

    argument-kept : (list : List argument.FunctionArgument) (index : ℕ) → All Stays (map (λ (a : argument.FunctionArgument). reference.«Type» a.ty) list) → IfSome (option_map (λ (a : argument.FunctionArgument). a.ty) (slice_get list index)) (TypeIsKept is_kept)
    argument-kept [] index all = tt
    argument-kept (a ∷ list) zero all = All-head Stays (reference.«Type» a.ty) (map (λ (b : argument.FunctionArgument). reference.«Type» b.ty) list) all
    argument-kept (a ∷ list) (suc index) all = argument-kept list index (All-tail Stays (reference.«Type» a.ty) (map (λ (b : argument.FunctionArgument). reference.«Type» b.ty) list) all)

    pub TypesAreKept-removed : TypesAreKept is_kept ctx
    TypesAreKept-removed = record {
      closed = types-closed;
      locals = λ handle.
          if_read (λ (variable : local.LocalVariable). variable.ty) (TypeIsKept is_kept) (value_at declared.local_variables handle)
          (if_found references_of_local_variable (λ variable. TypeIsKept is_kept variable.ty)
          (λ variable all. All-head Stays (reference.«Type» variable.ty) (option_to_list (option_map reference.Expression variable.init)) all) (value_at declared.local_variables handle) (variable-stays handle));
      arguments = λ index. argument-kept declared.arguments.items index arguments-stay;
      ray_intersection = fixed-kept.1.0;
      ray_vertex_return = fixed-kept.1.1.0;
      predeclared = predeclared-kept;
    }

    pub RenamesContext-removed : RenamesContext r is_kept ctx ctx'
    RenamesContext-removed = record {
      types = λ ty so.
          ap (option_map (λ (type : NamedType). type.inner)) (type-found ty so)
          ∙ read-mapped (rename_type r) (rename_type_inner r) (λ (type : NamedType). type.inner) (λ type. refl) (value_at whole.types ty);
      locals = λ handle.
          ap (λ (inside : function.Function). type_of_local (value_at inside.local_variables handle)) is.outside
          ∙ ap type_of_local (value_at-mapped (rename_local_variable r) declared.local_variables handle)
          ∙ read-mapped (rename_local_variable r) r.types (λ (variable : local.LocalVariable). variable.ty) (λ variable. refl) (value_at declared.local_variables handle);
      arguments = λ index.
          ap (λ (inside : function.Function). option_map (λ (a : argument.FunctionArgument). a.ty) (slice_get inside.arguments.items index)) is.outside
          ∙ ap (λ (items : List argument.FunctionArgument). option_map (λ (a : argument.FunctionArgument). a.ty) (slice_get items index)) (items-mapped (rename_argument r) declared.arguments)
          ∙ ap (option_map (λ (a : argument.FunctionArgument). a.ty)) (slice_get-map (rename_argument r) declared.arguments.items index)
          ∙ read-mapped (rename_argument r) r.types (λ (a : argument.FunctionArgument). a.ty) (λ a. refl) (slice_get declared.arguments.items index);
      ray_intersection = ap (λ (types : special.SpecialTypes). types.ray_intersection) removed.special_types;
      ray_vertex_return = ap (λ (types : special.SpecialTypes). types.ray_vertex_return) removed.special_types;
      predeclared = predeclared-renamed;
    }

    names-renamed : (e : Expression) → All Stays (references_of_expression e) → NamesAreRenamed r ctx ctx' e
    names-renamed (expression.Constant handle) all =
        ap (option_map (λ (c : constant.Constant). c.ty)) (constant-found handle (All-head Stays (reference.Constant handle) [] all))
        ∙ read-mapped (rename_constant r) r.types (λ (c : constant.Constant). c.ty) (λ c. refl) (value_at whole.constants handle)
    names-renamed (expression.Override handle) all =
        ap (option_map (λ (o : override.Override). o.ty)) (override-found handle (All-head Stays (reference.Override handle) [] all))
        ∙ read-mapped (rename_override r) r.types (λ (o : override.Override). o.ty) (λ o. refl) (value_at whole.overrides handle)
    names-renamed (expression.GlobalVariable handle) all =
        ap (option_map space_and_type) (variable-found handle (All-head Stays (reference.GlobalVariable handle) [] all))
        ∙ read-mapped (rename_global_variable r) (rename_global r) space_and_type (λ g. refl) (value_at whole.global_variables handle)
    names-renamed (expression.CallResult handle) all = result-found handle (All-head Stays (reference.Function handle) [] all)
    names-renamed e all = tt

    names-kept : (e : Expression) → All Stays (references_of_expression e) → NamesAreKept is_kept ctx e
    names-kept (expression.Constant handle) all = constant-kept handle (All-head Stays (reference.Constant handle) [] all)
    names-kept (expression.Override handle) all = override-kept handle (All-head Stays (reference.Override handle) [] all)
    names-kept (expression.GlobalVariable handle) all = variable-kept handle (All-head Stays (reference.GlobalVariable handle) [] all)
    names-kept (expression.CallResult handle) all = result-kept handle (All-head Stays (reference.Function handle) [] all)
    names-kept (expression.ZeroValue ty) all = All-head Stays (reference.«Type» ty) [] all
    names-kept (expression.Compose ty components) all = All-head Stays (reference.«Type» ty) (operands components.items) all
    names-kept (expression.AtomicResult ty comparison) all = All-head Stays (reference.«Type» ty) [] all
    names-kept (expression.WorkGroupUniformLoadResult ty) all = All-head Stays (reference.«Type» ty) [] all
    names-kept (expression.SubgroupOperationResult ty) all = All-head Stays (reference.«Type» ty) [] all
    names-kept e all = tt

    pub found-stays : (handle : ℕ) (e : Expression) → value_at declared.expressions handle ≡ Some e → All Stays (references_of_expression e)
    found-stays handle e found = subst (λ v. All Stays (references_found references_of_expression v)) found (expression-stays handle)

    IsCompacted-removed : OperandsPrecede declared.expressions → IsCompacted r is_kept (λ handle. true) ctx ctx' (value_at declared.expressions) (value_at now.expressions)
    IsCompacted-removed precede = record {
      found = λ handle stay.
          ap (λ (inside : function.Function). value_at inside.expressions handle) is.outside ∙ value_at-mapped (rename_expression r) declared.expressions handle;
      names = λ handle e stay found. names-renamed e (found-stays handle e found);
      names_kept = λ handle e stay found. names-kept e (found-stays handle e found);
      operands = λ handle e stay found.
          Depends-found (λ operand. (operand < handle) × (true ≡ true)) declared.expressions precede handle e found (λ operand inside before. (before, refl));
    }

    pub returned-stays : All Stays returned
    returned-stays =
        all_stay (limits_inside limits declared) up_to returned
        (λ name inside. closed name (Contains-append_right arguments _ name (Contains-append_left returned _ name inside))) (within part.Result)

    pub body-stays : All Stays (references_in_part declared part.Body)
    body-stays =
        all_stay (limits_inside limits declared) up_to (references_in_part declared part.Body)
        (λ name inside. closed name (Contains-append_right arguments _ name (Contains-append_right returned _ name (Contains-append_right variables _ name (Contains-append_right expressions _ name inside)))))
        (within part.Body)

    -- each expression has its type, renamed, and that type is kept
    pub RemovesElements-has : OperandsPrecede declared.expressions → (types after : ℕ → Option TypeResolution) → HasTypes whole declared types → HasTypes new now after →
        (handle : ℕ) → HasRenamed r is_kept types after handle
    RemovesElements-has precede types after of_old of_new handle =
        IsCompacted-types r is_kept (λ handle. true) ctx ctx' RenamesContext-removed TypesAreKept-removed (value_at declared.expressions) (value_at now.expressions)
        (IsCompacted-removed precede) types after of_old of_new handle refl

    pub RemovesElements-types : OperandsPrecede declared.expressions → (types after : ℕ → Option TypeResolution) → HasTypes whole declared types → HasTypes new now after →
        (handle : ℕ) → after handle ≡ option_map (rename_resolution r) (types handle)
    RemovesElements-types precede types after of_old of_new handle = (RemovesElements-has precede types after of_old of_new handle).0
