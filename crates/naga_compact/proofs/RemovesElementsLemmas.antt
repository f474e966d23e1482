-- A module without its unused elements: its handles are valid if they were before.
use Rattle.std.proofs.Common.{◌≡◌, ◌∙◌, sym, ap, subst, refl, inl, inr, ℕ, zero, suc, ◌<◌, ◌≤◌, List, [], ◌∷◌, ◌++◌, map, length, Bool, true, Option, Some, None, arith}
use Rattle.std.proofs.lemmas.Bool.{cases_Bool}
use Rattle.std.proofs.lemmas.List.{length-map}
use Rattle.std.proofs.lemmas.List.Elements.{All-cons, All-contains, All-head, All-map, All-nil, All-tail, Contains-append_left, Contains-append_right}
use Rattle.std.proofs.lemmas.Option.{none-some, same_Some, slice_get-map, slice_get_cases, slice_get_within}
use Rattle.std.proofs.lemmas.Slice.Zip.{AllZip-long}
use Rattle.std.specs.FinSet.{contains}
use Rattle.std.specs.List.{All, AllZip, Contains, flat_map}
use Rattle.std.specs.Map.{keys_of}
use Rattle.std.specs.Option.{option_map}
use Rattle.std.specs.Prelude.{option_to_list, slice_get}
use Rattle.indexmap.specs.IndexMap.{keys}
use Rattle.naga_arena.specs.Arena.{value_at, values}
use Rattle.naga_arena.specs.declared.span.Span.{Span}
use Rattle.naga_ir.specs.declared.expression.Expression.{Expression}
use Rattle.naga_ir.specs.declared.module.DocComments.{DocComments}
use Rattle.naga_ir.specs.declared.module.EntryPoint as entry_point
use Rattle.naga_ir.specs.declared.module.Function as function
use Rattle.naga_ir.specs.declared.module.Module as the_module
use Rattle.naga_sets.specs.HandleSet.{BoundedSet}
use Rattle.naga_valid.specs.Declarations.{references_of_constant, references_of_filter, references_of_global_variable, references_of_leaf, references_of_local_variable, references_of_override, references_of_type}
use Rattle.naga_valid.specs.Expressions.{references_of_expression}
use Rattle.naga_valid.specs.Limits.{AreWithin, IsWithin}
use Rattle.naga_valid.specs.Reference.{operands}
use Rattle.naga_valid.specs.Places.{lengths, limits_at, limits_found, limits_in_part, limits_inside, references_found, references_in, references_in_part, references_of_entry_point, references_of_special_types}
use Rattle.naga_valid.specs.Valid.{HandlesAreValid, IsAfterInit, IsConstant, ReferencesAreWithin}
use Rattle.naga_valid.specs.declared.reference.Reference.{Reference}
use Rattle.naga_valid.specs.declared.reference.Reference.TheVariants as reference
use Rattle.naga_valid.specs.declared.place.Part.{Part}
use Rattle.naga_valid.specs.declared.place.Part.TheVariants as part
use Rattle.naga_valid.specs.declared.place.Place.TheVariants.{«Type», SpecialTypes, Constant, Override, GlobalVariable, GlobalExpression, Function, EntryPoint, EntryPointFunction, DiagnosticFilter, DiagnosticFilterLeaf, TypeComments, MemberComments, FunctionComments, ConstantComments, GlobalVariableComments}
use Rattle.naga_compact.specs.Functions.{rename_keys}
use Rattle.naga_compact.specs.Kept.{kept_elements, new_index}
use Rattle.naga_compact.specs.Module.Compaction.{RemovesElements, RenamesComments, kept_handles}
use Rattle.naga_compact.specs.Module.References.{IsElement, as_global, references_of_element, references_of_function, references_of_whole_entry_point}
use Rattle.naga_compact.specs.Module.Used.{AreUsed, elements_where, is_member, is_named_concrete, required, roots}
use Rattle.naga_compact.specs.Renaming.{Renaming, in_global, rename_reference}
use Rattle.naga_compact.specs.Renaming.Declarations.{rename_constant, rename_global_variable, rename_local_variable, rename_override}
use Rattle.naga_compact.specs.derived.Renaming.{rename_expression, rename_type}
use Rattle.naga_compact.specs.Renaming.Functions.{IsRenamedEntryPoint, IsRenamedFunction, map_value, map_values}
use Rattle.naga_compact.specs.Renaming.Renumbering.{renaming_of}
use Rattle.naga_compact.specs.declared.module.renumbering.ModuleRenumbering.{ModuleRenumbering}
use Rattle.naga_compact.specs.declared.module.roots.KeepUnused.{KeepUnused}
use Rattle.naga_compact.specs.declared.module.roots.KeepUnused.TheVariants.{No, Yes}
use Rattle.naga_compact.proofs.IsUsedLemmas.{AreUsed-refers, AreUsed-root}
use Rattle.naga_compact.proofs.IsWithinRenamedLemmas.{Limits, AreUpTo, AreWithin-renamed, AreWithin-renamed_operands, IsKeptElement, IsWithin-renamed, rename_global_limits, rename_limits, rename_operand}
use Rattle.naga_valid.proofs.ContainsLemmas.{Contains-map}
use Rattle.naga_compact.proofs.KeptElementsLemmas.{IsOrigin, IsOrigin-of, kept_elements-found, length-kept_elements, value_at-found}
use Rattle.naga_compact.proofs.RenamedPartsLemmas.{leaf-kept, references_in_part-renamed, references_of_entry_point-renamed, references_of_global_variable-renamed, references_of_override-renamed, references_of_special_types-renamed, references_of_type-renamed}
use Rattle.naga_compact.proofs.derived_lemmas.RenamedVariantsLemmas.{references_of_expression-renamed}

-- ---- what a list of values contains

Contains-flat_map_at : {X : Type 0} (references : X → List Reference) (xs : List X) (i : ℕ) (n : Reference) → Contains (references_found references (slice_get xs i)) n → Contains (flat_map references xs) n
Contains-flat_map_at references [] zero n inside = inside
Contains-flat_map_at references [] (suc i) n inside = inside
Contains-flat_map_at references (x ∷ xs) zero n inside = Contains-append_left (references x) (flat_map references xs) n inside
Contains-flat_map_at references (x ∷ xs) (suc i) n inside =
    Contains-append_right (references x) (flat_map references xs) n (Contains-flat_map_at references xs i n inside)

-- an element of the second list is related to the one of the first list at the same position
related : {A B : Type 0} (R : A → B → Type 0) (xs : List A) (ys : List B) → AllZip R xs ys → (k : ℕ) (y : B) → slice_get ys k ≡ Some y → (x : A) × (slice_get xs k ≡ Some x) × R x y
related R [] [] all zero y found = absurd (none-some y found)
related R [] [] all (suc k) y found = absurd (none-some y found)
related R [] (z ∷ ys) all k y found = absurd all
related R (x ∷ xs) [] all k y found = absurd all
related R (x ∷ xs) (z ∷ ys) all zero y found = (x, refl, subst (R x) (same_Some z y found) all.0)
related R (x ∷ xs) (z ∷ ys) all (suc k) y found = related R xs ys all.1 k y found

-- ---- elements that are left of an arena

module _ {X : Type 0} (references : X → List Reference) (f : X → X) (g : Reference → Reference) (renamed : (x : X) → references (f x) ≡ map g (references x)) (kept : BoundedSet) (old new : List (X × Span)) (is : new ≡ map_values f (kept_elements kept old)) where
  pub value_at-left : (handle : ℕ) (found : Option (X × Span)) → slice_get (kept_elements kept old) handle ≡ found → value_at new handle ≡ option_map (λ entry. f entry.0) found
  value_at-left handle None missing =
      ap (λ arena. value_at arena handle) is
      ∙ value_at-found (map_values f (kept_elements kept old)) handle None
      (slice_get-map (map_value f) (kept_elements kept old) handle ∙ ap (option_map (map_value f)) missing)
  value_at-left handle (Some entry) found =
      ap (λ arena. value_at arena handle) is
      ∙ value_at-found (map_values f (kept_elements kept old)) handle (Some (map_value f entry))
      (slice_get-map (map_value f) (kept_elements kept old) handle ∙ ap (option_map (map_value f)) found)

  -- an element that is kept has its new handle
  pub value_at-kept : (at : ℕ) → at < length old → contains kept.members at ≡ true → value_at new (new_index kept at) ≡ option_map f (value_at old at)
  value_at-kept at within so = elim (slice_get_cases old at).1 [
    | inl present ↦
        value_at-left (new_index kept at) (Some present.0) (kept_elements-found kept old at present.0 present.2 so)
        ∙ sym (ap (option_map f) (value_at-found old at (Some present.0) present.2))
    | inr past ↦ absurd (omega (arith, within, past.0))
  ]

  -- what holds of no references, and of the renamed ones of each element that is kept, holds of those at each handle
  pub each_left : (P : ℕ → List Reference → Type 0) → ((handle : ℕ) → P handle []) →
      ((at : ℕ) (x : X) → value_at old at ≡ Some x → contains kept.members at ≡ true → P (new_index kept at) (map g (references x))) →
      (handle : ℕ) → P handle (references_found references (value_at new handle))
  each_left P none one handle = by_entry (slice_get (kept_elements kept old) handle) refl
    where
      by_entry : (found : Option (X × Span)) → slice_get (kept_elements kept old) handle ≡ found → P handle (references_found references (value_at new handle))
      by_entry None missing =
          subst (λ v. P handle (references_found references v)) (sym (value_at-left handle None missing)) (none handle)
      by_entry (Some entry) found =
          let origin : IsOrigin kept old handle entry = IsOrigin-of kept old handle entry found in
          let before : P (new_index kept origin.at) (map g (references entry.0)) = one origin.at entry.0 (value_at-found old origin.at (Some entry) origin.found) origin.so in
          subst (λ v. P handle (references_found references v)) (sym (value_at-left handle (Some entry) found))
          (subst (P handle) (sym (renamed entry.0)) (subst (λ h. P h (map g (references entry.0))) (sym origin.renamed) before))

  pub length-left : length new ≡ new_index kept (length old)
  length-left =
      ap length is ∙ (length-map (kept_elements kept old) (map_value f) ∙ length-kept_elements kept old)

-- the handle of a value that is found is in its arena
pub before_end : {X : Type 0} (arena : List (X × Span)) (at : ℕ) (x : X) → value_at arena at ≡ Some x → at ≤ length arena
before_end arena at x found =
    omega (arith, slice_get_within (values arena) at x found, length-map arena (λ entry. entry.0))

-- ---- the parts of a module

module _ (whole new : the_module.Module) (keep_unused : KeepUnused) (kept : ModuleRenumbering) (used : AreUsed whole keep_unused (kept_handles kept)) (removed : RemovesElements kept whole new) (valid : HandlesAreValid whole) where
  abbrev r : Renaming
  r = renaming_of kept

  lengths-renamed : lengths new ≡ rename_limits r (lengths whole)
  lengths-renamed =
      let types = length-left references_of_type (rename_type r) (rename_reference r) (references_of_type-renamed r) kept.types whole.types new.types removed.types in
      let constants = length-left references_of_constant (rename_constant r) (rename_reference r) (λ x. refl) kept.constants whole.constants new.constants removed.constants in
      let overrides = length-left references_of_override (rename_override r) (rename_reference r) (references_of_override-renamed r) kept.overrides whole.overrides new.overrides removed.overrides in
      let global_variables = length-left references_of_global_variable (rename_global_variable r) (rename_reference r) (references_of_global_variable-renamed r) kept.global_variables whole.global_variables new.global_variables removed.global_variables in
      let global_expressions = length-left references_of_expression (rename_expression (in_global r)) (rename_operand whole kept) (references_of_expression-renamed (in_global r)) kept.global_expressions whole.global_expressions new.global_expressions removed.global_expressions in
      let functions : length new.functions ≡ new_index kept.functions (length whole.functions) = AllZip-long _ (kept_elements kept.functions whole.functions) new.functions removed.functions ∙ length-kept_elements kept.functions whole.functions in
      λ i. record {
        types = types i;
        constants = constants i;
        overrides = overrides i;
        global_variables = global_variables i;
        global_expressions = global_expressions i;
        expressions = 0;
        local_variables = 0;
        functions = functions i;
        diagnostic_filters = length (removed.diagnostic_filters i);
      }

  up_to_all : AreUpTo whole (lengths whole)
  up_to_all = (omega arith, omega arith, omega arith, omega arith, omega arith, omega arith)

  -- the elements to which an element that is kept refers are kept
  pub refers : (element : Reference) → is_member (kept_handles kept) element ≡ true → (n : Reference) → Contains (references_of_element whole element) n → IsKeptElement whole kept n
  refers element so n inside present = AreUsed-refers whole keep_unused (kept_handles kept) element n used so inside present

  -- the roots are kept
  root : (n : Reference) → Contains (required whole) n → IsKeptElement whole kept n
  root n inside present = AreUsed-root whole keep_unused (kept_handles kept) n used (is_root keep_unused) present
    where
      is_root : (keep : KeepUnused) → Contains (roots whole keep) n
      is_root No = inside
      is_root Yes = Contains-append_left (required whole) _ n inside

  moved : (limits limits' : Limits) → limits' ≡ rename_limits r limits → AreUpTo whole limits → (references : List Reference) → ((n : Reference) → Contains references n → IsKeptElement whole kept n) → AreWithin limits references → AreWithin limits' (map (rename_reference r) references)
  moved limits limits' is up_to references so within =
      subst (λ l. AreWithin l (map (rename_reference r) references)) (sym is) (AreWithin-renamed whole kept limits up_to references so within)

  -- ---- declarations

  within-types : (handle : ℕ) → AreWithin (limits_at new («Type» handle)) (references_in new («Type» handle))
  within-types =
      each_left references_of_type (rename_type r) (rename_reference r) (references_of_type-renamed r) kept.types whole.types new.types removed.types
      (λ handle references. AreWithin (record (lengths new) { types = handle }) references)
      (λ handle. All-nil (IsWithin _))
      (λ at x found so.
      moved (record (lengths whole) { types = at }) (record (lengths new) { types = r.types at })
      (λ i. record (lengths-renamed i) { types = r.types at })
      (before_end whole.types at x found, omega arith, omega arith, omega arith, omega arith, omega arith)
      (references_of_type x)
      (λ n inside. refers (reference.«Type» at) so n (subst (λ v. Contains (references_found references_of_type v) n) (sym found) inside))
      (subst (λ v. AreWithin (record (lengths whole) { types = at }) (references_found references_of_type v)) found (valid.references («Type» at))))

  -- declarations that may refer to all elements
  within-declared : {X : Type 0} (references : X → List Reference) (f : X → X) → ((x : X) → references (f x) ≡ map (rename_reference r) (references x)) → (set : BoundedSet) (old now : List (X × Span)) → now ≡ map_values f (kept_elements set old) →
      ((at : ℕ) → contains set.members at ≡ true → (n : Reference) → Contains (references_found references (value_at old at)) n → IsKeptElement whole kept n) →
      ((at : ℕ) → AreWithin (lengths whole) (references_found references (value_at old at))) →
      (handle : ℕ) → AreWithin (lengths new) (references_found references (value_at now handle))
  within-declared references f renamed set old now is closed within =
      each_left references f (rename_reference r) renamed set old now is
      (λ handle references. AreWithin (lengths new) references)
      (λ handle. All-nil (IsWithin _))
      (λ at x found so.
      moved (lengths whole) (lengths new) lengths-renamed up_to_all (references x)
      (λ n inside. closed at so n (subst (λ v. Contains (references_found references v) n) (sym found) inside))
      (subst (λ v. AreWithin (lengths whole) (references_found references v)) found (within at)))

  within-constants : (handle : ℕ) → AreWithin (lengths new) (references_in new (Constant handle))
  within-constants =
      within-declared references_of_constant (rename_constant r) (λ x. refl) kept.constants whole.constants new.constants removed.constants
      (λ at so. refers (reference.Constant at) so) (λ at. valid.references (Constant at))

  within-overrides : (handle : ℕ) → AreWithin (lengths new) (references_in new (Override handle))
  within-overrides =
      within-declared references_of_override (rename_override r) (references_of_override-renamed r) kept.overrides whole.overrides new.overrides removed.overrides
      (λ at so. refers (reference.Override at) so) (λ at. valid.references (Override at))

  within-global_variables : (handle : ℕ) → AreWithin (lengths new) (references_in new (GlobalVariable handle))
  within-global_variables =
      within-declared references_of_global_variable (rename_global_variable r) (references_of_global_variable-renamed r) kept.global_variables whole.global_variables new.global_variables removed.global_variables
      (λ at so. refers (reference.GlobalVariable at) so) (λ at. valid.references (GlobalVariable at))

  -- the operands of a global expression are kept, if it is
  pub operand_kept : (at : ℕ) (x : Expression) → value_at whole.global_expressions at ≡ Some x → contains kept.global_expressions.members at ≡ true → (n : Reference) → Contains (references_of_expression x) n → IsKeptElement whole kept (as_global n)
  operand_kept at x found so n inside =
      refers (reference.GlobalExpression at) so (as_global n)
      (Contains-map as_global (references_found references_of_expression (value_at whole.global_expressions at)) n
      (subst (λ v. Contains (references_found references_of_expression v) n) (sym found) inside))

  within-global_expressions : (handle : ℕ) → AreWithin (limits_at new (GlobalExpression handle)) (references_in new (GlobalExpression handle))
  within-global_expressions =
      each_left references_of_expression (rename_expression (in_global r)) (rename_operand whole kept) (references_of_expression-renamed (in_global r)) kept.global_expressions whole.global_expressions new.global_expressions removed.global_expressions
      (λ handle references. AreWithin (record (lengths new) { expressions = handle }) references)
      (λ handle. All-nil (IsWithin _))
      (λ at x found so.
      let limits : Limits = record (lengths whole) { expressions = at } in
      let same : record (lengths new) { expressions = r.global_expressions at } ≡ rename_global_limits whole kept limits =
      (λ i. record (lengths-renamed i) { expressions = r.global_expressions at })
      in
      subst (λ l. AreWithin l (map (rename_operand whole kept) (references_of_expression x))) (sym same)
      (AreWithin-renamed_operands whole kept limits up_to_all (before_end whole.global_expressions at x found) (references_of_expression x)
      (operand_kept at x found so)
      (λ n inside.
      (All-contains (λ to. IsConstant to × IsAfterInit whole at to) (references_of_expression x) n
      (subst (λ v. All (λ to. IsConstant to × IsAfterInit whole at to) (references_found references_of_expression v)) found (valid.expressions at)) inside).0)
      (subst (λ v. AreWithin limits (references_found references_of_expression v)) found (valid.references (GlobalExpression at)))))

  -- ---- functions

  -- handles that are not of elements of the module
  no_element : (references : List Reference) → All (λ n. ¬ IsElement whole n) references → (n : Reference) → Contains references n → IsKeptElement whole kept n
  no_element references none n inside present = absurd (All-contains (λ n. ¬ IsElement whole n) references n none inside present)

  no_operand : (handles : List ℕ) → All (λ n. ¬ IsElement whole n) (operands handles)
  no_operand handles = All-map (λ n. ¬ IsElement whole n) reference.Expression handles (λ k d within present. present)

  no_leaf : (leaf : Option ℕ) → All (λ n. ¬ IsElement whole n) (references_of_leaf leaf)
  no_leaf None = All-nil (λ n. ¬ IsElement whole n)
  no_leaf (Some handle) = All-cons (λ n. ¬ IsElement whole n) (reference.DiagnosticFilter handle) [] (λ present. present) (All-nil (λ n. ¬ IsElement whole n))

  module _ (declared now : function.Function) (is : IsRenamedFunction r declared now) (closed : (n : Reference) → Contains (references_of_function declared) n → IsKeptElement whole kept n) where
    expressions-length : length now.expressions ≡ length declared.expressions
    expressions-length =
        ap (λ (f : function.Function). length f.expressions) is.outside ∙ length-map declared.expressions (map_value (rename_expression r))

    variables-length : length now.local_variables ≡ length declared.local_variables
    variables-length =
        ap (λ (f : function.Function). length f.local_variables) is.outside ∙ length-map declared.local_variables (map_value (rename_local_variable r))

    abbrev arguments : List Reference
    arguments = references_in_part declared part.Arguments

    abbrev outcome : List Reference
    outcome = references_in_part declared part.Result

    abbrev variables : List Reference
    variables = flat_map references_of_local_variable (values declared.local_variables)

    abbrev expressions : List Reference
    expressions = flat_map references_of_expression (values declared.expressions)

    abbrev body : List Reference
    body = references_in_part declared part.Body

    after_arguments : (n : Reference) → Contains (outcome ++ (variables ++ (expressions ++ body))) n → IsKeptElement whole kept n
    after_arguments n inside = closed n (Contains-append_right arguments (outcome ++ (variables ++ (expressions ++ body))) n inside)

    after_result : (n : Reference) → Contains (variables ++ (expressions ++ body)) n → IsKeptElement whole kept n
    after_result n inside = after_arguments n (Contains-append_right outcome (variables ++ (expressions ++ body)) n inside)

    after_variables : (n : Reference) → Contains (expressions ++ body) n → IsKeptElement whole kept n
    after_variables n inside = after_result n (Contains-append_right variables (expressions ++ body) n inside)

    -- the handles of each part that are of elements of the module are kept
    closed_part : (inner : Part) (n : Reference) → Contains (references_in_part declared inner) n → IsKeptElement whole kept n
    closed_part part.Arguments n inside = closed n (Contains-append_left arguments (outcome ++ (variables ++ (expressions ++ body))) n inside)
    closed_part part.Result n inside = after_arguments n (Contains-append_left outcome (variables ++ (expressions ++ body)) n inside)
    closed_part (part.LocalVariable handle) n inside =
        after_result n (Contains-append_left variables (expressions ++ body) n (Contains-flat_map_at references_of_local_variable (values declared.local_variables) handle n inside))
    closed_part (part.Expression handle) n inside =
        after_variables n (Contains-append_left expressions body n (Contains-flat_map_at references_of_expression (values declared.expressions) handle n inside))
    closed_part part.Body n inside = after_variables n (Contains-append_right expressions body n inside)
    closed_part part.NamedExpressions n inside = no_element (operands (keys declared.named_expressions)) (no_operand (keys declared.named_expressions)) n inside
    closed_part part.DiagnosticFilterLeaf n inside = no_element (references_of_leaf declared.diagnostic_filter_leaf) (no_leaf declared.diagnostic_filter_leaf) n inside

    within-part : (limits limits' : Limits) → limits' ≡ rename_limits r limits → AreUpTo whole limits → (inner : Part) → AreWithin (limits_in_part (limits_inside limits declared) inner) (references_in_part declared inner) → AreWithin (limits_in_part (limits_inside limits' now) inner) (references_in_part now inner)
    within-part limits limits' same up_to inner within =
        subst (AreWithin (limits_in_part (limits_inside limits' now) inner)) (sym (references_in_part-renamed r (λ handle. refl) declared now is inner))
        (moved (limits_in_part (limits_inside limits declared) inner) (limits_in_part (limits_inside limits' now) inner) (same_limits inner) (up_to_part inner) (references_in_part declared inner) (closed_part inner) within)
      where
        same_limits : (inner : Part) → limits_in_part (limits_inside limits' now) inner ≡ rename_limits r (limits_in_part (limits_inside limits declared) inner)
        same_limits (part.Expression handle) =
            λ i. record (same i) { expressions = handle; local_variables = variables-length i }
        same_limits _ = λ i. record (same i) { expressions = expressions-length i; local_variables = variables-length i }

        up_to_part : (inner : Part) → AreUpTo whole (limits_in_part (limits_inside limits declared) inner)
        up_to_part (part.Expression handle) = up_to
        up_to_part _ = up_to

  within-functions : (handle : ℕ) (inner : Part) → AreWithin (limits_at new (Function handle inner)) (references_in new (Function handle inner))
  within-functions handle inner = by_entry (slice_get new.functions handle) refl
    where
      by_entry : (found : Option (function.Function × Span)) → slice_get new.functions handle ≡ found → AreWithin (limits_at new (Function handle inner)) (references_in new (Function handle inner))
      by_entry None missing =
          subst (λ v. AreWithin (limits_found (record (lengths new) { functions = handle }) inner v) (references_found (λ declared. references_in_part declared inner) v)) (sym (value_at-found new.functions handle None missing)) (All-nil (IsWithin _))
      by_entry (Some after) found =
          let before = related _ (kept_elements kept.functions whole.functions) new.functions removed.functions handle after found in
          let origin : IsOrigin kept.functions whole.functions handle before.0 = IsOrigin-of kept.functions whole.functions handle before.0 before.1 in
          let was : value_at whole.functions origin.at ≡ Some before.0.0 = value_at-found whole.functions origin.at (Some before.0) origin.found in
          let within = subst (λ v. AreWithin (limits_found (record (lengths whole) { functions = origin.at }) inner v) (references_found (λ declared. references_in_part declared inner) v)) was (valid.references (Function origin.at inner)) in
          subst (λ v. AreWithin (limits_found (record (lengths new) { functions = handle }) inner v) (references_found (λ declared. references_in_part declared inner) v)) (sym (value_at-found new.functions handle (Some after) found))
          (within-part before.0.0 after.0 before.2.0
          (λ n inside. refers (reference.Function origin.at) origin.so n (subst (λ v. Contains (references_found references_of_function v) n) (sym was) inside))
          (record (lengths whole) { functions = origin.at }) (record (lengths new) { functions = handle })
          (λ i. record (lengths-renamed i) { functions = origin.renamed i })
          (omega arith, omega arith, omega arith, omega arith, omega arith, before_end whole.functions origin.at before.0.0 was)
          inner within)

  -- ---- entry points

  -- what an entry point refers to is kept
  entry_point_kept : (position : ℕ) (n : Reference) → Contains (references_found references_of_whole_entry_point (slice_get whole.entry_points.items position)) n → IsKeptElement whole kept n
  entry_point_kept position n inside =
      root n (Contains-append_right (references_of_special_types whole.special_types) _ n
      (Contains-append_left (flat_map references_of_whole_entry_point whole.entry_points.items) (elements_where reference.Constant (is_named_concrete whole.types) whole.constants) n
      (Contains-flat_map_at references_of_whole_entry_point whole.entry_points.items position n inside)))

  -- what holds of no entry point, and of each renamed one, holds of the entry point at each position
  each_entry_point : (P : Option entry_point.EntryPoint → Type 0) → P None → ((position : ℕ) (before after : entry_point.EntryPoint) → slice_get whole.entry_points.items position ≡ Some before → IsRenamedEntryPoint r before after → P (Some after)) → (position : ℕ) → P (slice_get new.entry_points.items position)
  each_entry_point P none one position = by_entry (slice_get new.entry_points.items position) refl
    where
      by_entry : (found : Option entry_point.EntryPoint) → slice_get new.entry_points.items position ≡ found → P (slice_get new.entry_points.items position)
      by_entry None missing = subst P (sym missing) none
      by_entry (Some after) found =
          let before = related (IsRenamedEntryPoint r) whole.entry_points.items new.entry_points.items removed.entry_points position after found in
          subst P (sym found) (one position before.0 after before.1 before.2)

  within-entry_points : (position : ℕ) → AreWithin (lengths new) (references_in new (EntryPoint position))
  within-entry_points =
      each_entry_point (λ v. AreWithin (lengths new) (references_found references_of_entry_point v))
      (All-nil (IsWithin _))
      (λ position before after found is.
      subst (AreWithin (lengths new)) (sym (references_of_entry_point-renamed r before after is))
      (moved (lengths whole) (lengths new) lengths-renamed up_to_all (references_of_entry_point before)
      (λ n inside. entry_point_kept position n (subst (λ v. Contains (references_found references_of_whole_entry_point v) n) (sym found) (Contains-append_left (references_of_entry_point before) (references_of_function before.function) n inside)))
      (subst (λ v. AreWithin (lengths whole) (references_found references_of_entry_point v)) found (valid.references (EntryPoint position)))))

  within-entry_point_functions : (inner : Part) (position : ℕ) → AreWithin (limits_at new (EntryPointFunction position inner)) (references_in new (EntryPointFunction position inner))
  within-entry_point_functions inner =
      each_entry_point (λ v. AreWithin (limits_found (lengths new) inner (option_map (λ entry. entry.function) v)) (references_found (λ entry. references_in_part entry.function inner) v))
      (All-nil (IsWithin _))
      (λ position before after found is.
      within-part before.function after.function is.inside
      (λ n inside. entry_point_kept position n (subst (λ v. Contains (references_found references_of_whole_entry_point v) n) (sym found) (Contains-append_right (references_of_entry_point before) (references_of_function before.function) n inside)))
      (lengths whole) (lengths new) lengths-renamed up_to_all inner
      (subst (λ v. AreWithin (limits_found (lengths whole) inner (option_map (λ entry. entry.function) v)) (references_found (λ entry. references_in_part entry.function inner) v)) found (valid.references (EntryPointFunction position inner))))

  -- ---- special types, filters and comments

  within-special_types : AreWithin (lengths new) (references_in new SpecialTypes)
  within-special_types =
      subst (λ types. AreWithin (lengths new) (references_of_special_types types)) (sym removed.special_types)
      (subst (AreWithin (lengths new)) (sym (references_of_special_types-renamed r whole.special_types))
      (moved (lengths whole) (lengths new) lengths-renamed up_to_all (references_of_special_types whole.special_types)
      (λ n inside. root n (Contains-append_left (references_of_special_types whole.special_types) _ n inside))
      (valid.references SpecialTypes)))

  -- handles that are not of elements of the module
  unmoved : (limits limits' : Limits) → limits' ≡ rename_limits r limits → AreUpTo whole limits → (leaf : Option ℕ) → AreWithin limits (references_of_leaf leaf) → AreWithin limits' (references_of_leaf leaf)
  unmoved limits limits' is up_to leaf within =
      subst (AreWithin limits') (sym (leaf-kept r leaf))
      (moved limits limits' is up_to (references_of_leaf leaf) (no_element (references_of_leaf leaf) (no_leaf leaf)) within)

  within-filter_leaf : AreWithin (lengths new) (references_in new DiagnosticFilterLeaf)
  within-filter_leaf =
      subst (λ leaf. AreWithin (lengths new) (references_of_leaf leaf)) (sym removed.diagnostic_filter_leaf)
      (unmoved (lengths whole) (lengths new) lengths-renamed up_to_all whole.diagnostic_filter_leaf (valid.references DiagnosticFilterLeaf))

  within-filters : (handle : ℕ) → AreWithin (limits_at new (DiagnosticFilter handle)) (references_in new (DiagnosticFilter handle))
  within-filters handle =
      subst (λ filters. AreWithin (record (lengths new) { diagnostic_filters = handle }) (references_found references_of_filter (value_at filters handle))) (sym removed.diagnostic_filters)
      (by_filter (value_at whole.diagnostic_filters handle) (valid.references (DiagnosticFilter handle)))
    where
      by_filter : (found : Option _) → AreWithin (record (lengths whole) { diagnostic_filters = handle }) (references_found references_of_filter found) → AreWithin (record (lengths new) { diagnostic_filters = handle }) (references_found references_of_filter found)
      by_filter None within = All-nil (IsWithin _)
      by_filter (Some node) within =
          unmoved (record (lengths whole) { diagnostic_filters = handle }) (record (lengths new) { diagnostic_filters = handle })
          (λ i. record (lengths-renamed i) { diagnostic_filters = handle }) up_to_all node.parent within

  renamed_within : (n : Reference) → IsKeptElement whole kept n → IsWithin (lengths whole) n → IsWithin (lengths new) (rename_reference r n)
  renamed_within n so within =
      subst (λ l. IsWithin l (rename_reference r n)) (sym lengths-renamed) (IsWithin-renamed whole kept (lengths whole) up_to_all n so within)

  -- the keys of comments, each of which contains a handle
  within-keys : {K V : Type 0} (test : K → Bool) (f : K → K) (handle_of : K → Reference) →
      ((key : K) → test key ≡ true → IsWithin (lengths whole) (handle_of key) → IsWithin (lengths new) (handle_of (f key))) →
      (entries : List (K × V)) → AreWithin (lengths whole) (map handle_of (keys_of entries)) → AreWithin (lengths new) (map handle_of (keys_of (rename_keys test f entries)))
  within-keys test f handle_of step [] within = All-nil (IsWithin _)
  within-keys test f handle_of step (entry ∷ entries) within =
      let first = All-head (IsWithin (lengths whole)) (handle_of entry.0) (map handle_of (keys_of entries)) within in
      let later = within-keys test f handle_of step entries (All-tail (IsWithin (lengths whole)) (handle_of entry.0) (map handle_of (keys_of entries)) within) in
      elim (cases_Bool (test entry.0)) [
        | inl so ↦ rw so (All-cons (IsWithin (lengths new)) (handle_of (f entry.0)) (map handle_of (keys_of (rename_keys test f entries))) (step entry.0 so first) later)
        | inr so ↦ rw so later
      ]

  within-comments : {B : Type 0} (contents : B → DocComments) (references : DocComments → List Reference) →
      ((before after : DocComments) → RenamesComments kept before after → AreWithin (lengths whole) (references before) → AreWithin (lengths new) (references after)) →
      (old now : Option B) → AllZip (λ before after. RenamesComments kept (contents before) (contents after)) (option_to_list old) (option_to_list now) →
      AreWithin (lengths whole) (references_found (λ comments. references (contents comments)) old) → AreWithin (lengths new) (references_found (λ comments. references (contents comments)) now)
  within-comments contents references step None None all within = All-nil (IsWithin _)
  within-comments contents references step None (Some after) all within = absurd all
  within-comments contents references step (Some before) None all within = absurd all
  within-comments contents references step (Some before) (Some after) all within = step (contents before) (contents after) all.0 within

  within-type_comments : AreWithin (lengths new) (references_in new TypeComments)
  within-type_comments =
      within-comments (λ comments. comments.value) (λ comments. map reference.«Type» (keys comments.types))
      (λ before after renames within.
      subst (λ entries. AreWithin (lengths new) (map reference.«Type» (keys_of entries))) (sym renames.types)
      (within-keys (contains kept.types.members) r.types reference.«Type» (λ key so. renamed_within (reference.«Type» key) (λ present. so)) before.types.entries within))
      whole.doc_comments new.doc_comments removed.doc_comments (valid.references TypeComments)

  within-member_comments : AreWithin (lengths new) (references_in new MemberComments)
  within-member_comments =
      within-comments (λ comments. comments.value) (λ comments. map (λ key. reference.«Type» key.0) (keys comments.struct_members))
      (λ before after renames within.
      subst (λ entries. AreWithin (lengths new) (map (λ (key : ℕ × ℕ). reference.«Type» key.0) (keys_of entries))) (sym renames.struct_members)
      (within-keys (λ key. contains kept.types.members key.0) (λ key. (r.types key.0, key.1)) (λ key. reference.«Type» key.0) (λ key so. renamed_within (reference.«Type» key.0) (λ present. so)) before.struct_members.entries within))
      whole.doc_comments new.doc_comments removed.doc_comments (valid.references MemberComments)

  within-function_comments : AreWithin (lengths new) (references_in new FunctionComments)
  within-function_comments =
      within-comments (λ comments. comments.value) (λ comments. map reference.Function (keys comments.functions))
      (λ before after renames within.
      subst (λ entries. AreWithin (lengths new) (map reference.Function (keys_of entries))) (sym renames.functions)
      (within-keys (contains kept.functions.members) r.functions reference.Function (λ key so. renamed_within (reference.Function key) (λ present. so)) before.functions.entries within))
      whole.doc_comments new.doc_comments removed.doc_comments (valid.references FunctionComments)

  within-constant_comments : AreWithin (lengths new) (references_in new ConstantComments)
  within-constant_comments =
      within-comments (λ comments. comments.value) (λ comments. map reference.Constant (keys comments.constants))
      (λ before after renames within.
      subst (λ entries. AreWithin (lengths new) (map reference.Constant (keys_of entries))) (sym renames.constants)
      (within-keys (contains kept.constants.members) r.constants reference.Constant (λ key so. renamed_within (reference.Constant key) (λ present. so)) before.constants.entries within))
      whole.doc_comments new.doc_comments removed.doc_comments (valid.references ConstantComments)

  within-global_variable_comments : AreWithin (lengths new) (references_in new GlobalVariableComments)
  within-global_variable_comments =
      within-comments (λ comments. comments.value) (λ comments. map reference.GlobalVariable (keys comments.global_variables))
      (λ before after renames within.
      subst (λ entries. AreWithin (lengths new) (map reference.GlobalVariable (keys_of entries))) (sym renames.global_variables)
      (within-keys (contains kept.global_variables.members) r.global_variables reference.GlobalVariable (λ key so. renamed_within (reference.GlobalVariable key) (λ present. so)) before.global_variables.entries within))
      whole.doc_comments new.doc_comments removed.doc_comments (valid.references GlobalVariableComments)

  pub references-removed : ReferencesAreWithin new
  references-removed («Type» handle) = within-types handle
  references-removed SpecialTypes = within-special_types
  references-removed (Constant handle) = within-constants handle
  references-removed (Override handle) = within-overrides handle
  references-removed (GlobalVariable handle) = within-global_variables handle
  references-removed (GlobalExpression handle) = within-global_expressions handle
  references-removed (Function handle inner) = within-functions handle inner
  references-removed (EntryPoint position) = within-entry_points position
  references-removed (EntryPointFunction position inner) = within-entry_point_functions inner position
  references-removed (DiagnosticFilter handle) = within-filters handle
  references-removed DiagnosticFilterLeaf = within-filter_leaf
  references-removed TypeComments = within-type_comments
  references-removed MemberComments = within-member_comments
  references-removed FunctionComments = within-function_comments
  references-removed ConstantComments = within-constant_comments
  references-removed GlobalVariableComments = within-global_variable_comments
