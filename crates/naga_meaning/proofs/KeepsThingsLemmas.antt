-- A module and its compacted one agree on what handles represent.
use Rattle.std.proofs.Common.{◌≡◌, ◌∙◌, ap, subst, refl, ℕ, zero, suc, ◌<◌, ◌≤◌, List, [], ◌∷◌, map, length, true, Option, None, Some, arith}
use Rattle.std.proofs.lemmas.List.Elements.{All-contains_itself, All-head, All-map, All-nil, All-tail}
use Rattle.std.specs.FinSet.{contains}
use Rattle.std.specs.List.{Contains}
use Rattle.std.specs.Prelude.{All, option_map}
use Rattle.naga_arena.specs.Arena.{value_at}
use Rattle.naga_ir.specs.Types.{structure, plain}
use Rattle.naga_ir.specs.declared.module.Module.{Module}
use Rattle.naga_ir.specs.declared.types.ArraySize.{ArraySize}
use Rattle.naga_ir.specs.declared.types.ArraySize.TheVariants as size
use Rattle.naga_ir.specs.declared.types.StructMember.{StructMember}
use Rattle.naga_ir.specs.declared.types.TypeInner.{TypeInner}
use Rattle.naga_ir.specs.declared.types.TypeInner.TheVariants as inner
use Rattle.naga_valid.specs.Declarations.{references_of_constant, references_of_global_variable, references_of_override, references_of_type}
use Rattle.naga_valid.specs.Expressions.{references_of_expression}
use Rattle.naga_valid.specs.Limits.{AreWithin, IsWithin}
use Rattle.naga_valid.specs.Places.{lengths, references_found}
use Rattle.naga_valid.specs.Valid.{HandlesAreValid, IsConstant}
use Rattle.naga_valid.specs.declared.place.Place.TheVariants as place_in
use Rattle.naga_valid.specs.declared.reference.Reference.{Reference}
use Rattle.naga_valid.specs.declared.reference.Reference.TheVariants as reference
use Rattle.naga_valid.proofs.ContainsLemmas.{Contains-map}
use Rattle.naga_compact.specs.Module.Compaction.{CompactsModule, RemovesElements, kept_handles}
use Rattle.naga_compact.specs.Module.References.{IsElement, as_global, references_of_element}
use Rattle.naga_compact.specs.Module.Used.{AreUsed, is_member}
use Rattle.naga_compact.specs.Renaming.{Renaming, in_global, rename_reference}
use Rattle.naga_compact.specs.Renaming.Declarations.{rename_constant, rename_global_variable, rename_override}
use Rattle.naga_compact.specs.derived.Renaming.{rename_array_size, rename_expression, rename_struct_member, rename_type, rename_type_inner}
use Rattle.naga_compact.specs.Renaming.Renumbering.{renaming_of}
use Rattle.naga_compact.specs.declared.module.renumbering.ModuleRenumbering.{ModuleRenumbering}
use Rattle.naga_compact.specs.declared.module.roots.KeepUnused.{KeepUnused}
use Rattle.naga_compact.proofs.CompactsFunctionsLemmas.{HandlesAreValid-compacted_functions}
use Rattle.naga_compact.proofs.IsUsedLemmas.{AreUsed-refers}
use Rattle.naga_compact.proofs.IsWithinRenamedLemmas.{AreUpTo, IsKeptElement, Limits}
use Rattle.naga_compact.proofs.MappedListLemmas.{items-mapped}
use Rattle.naga_compact.proofs.RemovesElementsLemmas.{value_at-kept}
use Rattle.naga_compact.proofs.RenamedPartsLemmas.{references_of_global_variable-renamed, references_of_override-renamed, references_of_type-renamed}
use Rattle.naga_compact.proofs.derived_lemmas.RenamedVariantsLemmas.{references_of_expression-renamed}
use Rattle.naga_meaning.specs.Forms.{erasing, expression_form}
use Rattle.naga_meaning.specs.KeptThings.{KeepsPlaces, KeepsThings, Remains}
use Rattle.naga_meaning.specs.Things.{Declared, Unfolded, all_unfolded, and_then, contents_form, declared_at, declared_of, element, handles_in, member_form, of_constant, of_global_expression, of_type, placed, thing_of, unfolded}
use Rattle.naga_meaning.proofs.derived.FormsLemmas.{expression_form-renamed}

-- ---- types without their handles

module _ (r : Renaming) where
  members-renamed : (members : List StructMember) → map member_form (map (rename_struct_member r) members) ≡ map member_form members
  members-renamed [] = refl
  members-renamed (member ∷ members) = ap (λ rest. member_form member ∷ rest) (members-renamed members)

  size-erased : (x : ArraySize) → rename_array_size erasing (rename_array_size r x) ≡ rename_array_size erasing x
  size-erased (size.Pending handle) = refl
  size-erased _ = refl

  contents_form-renamed : (x : TypeInner) → contents_form (rename_type_inner r x) ≡ contents_form x
  contents_form-renamed (inner.Array base x stride) = ap (λ y. plain (inner.Array 0 y stride)) (size-erased x)
  contents_form-renamed (inner.BindingArray base x) = ap (λ y. plain (inner.BindingArray 0 y)) (size-erased x)
  contents_form-renamed (inner.Struct members span) =
      ap (λ items. structure (map member_form items) span) (items-mapped (rename_struct_member r) members)
      ∙ ap (λ forms. structure forms span) (members-renamed members.items)
  contents_form-renamed _ = refl

-- ---- elements that are found

declared_of-mapped : {X : Type 0} (form : X → Declared) (f : X → X) → ((x : X) → form (f x) ≡ form x) → (found : Option X) → declared_of form (option_map f found) ≡ declared_of form found
declared_of-mapped form f same None = refl
declared_of-mapped form f same (Some x) = same x

references_found-mapped : {X : Type 0} (references : X → List Reference) (f : X → X) (g : Reference → Reference) → ((x : X) → references (f x) ≡ map g (references x)) → (found : Option X) →
    references_found references (option_map f found) ≡ map g (references_found references found)
references_found-mapped references f g same None = refl
references_found-mapped references f g same (Some x) = same x

-- ---- two modules that agree on what is declared

module _ {Place : Type 0} (old new : Module) (place place' : Reference → Place) (rename : Reference → Reference) (P : Reference → Type 0)
    (declared : (name : Reference) → P name → declared_at new (rename name) ≡ declared_at old name)
    (places : (name : Reference) → P name → placed place' (rename name) ≡ placed place name)
    (handles : (name : Reference) → P name → handles_in new (rename name) ≡ map rename (handles_in old name))
    (closed : (name : Reference) → P name → All P (handles_in old name)) where
  all_unfolded-same : (look look' : Reference → Unfolded Place) → ((name : Reference) → P name → look' (rename name) ≡ look name) → (names : List Reference) → All P names →
      all_unfolded look' (map rename names) ≡ all_unfolded look names
  all_unfolded-same look look' same [] all = refl
  all_unfolded-same look look' same (name ∷ names) all =
      λ i. and_then (same name (All-head P name names all) i) (all_unfolded-same look look' same names (All-tail P name names all) i)

  unfolded-same : (depth : ℕ) (name : Reference) → P name → unfolded new place' depth (rename name) ≡ unfolded old place depth name
  unfolded-same zero name so = refl
  unfolded-same (suc depth) name so =
      let contents : all_unfolded (unfolded new place' depth) (handles_in new (rename name)) ≡ all_unfolded (unfolded old place depth) (handles_in old name) =
      ap (all_unfolded (unfolded new place' depth)) (handles name so)
      ∙ all_unfolded-same (unfolded old place depth) (unfolded new place' depth) (unfolded-same depth) (handles_in old name) (closed name so)
      in
      λ i. element (declared name so i) (places name so i) (contents i)

-- ---- a module and what is left of it

module _ (whole new : Module) (keep_unused : KeepUnused) (kept : ModuleRenumbering) (used : AreUsed whole keep_unused (kept_handles kept)) (removed : RemovesElements kept whole new) (valid : HandlesAreValid whole) where
  abbrev r : Renaming
  r = renaming_of kept

  is_element : (name : Reference) → is_member (kept_handles kept) name ≡ true → IsElement whole name
  is_element name so = ((used.members name).0 so).0

  -- ---- elements

  type-found : (handle : ℕ) → contains kept.types.members handle ≡ true → value_at new.types (r.types handle) ≡ option_map (rename_type r) (value_at whole.types handle)
  type-found handle so =
      value_at-kept references_of_type (rename_type r) (rename_reference r) (references_of_type-renamed r) kept.types whole.types new.types removed.types handle (is_element (reference.«Type» handle) so) so

  constant-found : (handle : ℕ) → contains kept.constants.members handle ≡ true → value_at new.constants (r.constants handle) ≡ option_map (rename_constant r) (value_at whole.constants handle)
  constant-found handle so =
      value_at-kept references_of_constant (rename_constant r) (rename_reference r) (λ x. refl) kept.constants whole.constants new.constants removed.constants handle (is_element (reference.Constant handle) so) so

  override-found : (handle : ℕ) → contains kept.overrides.members handle ≡ true → value_at new.overrides (r.overrides handle) ≡ option_map (rename_override r) (value_at whole.overrides handle)
  override-found handle so =
      value_at-kept references_of_override (rename_override r) (rename_reference r) (references_of_override-renamed r) kept.overrides whole.overrides new.overrides removed.overrides handle (is_element (reference.Override handle) so) so

  variable-found : (handle : ℕ) → contains kept.global_variables.members handle ≡ true → value_at new.global_variables (r.global_variables handle) ≡ option_map (rename_global_variable r) (value_at whole.global_variables handle)
  variable-found handle so =
      value_at-kept references_of_global_variable (rename_global_variable r) (rename_reference r) (references_of_global_variable-renamed r) kept.global_variables whole.global_variables new.global_variables removed.global_variables handle (is_element (reference.GlobalVariable handle) so) so

  expression-found : (handle : ℕ) → contains kept.global_expressions.members handle ≡ true → value_at new.global_expressions (r.global_expressions handle) ≡ option_map (rename_expression (in_global r)) (value_at whole.global_expressions handle)
  expression-found handle so =
      value_at-kept references_of_expression (rename_expression (in_global r)) (rename_reference (in_global r)) (references_of_expression-renamed (in_global r)) kept.global_expressions whole.global_expressions new.global_expressions removed.global_expressions handle (is_element (reference.GlobalExpression handle) so) so

  -- ---- what is declared

  declared-kept : (name : Reference) → Remains kept name → declared_at new (rename_reference r name) ≡ declared_at whole name
  declared-kept (reference.«Type» handle) so =
      ap (declared_of (λ type. of_type (contents_form type.inner))) (type-found handle so)
      ∙ declared_of-mapped (λ type. of_type (contents_form type.inner)) (rename_type r) (λ type. ap of_type (contents_form-renamed r type.inner)) (value_at whole.types handle)
  declared-kept (reference.Constant handle) so =
      ap (declared_of (λ constant. of_constant)) (constant-found handle so)
      ∙ declared_of-mapped (λ constant. of_constant) (rename_constant r) (λ constant. refl) (value_at whole.constants handle)
  declared-kept (reference.Override handle) so =
      ap (declared_of _) (override-found handle so)
      ∙ declared_of-mapped _ (rename_override r) (λ declared. refl) (value_at whole.overrides handle)
  declared-kept (reference.GlobalVariable handle) so =
      ap (declared_of _) (variable-found handle so)
      ∙ declared_of-mapped _ (rename_global_variable r) (λ declared. refl) (value_at whole.global_variables handle)
  declared-kept (reference.GlobalExpression handle) so =
      ap (declared_of (λ expression. of_global_expression (expression_form expression))) (expression-found handle so)
      ∙ declared_of-mapped (λ expression. of_global_expression (expression_form expression)) (rename_expression (in_global r))
      (λ expression. ap of_global_expression (expression_form-renamed (in_global r) expression)) (value_at whole.global_expressions handle)
  declared-kept _ so = refl

  -- ---- the handles in it

  as_global-renamed : (names : List Reference) → map as_global (map (rename_reference (in_global r)) names) ≡ map (rename_reference r) (map as_global names)
  as_global-renamed [] = refl
  as_global-renamed (name ∷ names) = λ i. one name i ∷ as_global-renamed names i
    where
      one : (name : Reference) → as_global (rename_reference (in_global r) name) ≡ rename_reference r (as_global name)
      one (reference.Expression handle) = refl
      one _ = refl

  handles-kept : (name : Reference) → Remains kept name → handles_in new (rename_reference r name) ≡ map (rename_reference r) (handles_in whole name)
  handles-kept (reference.«Type» handle) so =
      ap (references_found references_of_type) (type-found handle so)
      ∙ references_found-mapped references_of_type (rename_type r) (rename_reference r) (references_of_type-renamed r) (value_at whole.types handle)
  handles-kept (reference.Constant handle) so =
      ap (references_found references_of_constant) (constant-found handle so)
      ∙ references_found-mapped references_of_constant (rename_constant r) (rename_reference r) (λ x. refl) (value_at whole.constants handle)
  handles-kept (reference.Override handle) so =
      ap (references_found references_of_override) (override-found handle so)
      ∙ references_found-mapped references_of_override (rename_override r) (rename_reference r) (references_of_override-renamed r) (value_at whole.overrides handle)
  handles-kept (reference.GlobalVariable handle) so =
      ap (references_found references_of_global_variable) (variable-found handle so)
      ∙ references_found-mapped references_of_global_variable (rename_global_variable r) (rename_reference r) (references_of_global_variable-renamed r) (value_at whole.global_variables handle)
  handles-kept (reference.GlobalExpression handle) so =
      ap (λ found. map as_global (references_found references_of_expression found)) (expression-found handle so)
      ∙ ap (map as_global) (references_found-mapped references_of_expression (rename_expression (in_global r)) (rename_reference (in_global r)) (references_of_expression-renamed (in_global r)) (value_at whole.global_expressions handle))
      ∙ as_global-renamed (references_found references_of_expression (value_at whole.global_expressions handle))
  handles-kept _ so = refl

  -- ---- what it contains is kept

  pub remains-within : (limits : Limits) → AreUpTo whole limits → (name : Reference) → IsKeptElement whole kept name → IsWithin limits name → Remains kept name
  remains-within limits up_to (reference.«Type» handle) so within = so (omega (arith, up_to.0, within))
  remains-within limits up_to (reference.Constant handle) so within = so (omega (arith, up_to.1, within))
  remains-within limits up_to (reference.Override handle) so within = so (omega (arith, up_to.2, within))
  remains-within limits up_to (reference.GlobalVariable handle) so within = so (omega (arith, up_to.3, within))
  remains-within limits up_to (reference.GlobalExpression handle) so within = so (omega (arith, up_to.4, within))
  remains-within limits up_to (reference.Function handle) so within = so (omega (arith, up_to.5, within))
  remains-within limits up_to (reference.Expression handle) so within = tt
  remains-within limits up_to (reference.Expressions start end') so within = tt
  remains-within limits up_to (reference.LocalVariable handle) so within = tt
  remains-within limits up_to (reference.DiagnosticFilter handle) so within = tt

  pub remain-within : (limits : Limits) → AreUpTo whole limits → (names : List Reference) → ((name : Reference) → Contains names name → IsKeptElement whole kept name) → AreWithin limits names → All (Remains kept) names
  remain-within limits up_to names so within =
      λ k d inside. remains-within limits up_to _ (so _ (All-contains_itself names k d inside)) (within k d inside)

  refers : (from : Reference) → is_member (kept_handles kept) from ≡ true → (name : Reference) → Contains (references_of_element whole from) name → IsKeptElement whole kept name
  refers from so name inside present = AreUsed-refers whole keep_unused (kept_handles kept) from name used so inside present

  pub up_to_all : AreUpTo whole (lengths whole)
  up_to_all = (omega arith, omega arith, omega arith, omega arith, omega arith, omega arith)

  -- an operand of a global expression
  operand-remains : (limits : Limits) → AreUpTo whole limits → limits.expressions ≤ length whole.global_expressions → (name : Reference) → IsKeptElement whole kept (as_global name) → IsConstant name → IsWithin limits name → Remains kept (as_global name)
  operand-remains limits up_to few (reference.«Type» handle) so constant within = so (omega (arith, up_to.0, within))
  operand-remains limits up_to few (reference.Constant handle) so constant within = so (omega (arith, up_to.1, within))
  operand-remains limits up_to few (reference.Override handle) so constant within = so (omega (arith, up_to.2, within))
  operand-remains limits up_to few (reference.Expression handle) so constant within = so (omega (arith, few, within))
  operand-remains limits up_to few _ so constant within = absurd constant

  closed-kept : (name : Reference) → Remains kept name → All (Remains kept) (handles_in whole name)
  closed-kept (reference.«Type» handle) so =
      let present : handle < length whole.types = is_element (reference.«Type» handle) so in
      remain-within (record (lengths whole) { types = handle }) (omega (arith, present), omega arith, omega arith, omega arith, omega arith, omega arith)
      (references_of_element whole (reference.«Type» handle)) (refers (reference.«Type» handle) so) (valid.references (place_in.«Type» handle))
  closed-kept (reference.Constant handle) so =
      remain-within (lengths whole) up_to_all (references_of_element whole (reference.Constant handle)) (refers (reference.Constant handle) so) (valid.references (place_in.Constant handle))
  closed-kept (reference.Override handle) so =
      remain-within (lengths whole) up_to_all (references_of_element whole (reference.Override handle)) (refers (reference.Override handle) so) (valid.references (place_in.Override handle))
  closed-kept (reference.GlobalVariable handle) so =
      remain-within (lengths whole) up_to_all (references_of_element whole (reference.GlobalVariable handle)) (refers (reference.GlobalVariable handle) so) (valid.references (place_in.GlobalVariable handle))
  closed-kept (reference.GlobalExpression handle) so =
      let present : handle < length whole.global_expressions = is_element (reference.GlobalExpression handle) so in
      let names : List Reference = references_found references_of_expression (value_at whole.global_expressions handle) in
      All-map (Remains kept) as_global names
      (λ k d inside.
      operand-remains (record (lengths whole) { expressions = handle }) up_to_all (omega (arith, present)) _
      (refers (reference.GlobalExpression handle) so _ (Contains-map as_global names _ (All-contains_itself names k d inside)))
      (valid.expressions handle k d inside).0 (valid.references (place_in.GlobalExpression handle) k d inside))
  closed-kept _ so = All-nil (Remains kept)

-- ---- a module with other functions

module _ (old other : Module) where
  -- the first module with the functions and the entry points of the second
  abbrev with_functions : Module
  with_functions = record old { functions = other.functions; entry_points = other.entry_points }

  declared-outside : (name : Reference) → declared_at with_functions name ≡ declared_at old name
  declared-outside (reference.Function handle) = refl
  declared-outside _ = refl

  handles-outside : (name : Reference) → handles_in with_functions name ≡ handles_in old name
  handles-outside (reference.Function handle) = refl
  handles-outside _ = refl

module _ (old : Module) (keep_unused : KeepUnused) (kept : ModuleRenumbering) (new : Module) (valid : HandlesAreValid old) (compacts : CompactsModule old keep_unused kept new) where
  valid_between : HandlesAreValid compacts.middle
  valid_between = HandlesAreValid-compacted_functions old compacts.middle compacts.functions valid

  declared-before : (name : Reference) → declared_at compacts.middle name ≡ declared_at old name
  declared-before name =
      ap (λ whole. declared_at whole name) compacts.functions.outside ∙ declared-outside old compacts.middle name

  handles-before : (name : Reference) → handles_in compacts.middle name ≡ handles_in old name
  handles-before name =
      ap (λ whole. handles_in whole name) compacts.functions.outside ∙ handles-outside old compacts.middle name

  pub KeepsThings-of : {Place : Type 0} (place place' : Reference → Place) → KeepsPlaces kept place place' → KeepsThings kept (thing_of old place) (thing_of new place')
  KeepsThings-of place place' keeps name so =
      λ i depth.
      unfolded-same old new place place' (rename_reference (renaming_of kept)) (Remains kept)
      (λ name so. declared-kept compacts.middle new keep_unused kept compacts.used compacts.removed valid_between name so ∙ declared-before name)
      keeps
      (λ name so. handles-kept compacts.middle new keep_unused kept compacts.used compacts.removed valid_between name so ∙ ap (map (rename_reference (renaming_of kept))) (handles-before name))
      (λ name so. subst (All (Remains kept)) (handles-before name) (closed-kept compacts.middle new keep_unused kept compacts.used compacts.removed valid_between name so))
      depth name so i
