-- What references lead to in a module without its unused elements: what they led to before, renamed.
use Rattle.std.proofs.Common.{◌≡◌, ◌∙◌, sym, ap, subst, refl, ℕ, ◌<◌, ◌≤◌, ◌∷◌, length, true, Option, Some, None, arith}
use Rattle.std.proofs.lemmas.List.Elements.{All-contains}
use Rattle.std.proofs.lemmas.Option.{none-some, same_Some}
use Rattle.std.specs.FinSet.{contains}
use Rattle.std.specs.List.{Contains}
use Rattle.std.specs.Option.{ForSome, option_map}
use Rattle.std.specs.Prelude.{option_and_then, option_to_list}
use Rattle.naga_arena.specs.Arena.{value_at}
use Rattle.naga_ir.specs.declared.expression.Expression.{Expression}
use Rattle.naga_ir.specs.declared.module.Constant as constant
use Rattle.naga_ir.specs.declared.module.Module as the_module
use Rattle.naga_ir.specs.declared.module.Override as override
use Rattle.naga_sets.specs.HandleSet.{BoundedSet}
use Rattle.naga_valid.specs.Declarations.{references_of_constant, references_of_override}
use Rattle.naga_valid.specs.Expressions.{references_of_expression}
use Rattle.naga_valid.specs.Limits.{IsWithin}
use Rattle.naga_valid.specs.Places.{lengths, references_found, references_in}
use Rattle.naga_valid.specs.Valid.{HandlesAreValid, IsAfterInit, IsBeforeType, IsConstant, init_of_reference, type_of_reference}
use Rattle.naga_valid.specs.declared.reference.Reference.{Reference}
use Rattle.naga_valid.specs.declared.reference.Reference.TheVariants as reference
use Rattle.naga_valid.specs.declared.place.Place.TheVariants.{GlobalExpression}
use Rattle.naga_valid.proofs.ForSomeLemmas.{ForSome-and_then, ForSome-map}
use Rattle.naga_valid.proofs.HandlesOfDeclarationsLemmas.{init-of_constant, init-of_override, type-of_constant, type-of_override}
use Rattle.naga_compact.specs.Kept.{new_index}
use Rattle.naga_compact.specs.Module.Compaction.{RemovesElements, kept_handles}
use Rattle.naga_compact.specs.Module.References.{IsElement, as_global}
use Rattle.naga_compact.specs.Module.Used.{AreUsed, is_member}
use Rattle.naga_compact.specs.Renaming.{Renaming, rename_reference}
use Rattle.naga_compact.specs.Renaming.Declarations.{rename_constant, rename_override}
use Rattle.naga_compact.specs.Renaming.Renumbering.{renaming_of}
use Rattle.naga_compact.specs.declared.module.renumbering.ModuleRenumbering.{ModuleRenumbering}
use Rattle.naga_compact.specs.declared.module.roots.KeepUnused.{KeepUnused}
use Rattle.naga_compact.proofs.IsWithinRenamedLemmas.{rename_operand}
use Rattle.naga_compact.proofs.RankLemmas.{rank-increases}
use Rattle.naga_compact.proofs.RemovesElementsLemmas.{before_end, operand_kept, refers, value_at-kept}
use Rattle.naga_compact.proofs.RenamedPartsLemmas.{references_of_override-renamed}

-- ---- what is read of a value that is found

module _ {A B : Type 0} (f : A → A) (g : B → B) where
  option_map-exchanged : (read : A → B) → ((x : A) → read (f x) ≡ g (read x)) → (found : Option A) → option_map read (option_map f found) ≡ option_map g (option_map read found)
  option_map-exchanged read is None = refl
  option_map-exchanged read is (Some x) = ap Some (is x)

  pub option_and_then-exchanged : (read : A → Option B) → ((x : A) → read (f x) ≡ option_map g (read x)) → (found : Option A) → option_and_then read (option_map f found) ≡ option_map g (option_and_then read found)
  option_and_then-exchanged read is None = refl
  option_and_then-exchanged read is (Some x) = is x

-- an index that was before `limit` is so after both are renamed, if it is kept
pub precedes-renamed : (set : BoundedSet) (limit : ℕ) (old new : Option ℕ) → new ≡ option_map (new_index set) old → ForSome old (λ n. contains set.members n ≡ true) → ForSome old (λ n. n < limit) → ForSome new (λ n. n < new_index set limit)
precedes-renamed set limit None new is kept before n found = absurd (none-some n (sym is ∙ found))
precedes-renamed set limit (Some m) new is kept before n found =
    subst (λ k. k < new_index set limit) (same_Some (new_index set m) n (sym is ∙ found)) (rank-increases (contains set.members) m limit (kept m refl) (before m refl))

module _ (whole new : the_module.Module) (keep_unused : KeepUnused) (kept : ModuleRenumbering) (used : AreUsed whole keep_unused (kept_handles kept)) (removed : RemovesElements kept whole new) (valid : HandlesAreValid whole) where
  abbrev r : Renaming
  r = renaming_of kept

  -- the element to which a global expression refers is kept
  abbrev pub IsKept : Reference → Type 0
  IsKept to = is_member (kept_handles kept) (as_global to) ≡ true

  pub element_of_kept : (element : Reference) → is_member (kept_handles kept) element ≡ true → IsElement whole element
  element_of_kept element so = ((used.members element).0 so).0

  abbrev type_is_kept : ℕ → Type 0
  type_is_kept ty = contains kept.types.members ty ≡ true

  abbrev expression_is_kept : ℕ → Type 0
  expression_is_kept expression = contains kept.global_expressions.members expression ≡ true

  -- ---- constants and overrides

  constant-renamed : (handle : ℕ) → IsKept (reference.Constant handle) → value_at new.constants (r.constants handle) ≡ option_map (rename_constant r) (value_at whole.constants handle)
  constant-renamed handle so =
      value_at-kept references_of_constant (rename_constant r) (rename_reference r) (λ x. refl) kept.constants whole.constants new.constants removed.constants
      handle (element_of_kept (reference.Constant handle) so) so

  override-renamed : (handle : ℕ) → IsKept (reference.Override handle) → value_at new.overrides (r.overrides handle) ≡ option_map (rename_override r) (value_at whole.overrides handle)
  override-renamed handle so =
      value_at-kept references_of_override (rename_override r) (rename_reference r) (references_of_override-renamed r) kept.overrides whole.overrides new.overrides removed.overrides
      handle (element_of_kept (reference.Override handle) so) so

  constant_refers : (handle : ℕ) (declared : constant.Constant) (to : Reference) → IsKept (reference.Constant handle) → value_at whole.constants handle ≡ Some declared → Contains (references_of_constant declared) to → IsElement whole to → is_member (kept_handles kept) to ≡ true
  constant_refers handle declared to so found inside =
      refers whole new keep_unused kept used removed valid (reference.Constant handle) so to
      (subst (λ v. Contains (references_found references_of_constant v) to) (sym found) inside)

  override_refers : (handle : ℕ) (declared : override.Override) (to : Reference) → IsKept (reference.Override handle) → value_at whole.overrides handle ≡ Some declared → Contains (references_of_override declared) to → IsElement whole to → is_member (kept_handles kept) to ≡ true
  override_refers handle declared to so found inside =
      refers whole new keep_unused kept used removed valid (reference.Override handle) so to
      (subst (λ v. Contains (references_found references_of_override v) to) (sym found) inside)

  -- ---- types

  pub type_of_reference-renamed : (to : Reference) → IsKept to → type_of_reference new (rename_operand whole kept to) ≡ option_map r.types (type_of_reference whole to)
  type_of_reference-renamed (reference.Constant handle) so =
      ap (option_map (λ (declared : constant.Constant). declared.ty)) (constant-renamed handle so)
      ∙ option_map-exchanged (rename_constant r) r.types (λ (declared : constant.Constant). declared.ty) (λ x. refl) (value_at whole.constants handle)
  type_of_reference-renamed (reference.Override handle) so =
      ap (option_map (λ (declared : override.Override). declared.ty)) (override-renamed handle so)
      ∙ option_map-exchanged (rename_override r) r.types (λ (declared : override.Override). declared.ty) (λ x. refl) (value_at whole.overrides handle)
  type_of_reference-renamed _ so = refl

  pub type_of_reference-kept : (to : Reference) → IsKept to → ForSome (type_of_reference whole to) type_is_kept
  type_of_reference-kept (reference.«Type» handle) so = λ ty is. subst type_is_kept (same_Some handle ty is) so
  type_of_reference-kept (reference.Constant handle) so =
      ForSome-map (λ (declared : constant.Constant). declared.ty) (value_at whole.constants handle) type_is_kept
      (λ declared found. constant_refers handle declared (reference.«Type» declared.ty) so found (0, omega arith, refl) (type-of_constant whole valid handle declared found))
  type_of_reference-kept (reference.Override handle) so =
      ForSome-map (λ (declared : override.Override). declared.ty) (value_at whole.overrides handle) type_is_kept
      (λ declared found. override_refers handle declared (reference.«Type» declared.ty) so found (0, omega arith, refl) (type-of_override whole valid handle declared found))
  type_of_reference-kept _ so = λ ty is. absurd (none-some ty is)

  pub IsBeforeType-renamed : (at : ℕ) (to : Reference) → IsKept to → IsBeforeType whole at to → IsBeforeType new (r.types at) (rename_operand whole kept to)
  IsBeforeType-renamed at to so before =
      precedes-renamed kept.types at (type_of_reference whole to) (type_of_reference new (rename_operand whole kept to))
      (type_of_reference-renamed to so) (type_of_reference-kept to so) before

  -- ---- inits

  pub init_of_reference-renamed : (to : Reference) → IsKept to → init_of_reference new (rename_operand whole kept to) ≡ option_map r.global_expressions (init_of_reference whole to)
  init_of_reference-renamed (reference.Constant handle) so =
      ap (option_map (λ (declared : constant.Constant). declared.init)) (constant-renamed handle so)
      ∙ option_map-exchanged (rename_constant r) r.global_expressions (λ (declared : constant.Constant). declared.init) (λ x. refl) (value_at whole.constants handle)
  init_of_reference-renamed (reference.Override handle) so =
      ap (option_and_then (λ (declared : override.Override). declared.init)) (override-renamed handle so)
      ∙ option_and_then-exchanged (rename_override r) r.global_expressions (λ (declared : override.Override). declared.init) (λ x. refl) (value_at whole.overrides handle)
  init_of_reference-renamed _ so = refl

  init_contained : (declared : override.Override) (init : ℕ) → declared.init ≡ Some init → Contains (references_of_override declared) (reference.GlobalExpression init)
  init_contained declared init is =
      subst (λ o. Contains (reference.«Type» declared.ty ∷ option_to_list (option_map reference.GlobalExpression o)) (reference.GlobalExpression init)) (sym is) (1, omega arith, refl)

  pub init_of_reference-kept : (to : Reference) → IsKept to → ForSome (init_of_reference whole to) expression_is_kept
  init_of_reference-kept (reference.Constant handle) so =
      ForSome-map (λ (declared : constant.Constant). declared.init) (value_at whole.constants handle) expression_is_kept
      (λ declared found. constant_refers handle declared (reference.GlobalExpression declared.init) so found (1, omega arith, refl) (init-of_constant whole valid handle declared found))
  init_of_reference-kept (reference.Override handle) so =
      ForSome-and_then (λ (declared : override.Override). declared.init) (value_at whole.overrides handle) expression_is_kept
      (λ declared found init is.
      override_refers handle declared (reference.GlobalExpression init) so found (init_contained declared init is) (init-of_override whole valid handle declared found init is))
  init_of_reference-kept _ so = λ init is. absurd (none-some init is)

  pub IsAfterInit-renamed : (at : ℕ) (to : Reference) → IsKept to → IsAfterInit whole at to → IsAfterInit new (r.global_expressions at) (rename_operand whole kept to)
  IsAfterInit-renamed at to so after =
      precedes-renamed kept.global_expressions at (init_of_reference whole to) (init_of_reference new (rename_operand whole kept to))
      (init_of_reference-renamed to so) (init_of_reference-kept to so) after

  -- ---- references of global expressions

  pub IsConstant-renamed : (to : Reference) → IsConstant to → IsConstant (rename_operand whole kept to)
  IsConstant-renamed (reference.«Type» handle) is = tt
  IsConstant-renamed (reference.Constant handle) is = tt
  IsConstant-renamed (reference.Override handle) is = tt
  IsConstant-renamed (reference.Expression handle) is = tt
  IsConstant-renamed _ is = absurd is

  IsConstant-IsElement : (at : ℕ) → at ≤ length whole.global_expressions → (to : Reference) → IsConstant to → IsWithin (record (lengths whole) { expressions = at }) to → IsElement whole (as_global to)
  IsConstant-IsElement at up_to (reference.«Type» handle) is within = within
  IsConstant-IsElement at up_to (reference.Constant handle) is within = within
  IsConstant-IsElement at up_to (reference.Override handle) is within = within
  IsConstant-IsElement at up_to (reference.Expression handle) is within = omega (arith, up_to, within)
  IsConstant-IsElement at up_to _ is within = absurd is

  pub IsKept-operand : (at : ℕ) (x : Expression) → value_at whole.global_expressions at ≡ Some x → expression_is_kept at → (to : Reference) → Contains (references_of_expression x) to → IsKept to
  IsKept-operand at x found so to inside =
      let there : Contains (references_in whole (GlobalExpression at)) to = subst (λ v. Contains (references_found references_of_expression v) to) (sym found) inside in
      let constant = All-contains (λ to. IsConstant to × IsAfterInit whole at to) (references_in whole (GlobalExpression at)) to (valid.expressions at) there in
      let within = All-contains (IsWithin (record (lengths whole) { expressions = at })) (references_in whole (GlobalExpression at)) to (valid.references (GlobalExpression at)) there in
      operand_kept whole new keep_unused kept used removed valid at x found so to inside
      (IsConstant-IsElement at (before_end whole.global_expressions at x found) to constant.0 within)
