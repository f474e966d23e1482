-- A module without its unused elements: nothing depends on itself, if nothing did before.
use Rattle.std.proofs.Common.{◌≡◌, ◌∙◌, sym, ap, subst, refl, inl, inr, ℕ, ◌≤◌, List, [], ◌∷◌, map, true, Option, Some, None, arith}
use Rattle.std.proofs.lemmas.Bool.{cases_lt}
use Rattle.std.proofs.lemmas.List.Elements.{All-contains, All-contains_itself, All-map, All-nil}
use Rattle.std.proofs.lemmas.Option.{none-some, same_Some}
use Rattle.std.specs.FinSet.{contains}
use Rattle.std.specs.List.{All, Contains}
use Rattle.std.specs.Option.{ForSome, option_map}
use Rattle.std.specs.Prelude.{option_and_then, option_to_list, slice_get}
use Rattle.naga_arena.specs.Arena.{value_at}
use Rattle.naga_arena.specs.declared.span.Span.{Span}
use Rattle.naga_ir.specs.declared.expression.Expression.{Expression}
use Rattle.naga_ir.specs.declared.module.Module as the_module
use Rattle.naga_ir.specs.declared.types.ArraySize.{ArraySize}
use Rattle.naga_ir.specs.declared.types.ArraySize.TheVariants as size
use Rattle.naga_ir.specs.declared.types.«Type».{«Type» as NamedType}
use Rattle.naga_ir.specs.declared.types.TypeInner.{TypeInner}
use Rattle.naga_ir.specs.declared.types.TypeInner.TheVariants as inner
use Rattle.naga_valid.specs.Declarations.{references_of_inner, references_of_type, pending_of}
use Rattle.naga_valid.specs.Expressions.{references_of_expression}
use Rattle.naga_valid.specs.Limits.{IsWithin}
use Rattle.naga_valid.specs.Places.{lengths, references_found, references_in}
use Rattle.naga_valid.specs.Valid.{HandlesAreValid, IsAfterInit, IsBeforeType, IsConstant, IsConstantExpression, RefersBefore, SizePrecedes, init_of_reference, init_of_size, override_of_size, size_of_type, type_of_reference, type_of_size}
use Rattle.naga_valid.specs.declared.reference.Reference.{Reference}
use Rattle.naga_valid.specs.declared.reference.Reference.TheVariants as reference
use Rattle.naga_valid.specs.declared.place.Place.TheVariants.{«Type», GlobalExpression}
use Rattle.naga_valid.proofs.ForSomeLemmas.{ForSome-and_then}
use Rattle.naga_compact.specs.Kept.{kept_elements}
use Rattle.naga_compact.specs.Module.Compaction.{RemovesElements, kept_handles}
use Rattle.naga_compact.specs.Module.Used.{AreUsed}
use Rattle.naga_compact.specs.Renaming.{Renaming, in_global, rename_reference}
use Rattle.naga_compact.specs.derived.Renaming.{rename_array_size, rename_expression, rename_type, rename_type_inner}
use Rattle.naga_compact.specs.Renaming.Renumbering.{renaming_of}
use Rattle.naga_compact.specs.declared.module.renumbering.ModuleRenumbering.{ModuleRenumbering}
use Rattle.naga_compact.specs.declared.module.roots.KeepUnused.{KeepUnused}
use Rattle.naga_compact.proofs.IsWithinRenamedLemmas.{rename_operand}
use Rattle.naga_compact.proofs.KeptElementsLemmas.{IsOrigin, IsOrigin-of}
use Rattle.naga_compact.proofs.RankLemmas.{rank-increases}
use Rattle.naga_compact.proofs.ReferenceRenamedLemmas.{IsAfterInit-renamed, IsBeforeType-renamed, IsConstant-renamed, IsKept-operand, element_of_kept, init_of_reference-kept, init_of_reference-renamed, option_and_then-exchanged, precedes-renamed, type_of_reference-kept, type_of_reference-renamed}
use Rattle.naga_compact.proofs.RemovesElementsLemmas.{each_left, references-removed, refers, value_at-kept, value_at-left}
use Rattle.naga_compact.proofs.RenamedPartsLemmas.{references_of_type-renamed}
use Rattle.naga_compact.proofs.derived_lemmas.RenamedVariantsLemmas.{references_of_expression-renamed}

-- ---- the override of a size

size-renamed : (r : Renaming) (x : ArraySize) → pending_of (rename_array_size r x) ≡ option_map r.overrides (pending_of x)
size-renamed r (size.Constant count) = refl
size-renamed r (size.Pending handle) = refl
size-renamed r size.Dynamic = refl

override_of_size-renamed : (r : Renaming) (x : TypeInner) → override_of_size (rename_type_inner r x) ≡ option_map r.overrides (override_of_size x)
override_of_size-renamed r (inner.Scalar scalar) = refl
override_of_size-renamed r (inner.Vector size scalar) = refl
override_of_size-renamed r (inner.Matrix columns rows scalar) = refl
override_of_size-renamed r (inner.CooperativeMatrix columns rows scalar role) = refl
override_of_size-renamed r (inner.Atomic scalar) = refl
override_of_size-renamed r (inner.Pointer base space) = refl
override_of_size-renamed r (inner.ValuePointer size scalar space) = refl
override_of_size-renamed r (inner.Array base x stride) = size-renamed r x
override_of_size-renamed r (inner.Struct members span) = refl
override_of_size-renamed r (inner.Image dim arrayed class) = refl
override_of_size-renamed r (inner.Sampler comparison) = refl
override_of_size-renamed r (inner.AccelerationStructure vertex_return) = refl
override_of_size-renamed r (inner.RayQuery vertex_return) = refl
override_of_size-renamed r (inner.BindingArray base x) = size-renamed r x

second_of : (ty handle : ℕ) (found : Option ℕ) → found ≡ Some handle → Contains (reference.«Type» ty ∷ option_to_list (option_map reference.Override found)) (reference.Override handle)
second_of ty handle found is =
    subst (λ o. Contains (reference.«Type» ty ∷ option_to_list (option_map reference.Override o)) (reference.Override handle)) (sym is) (1, omega arith, refl)

size_contained : (x : TypeInner) (handle : ℕ) → override_of_size x ≡ Some handle → Contains (references_of_inner x) (reference.Override handle)
size_contained (inner.Scalar scalar) handle is = absurd (none-some handle is)
size_contained (inner.Vector size scalar) handle is = absurd (none-some handle is)
size_contained (inner.Matrix columns rows scalar) handle is = absurd (none-some handle is)
size_contained (inner.CooperativeMatrix columns rows scalar role) handle is = absurd (none-some handle is)
size_contained (inner.Atomic scalar) handle is = absurd (none-some handle is)
size_contained (inner.Pointer base space) handle is = absurd (none-some handle is)
size_contained (inner.ValuePointer size scalar space) handle is = absurd (none-some handle is)
size_contained (inner.Array base x stride) handle is = second_of base handle (pending_of x) is
size_contained (inner.Struct members span) handle is = absurd (none-some handle is)
size_contained (inner.Image dim arrayed class) handle is = absurd (none-some handle is)
size_contained (inner.Sampler comparison) handle is = absurd (none-some handle is)
size_contained (inner.AccelerationStructure vertex_return) handle is = absurd (none-some handle is)
size_contained (inner.RayQuery vertex_return) handle is = absurd (none-some handle is)
size_contained (inner.BindingArray base x) handle is = second_of base handle (pending_of x) is

-- what is looked up after a handle is found, if it is what was looked up before, renamed
then-renamed : (before after : ℕ → Option ℕ) (on_handle on_value : ℕ → ℕ) (found : Option ℕ) → ((handle : ℕ) → found ≡ Some handle → after (on_handle handle) ≡ option_map on_value (before handle)) →
    option_and_then after (option_map on_handle found) ≡ option_map on_value (option_and_then before found)
then-renamed before after on_handle on_value None is = refl
then-renamed before after on_handle on_value (Some handle) is = is handle refl

module _ (whole new : the_module.Module) (keep_unused : KeepUnused) (kept : ModuleRenumbering) (used : AreUsed whole keep_unused (kept_handles kept)) (removed : RemovesElements kept whole new) (valid : HandlesAreValid whole) where
  abbrev r : Renaming
  r = renaming_of kept

  -- ---- the size of a type that is kept

  module _ (at : ℕ) (so : contains kept.types.members at ≡ true) where
    size_of_type-renamed : size_of_type new (r.types at) ≡ option_map r.overrides (size_of_type whole at)
    size_of_type-renamed =
        let type = value_at-kept references_of_type (rename_type r) (rename_reference r) (references_of_type-renamed r) kept.types whole.types new.types removed.types at (element_of_kept whole new keep_unused kept used removed valid (reference.«Type» at) so) so in
        ap (option_and_then (λ (type : NamedType). override_of_size type.inner)) type
        ∙ option_and_then-exchanged (rename_type r) r.overrides (λ (type : NamedType). override_of_size type.inner) (λ type. override_of_size-renamed r type.inner) (value_at whole.types at)

    size_of_type-kept : ForSome (size_of_type whole at) (λ handle. contains kept.overrides.members handle ≡ true)
    size_of_type-kept =
        ForSome-and_then (λ (type : NamedType). override_of_size type.inner) (value_at whole.types at) (λ handle. contains kept.overrides.members handle ≡ true)
        (λ type found handle size.
        let there : Contains (references_in whole («Type» at)) (reference.Override handle) =
        subst (λ v. Contains (references_found references_of_type v) (reference.Override handle)) (sym found) (size_contained type.inner handle size)
        in
        let within = All-contains (IsWithin (record (lengths whole) { types = at })) (references_in whole («Type» at)) (reference.Override handle) (valid.references («Type» at)) there in
        refers whole new keep_unused kept used removed valid (reference.«Type» at) so (reference.Override handle) there within)

    type_of_size-renamed : type_of_size new (r.types at) ≡ option_map r.types (type_of_size whole at)
    type_of_size-renamed =
        ap (option_and_then (λ handle. type_of_reference new (reference.Override handle))) size_of_type-renamed
        ∙ then-renamed (λ handle. type_of_reference whole (reference.Override handle)) (λ handle. type_of_reference new (reference.Override handle)) r.overrides r.types (size_of_type whole at)
        (λ handle is. type_of_reference-renamed whole new keep_unused kept used removed valid (reference.Override handle) (size_of_type-kept handle is))

    type_of_size-kept : ForSome (type_of_size whole at) (λ ty. contains kept.types.members ty ≡ true)
    type_of_size-kept =
        ForSome-and_then (λ handle. type_of_reference whole (reference.Override handle)) (size_of_type whole at) (λ ty. contains kept.types.members ty ≡ true)
        (λ handle is. type_of_reference-kept whole new keep_unused kept used removed valid (reference.Override handle) (size_of_type-kept handle is))

    init_of_size-renamed : init_of_size new (r.types at) ≡ option_map r.global_expressions (init_of_size whole at)
    init_of_size-renamed =
        ap (option_and_then (λ handle. init_of_reference new (reference.Override handle))) size_of_type-renamed
        ∙ then-renamed (λ handle. init_of_reference whole (reference.Override handle)) (λ handle. init_of_reference new (reference.Override handle)) r.overrides r.global_expressions (size_of_type whole at)
        (λ handle is. init_of_reference-renamed whole new keep_unused kept used removed valid (reference.Override handle) (size_of_type-kept handle is))

    init_of_size-kept : ForSome (init_of_size whole at) (λ init. contains kept.global_expressions.members init ≡ true)
    init_of_size-kept =
        ForSome-and_then (λ handle. init_of_reference whole (reference.Override handle)) (size_of_type whole at) (λ init. contains kept.global_expressions.members init ≡ true)
        (λ handle is. init_of_reference-kept whole new keep_unused kept used removed valid (reference.Override handle) (size_of_type-kept handle is))

  -- ---- global expressions

  -- what holds of no references, and of those of each global expression that is kept, holds of those of each that is
  -- left
  each_expression : (P : ℕ → List Reference → Type 0) → ((handle : ℕ) → P handle []) →
      ((at : ℕ) (x : Expression) → value_at whole.global_expressions at ≡ Some x → contains kept.global_expressions.members at ≡ true → P (r.global_expressions at) (map (rename_operand whole kept) (references_of_expression x))) →
      (handle : ℕ) → P handle (references_in new (GlobalExpression handle))
  each_expression =
      each_left references_of_expression (rename_expression (in_global r)) (rename_operand whole kept) (references_of_expression-renamed (in_global r))
      kept.global_expressions whole.global_expressions new.global_expressions removed.global_expressions

  IsConstantExpression-removed : (expression : ℕ) → IsConstantExpression new expression
  IsConstantExpression-removed =
      each_expression (λ handle references. All (λ to. IsConstant to × IsAfterInit new handle to) references)
      (λ handle. All-nil (λ to. IsConstant to × IsAfterInit new handle to))
      (λ at x found so.
      let before = subst (λ v. All (λ to. IsConstant to × IsAfterInit whole at to) (references_found references_of_expression v)) found (valid.expressions at) in
      All-map (λ to. IsConstant to × IsAfterInit new (r.global_expressions at) to) (rename_operand whole kept) (references_of_expression x)
      (λ k d inside. (
        IsConstant-renamed whole new keep_unused kept used removed valid _ (before k d inside).0,
        IsAfterInit-renamed whole new keep_unused kept used removed valid at _
            (IsKept-operand whole new keep_unused kept used removed valid at x found so _ (All-contains_itself (references_of_expression x) k d inside)) (before k d inside).1,
      )))

  -- an expression up to the init was one up to the old init
  up_to_init : (at before : ℕ) → contains kept.global_expressions.members before ≡ true → r.global_expressions at ≤ r.global_expressions before → at ≤ before
  up_to_init at before so within = elim (cases_lt before at) [
    | inl lt ↦ absurd (omega (arith, rank-increases (contains kept.global_expressions.members) before at so lt, within))
    | inr ge ↦ ge
  ]

  -- ---- sizes

  RefersBefore-removed : (ty : ℕ) → contains kept.types.members ty ≡ true → (init expression : ℕ) → init_of_size new (r.types ty) ≡ Some init → expression ≤ init → RefersBefore new (r.types ty) expression
  RefersBefore-removed ty so init expression is = by_init (init_of_size whole ty) refl
    where
      by_init : (found : Option ℕ) → init_of_size whole ty ≡ found → expression ≤ init → RefersBefore new (r.types ty) expression
      by_init None missing = λ within.
          absurd (none-some init (sym (init_of_size-renamed ty so ∙ ap (option_map r.global_expressions) missing) ∙ is))
      by_init (Some old) found =
          let renamed : r.global_expressions old ≡ init = same_Some (r.global_expressions old) init (sym (init_of_size-renamed ty so ∙ ap (option_map r.global_expressions) found) ∙ is) in
          each_expression (λ handle references. handle ≤ init → All (IsBeforeType new (r.types ty)) references)
          (λ handle within. All-nil (IsBeforeType new (r.types ty)))
          (λ at x at_expression at_so within.
          let early : at ≤ old = up_to_init at old (init_of_size-kept ty so old found) (omega (arith, within, renamed)) in
          let before = subst (λ v. All (IsBeforeType whole ty) (references_found references_of_expression v)) at_expression ((valid.sizes ty).init old at found early) in
          All-map (IsBeforeType new (r.types ty)) (rename_operand whole kept) (references_of_expression x)
          (λ k d inside.
          IsBeforeType-renamed whole new keep_unused kept used removed valid ty _
          (IsKept-operand whole new keep_unused kept used removed valid at x at_expression at_so _ (All-contains_itself (references_of_expression x) k d inside)) (before k d inside)))
          expression

  SizePrecedes-kept : (at : ℕ) → contains kept.types.members at ≡ true → SizePrecedes new (r.types at)
  SizePrecedes-kept at so = record {
    type = precedes-renamed kept.types at (type_of_size whole at) (type_of_size new (r.types at)) (type_of_size-renamed at so) (type_of_size-kept at so) (valid.sizes at).type;
    init = RefersBefore-removed at so;
  }

  -- there is no type with this handle
  SizePrecedes-none : (ty : ℕ) → value_at new.types ty ≡ None → SizePrecedes new ty
  SizePrecedes-none ty missing =
      let size : size_of_type new ty ≡ None = ap (option_and_then (λ (type : NamedType). override_of_size type.inner)) missing in record {
        type = λ other is. absurd (none-some other (sym (ap (option_and_then (λ handle. type_of_reference new (reference.Override handle))) size) ∙ is));
        init = λ init expression is. absurd (none-some init (sym (ap (option_and_then (λ handle. init_of_reference new (reference.Override handle))) size) ∙ is));
      }

  SizePrecedes-removed : (ty : ℕ) → SizePrecedes new ty
  SizePrecedes-removed ty = by_type (slice_get (kept_elements kept.types whole.types) ty) refl
    where
      by_type : (found : Option (NamedType × Span)) → slice_get (kept_elements kept.types whole.types) ty ≡ found → SizePrecedes new ty
      by_type None missing =
          SizePrecedes-none ty (value_at-left references_of_type (rename_type r) (rename_reference r) (references_of_type-renamed r) kept.types whole.types new.types removed.types ty None missing)
      by_type (Some entry) found =
          let origin : IsOrigin kept.types whole.types ty entry = IsOrigin-of kept.types whole.types ty entry found in
          subst (SizePrecedes new) (sym origin.renamed) (SizePrecedes-kept origin.at origin.so)

  pub HandlesAreValid-removed : HandlesAreValid new
  HandlesAreValid-removed = record {
    references = references-removed whole new keep_unused kept used removed valid;
    expressions = IsConstantExpression-removed;
    sizes = SizePrecedes-removed;
  }
