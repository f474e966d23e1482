-- The types that are kept, renamed: no two of them are equal if no two were equal before.
use Rattle.std.proofs.Common.{◌≡◌, ◌∙◌, sym, ap, subst, refl, inl, inr, ℕ, suc, ◌+◌, ◌<◌, List, [], ◌∷◌, ◌++◌, map, length, Bool, true, false, ◌||◌, Some, None, arith, true≢false}
use Rattle.std.proofs.lemmas.Bool.{cases_Bool, false_from_ne_true}
use Rattle.std.proofs.lemmas.List.Elements.{All-contains}
use Rattle.std.proofs.lemmas.Map.Keys.{IsDistinct-cons, IsDistinct-head, IsDistinct-tail}
use Rattle.std.specs.FinSet.{contains}
use Rattle.std.specs.List.{AllByRecursion, Contains, IsDistinct, filter, list_any}
use Rattle.std.specs.Prelude.{slice_get}
use Rattle.naga_arena.proofs.PositionLemmas.{position-absent}
use Rattle.naga_arena.specs.Arena.{handle_of, value_at, values}
use Rattle.naga_arena.specs.declared.span.Span.{Span}
use Rattle.naga_ir.proofs.TypeOfLemmas.{type_of-decides}
use Rattle.naga_ir.specs.declared.module.Module as the_module
use Rattle.naga_ir.specs.contracts.types.TypePartialEq.TheImpl as type_eq
use Rattle.naga_ir.specs.declared.types.«Type».{«Type» as NamedType}
use Rattle.naga_valid.specs.Declarations.{references_of_type}
use Rattle.naga_valid.specs.Limits.{IsWithin}
use Rattle.naga_valid.specs.Places.{lengths, references_found, references_in}
use Rattle.naga_valid.specs.Valid.{HandlesAreValid}
use Rattle.naga_valid.specs.declared.reference.Reference.{Reference}
use Rattle.naga_valid.specs.declared.reference.Reference.TheVariants as reference
use Rattle.naga_valid.specs.declared.place.Place.TheVariants as place
use Rattle.naga_compact.specs.Kept.{kept_elements}
use Rattle.naga_compact.specs.Module.Compaction.{IsKeptBelow, TypesAreClosed, kept_handles}
use Rattle.naga_compact.specs.Module.Used.{AreUsed}
use Rattle.naga_compact.specs.Renaming.{Renaming}
use Rattle.naga_compact.specs.Renaming.Functions.{map_values}
use Rattle.naga_compact.specs.Renaming.Renumbering.{renaming_of}
use Rattle.naga_compact.specs.derived.Renaming.{rename_type}
use Rattle.naga_compact.specs.declared.module.renumbering.ModuleRenumbering.{ModuleRenumbering}
use Rattle.naga_compact.specs.declared.module.roots.KeepUnused.{KeepUnused}
use Rattle.naga_compact.proofs.IsUsedLemmas.{AreUsed-refers}
use Rattle.naga_compact.proofs.KeptElementsLemmas.{kept_from, kept_from-no, kept_from-yes, value_at-found}
use Rattle.naga_compact.proofs.TypeOfRenamedLemmas.{AreKept, equal_before}

-- ---- a type that is equal to none before it

differs_at : {X : Type 0} (P : X → Type 0) (xs : List X) (x : X) (later : List X) → AllByRecursion P (xs ++ x ∷ later) → P x
differs_at P [] x later all = all.0
differs_at P (y ∷ xs) x later all = differs_at P xs x later all.1

differs-symmetric : (x y : NamedType) → type_eq.ghosts.eq x y ≡ false → type_eq.ghosts.eq y x ≡ false
differs-symmetric x y differs =
    false_from_ne_true (type_eq.ghosts.eq y x) (λ same.
    true≢false (sym ((type_of-decides x y).1 (sym ((type_of-decides y x).0 same))) ∙ differs))

none_equal : (xs : List NamedType) (x : NamedType) (later : List NamedType) → IsDistinct type_eq.ghosts.eq (xs ++ x ∷ later) → list_any (type_eq.ghosts.eq x) xs ≡ false
none_equal [] x later distinct = refl
none_equal (y ∷ xs) x later distinct =
    let here = differs-symmetric y x (differs_at (λ z. type_eq.ghosts.eq y z ≡ false) xs x later (IsDistinct-head type_eq.ghosts.eq y (xs ++ x ∷ later) distinct)) in
    let rest = none_equal xs x later (IsDistinct-tail type_eq.ghosts.eq y (xs ++ x ∷ later) distinct) in
    λ i. here i || rest i

values-append : {X : Type 0} (xs ys : List (X × Span)) → values (xs ++ ys) ≡ values xs ++ values ys
values-append [] ys = refl
values-append (x ∷ xs) ys = ap (λ rest. x.0 ∷ rest) (values-append xs ys)

-- the next type of an arena of different types is not among those before it
pub handle_of-next : (arena types later : List (NamedType × Span)) (ty : NamedType) (span : Span) → IsDistinct type_eq.ghosts.eq (values arena) → arena ≡ types ++ (ty, span) ∷ later → handle_of type_eq.ghosts.eq types ty ≡ None
handle_of-next arena types later ty span distinct is =
    position-absent (type_eq.ghosts.eq ty) (values types)
    (none_equal (values types) ty (values later)
    (subst (IsDistinct type_eq.ghosts.eq) (ap values is ∙ values-append types ((ty, span) ∷ later)) distinct))

-- ---- the types that are kept

module _ (kept : ModuleRenumbering) where
  abbrev r : Renaming
  r = renaming_of kept

  abbrev is_kept : ℕ → Bool
  is_kept = contains kept.types.members

  abbrev renamed_from : ℕ → List (NamedType × Span) → List (NamedType × Span)
  renamed_from n types = map_values (rename_type r) (kept_from is_kept n types)

  -- the types that are kept of those that are left, each with its index
  abbrev pub renamed_rest : List (ℕ × (NamedType × Span)) → List (NamedType × Span)
  renamed_rest rest =
      map_values (rename_type r) (map (λ (entry : ℕ × (NamedType × Span)). entry.1) (filter (λ (entry : ℕ × (NamedType × Span)). is_kept entry.0) rest))

  pub renamed_rest-yes : (handle : ℕ) (ty : NamedType) (span : Span) (rest : List (ℕ × (NamedType × Span))) → is_kept handle ≡ true → renamed_rest ((handle, (ty, span)) ∷ rest) ≡ (rename_type r ty, span) ∷ renamed_rest rest
  renamed_rest-yes handle ty span rest so = rw so refl

  pub renamed_rest-no : (handle : ℕ) (ty : NamedType) (span : Span) (rest : List (ℕ × (NamedType × Span))) → is_kept handle ≡ false → renamed_rest ((handle, (ty, span)) ∷ rest) ≡ renamed_rest rest
  renamed_rest-no handle ty span rest so = rw so refl

  -- what a type refers to is kept, if the type is; the first type of the list has the index `n`
  abbrev AreClosedFrom : ℕ → List (NamedType × Span) → Type 0
  AreClosedFrom n types = (k : ℕ) (entry : NamedType × Span) → slice_get types k ≡ Some entry → is_kept (n + k) ≡ true → AreKept kept (references_of_type entry.0)

  AreClosedFrom-first : (n : ℕ) (entry : NamedType × Span) (types : List (NamedType × Span)) → AreClosedFrom n (entry ∷ types) → is_kept n ≡ true → AreKept kept (references_of_type entry.0)
  AreClosedFrom-first n entry types closed so =
      let here : n + 0 ≡ n = omega arith in
      closed 0 entry refl (ap is_kept here ∙ so)

  AreClosedFrom-rest : (n : ℕ) (entry : NamedType × Span) (types : List (NamedType × Span)) → AreClosedFrom n (entry ∷ types) → AreClosedFrom (n + 1) types
  AreClosedFrom-rest n entry types closed k later found so =
      let next : n + suc k ≡ n + 1 + k = omega arith in
      closed (suc k) later found (ap is_kept next ∙ so)

  -- a kept type differs from all later ones
  apart : (ty : NamedType) → AreKept kept (references_of_type ty) → (n : ℕ) (types : List (NamedType × Span)) → AreClosedFrom n types → AllByRecursion (λ other. type_eq.ghosts.eq ty other ≡ false) (values types) → AllByRecursion (λ other. type_eq.ghosts.eq (rename_type r ty) other ≡ false) (values (renamed_from n types))
  apart ty ty-kept n [] closed all = tt
  apart ty ty-kept n (entry ∷ types) closed all =
      let later = apart ty ty-kept (n + 1) types (AreClosedFrom-rest n entry types closed) all.1 in
      elim (cases_Bool (is_kept n)) [
        | inl so ↦
            let here : type_eq.ghosts.eq (rename_type r ty) (rename_type r entry.0) ≡ false =
            false_from_ne_true (type_eq.ghosts.eq (rename_type r ty) (rename_type r entry.0)) (λ same.
            true≢false (sym (equal_before kept ty entry.0 ty-kept (AreClosedFrom-first n entry types closed so) same) ∙ all.0))
            in
            subst (λ xs. AllByRecursion (λ other. type_eq.ghosts.eq (rename_type r ty) other ≡ false) (values (map_values (rename_type r) xs))) (sym (kept_from-yes is_kept n entry types so)) (here, later)
        | inr so ↦
            subst (λ xs. AllByRecursion (λ other. type_eq.ghosts.eq (rename_type r ty) other ≡ false) (values (map_values (rename_type r) xs))) (sym (kept_from-no is_kept n entry types so)) later
      ]

  distinct_from : (n : ℕ) (types : List (NamedType × Span)) → AreClosedFrom n types → IsDistinct type_eq.ghosts.eq (values types) → IsDistinct type_eq.ghosts.eq (values (renamed_from n types))
  distinct_from n [] closed distinct = distinct
  distinct_from n (entry ∷ types) closed distinct =
      let rest = AreClosedFrom-rest n entry types closed in
      let later = distinct_from (n + 1) types rest (IsDistinct-tail type_eq.ghosts.eq entry.0 (values types) distinct) in
      elim (cases_Bool (is_kept n)) [
        | inl so ↦
            let all = apart entry.0 (AreClosedFrom-first n entry types closed so) (n + 1) types rest (IsDistinct-head type_eq.ghosts.eq entry.0 (values types) distinct) in
            subst (λ xs. IsDistinct type_eq.ghosts.eq (values (map_values (rename_type r) xs))) (sym (kept_from-yes is_kept n entry types so))
            (IsDistinct-cons type_eq.ghosts.eq (rename_type r entry.0) (values (renamed_from (n + 1) types)) all later)
        | inr so ↦
            subst (λ xs. IsDistinct type_eq.ghosts.eq (values (map_values (rename_type r) xs))) (sym (kept_from-no is_kept n entry types so)) later
      ]

  pub distinct_types : (types : List (NamedType × Span)) → TypesAreClosed kept types → IsDistinct type_eq.ghosts.eq (values types) → IsDistinct type_eq.ghosts.eq (values (map_values (rename_type r) (kept_elements kept.types types)))
  distinct_types types closed distinct =
      distinct_from 0 types (λ k entry found so n inside.
      let none : 0 + k ≡ k = omega arith in
      closed k n (ap is_kept (sym none) ∙ so) (subst (λ v. Contains (references_found references_of_type v) n) (sym (value_at-found types k (Some entry) found)) inside)) distinct

-- the types and overrides to which used types refer are used
module _ (whole : the_module.Module) (keep_unused : KeepUnused) (kept : ModuleRenumbering) (used : AreUsed whole keep_unused (kept_handles kept)) (valid : HandlesAreValid whole) where
  pub TypesAreClosed-of : TypesAreClosed kept whole.types
  TypesAreClosed-of handle n so inside =
      by n inside (All-contains (IsWithin (record (lengths whole) { types = handle })) (references_in whole (place.«Type» handle)) n (valid.references (place.«Type» handle)) inside)
    where
      before : handle < length whole.types
      before = ((used.members (reference.«Type» handle)).0 so).0

      by : (n : Reference) → Contains (references_found references_of_type (value_at whole.types handle)) n → IsWithin (record (lengths whole) { types = handle }) n → IsKeptBelow kept n
      by (reference.«Type» h) inside within =
          let element : h < length whole.types = omega (arith, before, within) in
          (AreUsed-refers whole keep_unused (kept_handles kept) (reference.«Type» handle) (reference.«Type» h) used so inside element, omega (arith, element, used.bounds.types))
      by (reference.Override h) inside within =
          (AreUsed-refers whole keep_unused (kept_handles kept) (reference.«Type» handle) (reference.Override h) used so inside within, omega (arith, within, used.bounds.overrides))
      by _ inside within = tt
