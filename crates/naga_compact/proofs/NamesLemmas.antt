-- The names of the elements of an arena that are kept.
use Rattle.std.proofs.Common.{◌≡◌, ◌∙◌, sym, ap, subst, refl, inl, inr, ℕ, ◌+◌, List, [], ◌∷◌, map, Bool, Option, None, Some}
use Rattle.std.proofs.lemmas.Simd.{map-map}
use Rattle.std.specs.FinSet.{contains}
use Rattle.std.specs.Prelude.{option_to_list}
use Rattle.std.specs.declared.alloc.Global.{Global}
use Rattle.std.specs.declared.boxed.Box.{Box}
use Rattle.naga_ir.specs.declared.module.DocComments.{DocComments}
use Rattle.naga_ir.specs.declared.module.EntryPoint.{EntryPoint}
use Rattle.naga_ir.specs.declared.module.Function.{Function}
use Rattle.naga_ir.specs.declared.module.Module.{Module}
use Rattle.std.proofs.lemmas.Bool.{cases_Bool}
use Rattle.std.specs.List.{AllZip}
use Rattle.naga_arena.specs.Arena.{values}
use Rattle.naga_arena.specs.declared.span.Span.{Span}
use Rattle.naga_compact.specs.Kept.{kept_elements}
use Rattle.naga_compact.specs.Module.Compaction.{CompactsModule, HasCompactedFunction, IsCompactedFunction, RenamesComments}
use Rattle.naga_compact.specs.Renaming.Functions.{IsRenamedEntryPoint, IsRenamedFunction, map_values}
use Rattle.naga_compact.specs.Renaming.Renumbering.{renaming_of}
use Rattle.naga_compact.specs.declared.module.renumbering.ModuleRenumbering.{ModuleRenumbering}
use Rattle.naga_compact.specs.declared.module.roots.KeepUnused.{KeepUnused}
use Rattle.naga_compact.proofs.KeptElementsLemmas.{kept_from}

module _ {X Y : Type 0} (name : X → Y) where
  -- values are replaced by values of the same names
  pub names-mapped : (f : X → X) → ((x : X) → name (f x) ≡ name x) → (xs : List (X × Span)) → map name (values (map_values f xs)) ≡ map name (values xs)
  names-mapped f same [] = refl
  names-mapped f same (entry ∷ xs) = λ i. same entry.0 i ∷ names-mapped f same xs i

  -- elements are related to elements of the same names
  pub mapped-zipped : (R : X → X → Type 0) → ((x y : X) → R x y → name y ≡ name x) → (xs ys : List X) → AllZip R xs ys → map name ys ≡ map name xs
  mapped-zipped R same [] [] all = refl
  mapped-zipped R same [] (y ∷ ys) all = absurd all
  mapped-zipped R same (x ∷ xs) [] all = absurd all
  mapped-zipped R same (x ∷ xs) (y ∷ ys) all = λ i. same x y all.0 i ∷ mapped-zipped R same xs ys all.1 i

-- values are related to values of the same names
names-zipped : {X Y : Type 0} (name : X → Y) (R : X × Span → X × Span → Type 0) → ((x y : X × Span) → R x y → name y.0 ≡ name x.0) → (xs ys : List (X × Span)) → AllZip R xs ys → map name (values ys) ≡ map name (values xs)
names-zipped {X} name R same xs ys all =
    map-map name (λ (entry : X × Span). entry.0) ys
    ∙ (mapped-zipped (λ (entry : X × Span). name entry.0) R same xs ys all ∙ sym (map-map name (λ (entry : X × Span). entry.0) xs))

-- of two lists that are related one by one, those that are kept are related
pub kept_from-zipped : {X : Type 0} (kept : ℕ → Bool) (R : X → X → Type 0) (n : ℕ) (xs ys : List X) → AllZip R xs ys → AllZip R (kept_from kept n xs) (kept_from kept n ys)
kept_from-zipped kept R n [] [] all = all
kept_from-zipped kept R n [] (y ∷ ys) all = absurd all
kept_from-zipped kept R n (x ∷ xs) [] all = absurd all
kept_from-zipped kept R n (x ∷ xs) (y ∷ ys) all = elim (cases_Bool (kept n)) [
  | inl so ↦ rw so (all.0, kept_from-zipped kept R (n + 1) xs ys all.1)
  | inr so ↦ rw so (kept_from-zipped kept R (n + 1) xs ys all.1)
]

module _ (old new : Module) (keep_unused : KeepUnused) (kept : ModuleRenumbering) (h : CompactsModule old keep_unused kept new) where
  pub names-of_functions : map (λ (declared : Function). declared.name) (values new.functions) ≡ map (λ (declared : Function). declared.name) (values (kept_elements kept.functions old.functions))
  names-of_functions =
      names-zipped (λ (declared : Function). declared.name) (λ before after. IsRenamedFunction (renaming_of kept) before.0 after.0 × (after.1 ≡ before.1))
      (λ x y is. ap (λ (declared : Function). declared.name) is.0.outside)
      (kept_elements kept.functions h.middle.functions) new.functions h.removed.functions
      ∙ names-zipped (λ (declared : Function). declared.name) (λ before after. IsCompactedFunction before.0 after.0 × (after.1 ≡ before.1))
      (λ x y is. is.0.1.name)
      (kept_elements kept.functions old.functions) (kept_elements kept.functions h.middle.functions)
      (kept_from-zipped (contains kept.functions.members) (λ before after. IsCompactedFunction before.0 after.0 × (after.1 ≡ before.1)) 0 old.functions h.middle.functions h.functions.functions)

  pub names-of_entry_points : map (λ (entry : EntryPoint). entry.name) new.entry_points.items ≡ map (λ (entry : EntryPoint). entry.name) old.entry_points.items
  names-of_entry_points =
      mapped-zipped (λ (entry : EntryPoint). entry.name) (IsRenamedEntryPoint (renaming_of kept)) (λ x y is. ap (λ (entry : EntryPoint). entry.name) is.outside) h.middle.entry_points.items new.entry_points.items h.removed.entry_points
      ∙ mapped-zipped (λ (entry : EntryPoint). entry.name) HasCompactedFunction (λ x y is. ap (λ (entry : EntryPoint). entry.name) is.0) old.entry_points.items h.middle.entry_points.items h.functions.entry_points

  pub comments-of : AllZip (λ before after. (after.value.«module» ≡ before.value.«module») × (after.value.entry_points ≡ before.value.entry_points)) (option_to_list old.doc_comments) (option_to_list new.doc_comments)
  comments-of =
      subst (λ (whole : Module). AllZip (λ before after. (after.value.«module» ≡ before.value.«module») × (after.value.entry_points ≡ before.value.entry_points)) (option_to_list whole.doc_comments) (option_to_list new.doc_comments)) h.functions.outside
      (of_both h.middle.doc_comments new.doc_comments h.removed.doc_comments)
    where
      of_both : (before after : Option (Box DocComments Global)) → AllZip (λ b a. RenamesComments kept b.value a.value) (option_to_list before) (option_to_list after) → AllZip (λ b a. (a.value.«module» ≡ b.value.«module») × (a.value.entry_points ≡ b.value.entry_points)) (option_to_list before) (option_to_list after)
      of_both None None all = all
      of_both None (Some a) all = absurd all
      of_both (Some b) None all = absurd all
      of_both (Some b) (Some a) all = ((all.0.module_comments, all.0.entry_points), all.1)
