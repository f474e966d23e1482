-- The values of the entries of an arena.
use Rattle.std.proofs.Common.{◌≡◌, ◌∙◌, ℕ, ◌+◌, List, [], ◌∷◌, ◌++◌, map, refl, sym, ap, subst}
use Rattle.std.proofs.lemmas.Simd.{map-map}
use Rattle.std.specs.List.{enumerate_from}
use Rattle.std.specs.Prelude.{◌≢◌, Result, OnOk, IfErr}
use Rattle.json.specs.Json.{Json}
use Rattle.json.specs.Token.{Token, begin_array}
use Rattle.naga_arena.specs.Arena.{values}
use Rattle.naga_arena.specs.declared.span.Span.{Span}
use Rattle.naga_json.specs.Arenas.{arena_value}
use Rattle.naga_json_write.specs.Appends.{append_json}
use Rattle.naga_json_write.specs.Lists.{AppendsItems, HasNoItems, IsArenaJson}
use Rattle.naga_json_write.specs.Writes.{Refuses}
use Rattle.naga_json_write.specs.declared.write_error.TryWriteError.{TryWriteError}
use Rattle.naga_json_write.specs.declared.write_error.TryWriteError.TheVariants.{Memory}
use Rattle.naga_json_write.proofs.ListsLemmas.{array_written, array_refused}

-- the values of the entries are the values
pub values_of_entries : {A : Type 0} (first : ℕ) (items : List A) → map (λ entry. entry.1) (enumerate_from first items) ≡ items
values_of_entries first [] = refl
values_of_entries first (item ∷ items) = ap (λ rest. item ∷ rest) (values_of_entries (first + 1) items)

-- the values of an arena with the value of each of its elements
pub values-arena_value : {A B : Type 0} (view : A → B) (arena : List (A × Span)) → values (arena_value view arena) ≡ map view (values arena)
values-arena_value view arena = simp map-map

module _ {A B : Type 0} (Writes : B → Json → Type 0) (view : A → B) (arena : List (A × Span)) (entries : List (ℕ × A)) where
  same_values : entries ≡ enumerate_from 0 (values arena) → map view (map (λ entry. entry.1) entries) ≡ values (arena_value view arena)
  same_values is =
      ap (λ items. map view (map {A = ℕ × A} {B = A} (λ entry. entry.1) items)) is
      ∙ ap (map view) (values_of_entries 0 (values arena))
      ∙ sym (values-arena_value view arena)

  -- after the beginning of an array, the JSONs of the entries and the end of an array are the JSON of the arena
  pub arena_written : {E : Type 0} (result : Result (Unit {0}) E) (old begun new : List Token) → entries ≡ enumerate_from 0 (values arena) → begun ≡ old ++ begin_array ∷ [] → OnOk result (AppendsItems Writes (map view (map (λ entry. entry.1) entries)) begun new) → OnOk result ((j : Json) × IsArenaJson Writes (arena_value view arena) j × (new ≡ append_json old j))
  arena_written result old begun new is begins items =
      array_written Writes (values (arena_value view arena)) result old begun new begins (subst (λ list. OnOk result (AppendsItems Writes list begun new)) (same_values is) items)

  -- where the entries have no JSONs, the arena has none
  pub arena_refused : (result : Result (Unit {0}) TryWriteError) → entries ≡ enumerate_from 0 (values arena) → IfErr result (λ error. error ≢ Memory → HasNoItems Writes (map view (map (λ entry. entry.1) entries))) → Refuses (IsArenaJson Writes (arena_value view arena)) result
  arena_refused result is refused =
      array_refused Writes (values (arena_value view arena)) result (subst (λ list. IfErr result (λ error. error ≢ Memory → HasNoItems Writes list)) (same_values is) refused)
