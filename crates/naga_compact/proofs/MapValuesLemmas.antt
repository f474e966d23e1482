-- Arenas and maps whose values are replaced one after another.
use Rattle.std.proofs.Common.{◌≡◌, ◌∙◌, sym, ap, subst, ℕ, zero, suc, ◌+◌, add-one, ◌<◌, List, [], ◌∷◌, map, length, get_or, slice_get, Some, arith}
use Rattle.indexmap.specs.IndexMap.{IndexMap, values, with_entries, with_value_at, set_value_at}
use Rattle.naga_arena.specs.Arena.{span_at, value_at, with_value}
use Rattle.naga_arena.specs.declared.span.Span.{Span}
use Rattle.naga_compact.specs.Renaming.{Renaming}
use Rattle.naga_compact.specs.Renaming.Functions.{map_value}
use Rattle.naga_compact.specs.Renaming.Types.{rename_value}
use Rattle.naga_compact.proofs.MappedListLemmas.{mapped_to, mapped_more, mapped_none}

-- ---- arenas

pub entry_read : {X : Type 0} → (arena : List (X × Span)) (k : ℕ) (x : X) (d : X × Span) → value_at arena k ≡ Some x → (x, span_at arena k) ≡ get_or arena k d
entry_read [] k x d found = cc
entry_read (e ∷ arena) zero x d found = let same : e.0 ≡ x = cc in ap (λ v. (v, e.1)) (sym same)
entry_read (e ∷ arena) (suc k) x d found = entry_read arena k x d found

pub with_value-mapped : {X : Type 0} → (f : X → X) (k j : ℕ) (old now : List (X × Span)) (x y : X) → j ≡ k → now ≡ mapped_to (map_value f) k old → k < length old → value_at now j ≡ Some x → y ≡ f x →
    with_value now j y ≡ mapped_to (map_value f) (k + 1) old
with_value-mapped f k j old now x y here so inside found value =
    let found' : value_at now k ≡ Some x = subst (λ i. value_at now i ≡ Some x) here found in
    ap (λ i. with_value now i y) here
    ∙ mapped_more (map_value f) k old now (x, span_at now k) (y, span_at now k) so inside (entry_read now k x (x, span_at now k) found') (ap (λ v. (v, span_at now k)) value)

-- ---- maps

module _ (r : Renaming) where
  set_value-mapped : {K : Type 0} → (entries : List (K × ℕ)) (k x y : ℕ) → k < length entries → slice_get (map (λ (e : K × ℕ). e.1) (mapped_to (rename_value r) k entries)) k ≡ Some x → y ≡ r.types x →
      set_value_at (mapped_to (rename_value r) k entries) k y ≡ mapped_to (rename_value r) (suc k) entries
  set_value-mapped [] k x y inside found value = absurd (omega arith)
  set_value-mapped (e ∷ entries) zero x y inside found value =
      let same : e.1 ≡ x = cc in
      ap (λ v. (e.0, v) ∷ entries) (value ∙ ap r.types (sym same)) ∙ ap (λ rest. rename_value r e ∷ rest) (mapped_none (rename_value r) entries)
  set_value-mapped (e ∷ entries) (suc k) x y inside found value =
      ap (λ rest. rename_value r e ∷ rest) (set_value-mapped entries k x y (omega arith) found value)

  pub with_value_at-mapped : {K S : Type 0} → (old now : IndexMap K ℕ S) (k x y : ℕ) → now ≡ with_entries old (mapped_to (rename_value r) k old.entries) → k < length old.entries →
      slice_get (values now) k ≡ Some x → y ≡ r.types x → with_value_at now k y ≡ with_entries old (mapped_to (rename_value r) (k + 1) old.entries)
  with_value_at-mapped old now k x y so inside found value =
      rw (add-one, so) (ap (with_entries old) (set_value-mapped old.entries k x y inside (rw so at found) value))
