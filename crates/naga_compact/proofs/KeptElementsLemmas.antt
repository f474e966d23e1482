-- The elements of an arena that are kept, place by place.
use Rattle.std.proofs.Common.{◌≡◌, ◌∙◌, sym, ap, subst, refl, inl, inr, ℕ, zero, suc, ◌+◌, ◌<◌, List, [], ◌∷◌, map, length, Bool, true, false, Option, Some, None, arith, ◌++◌, filter, cond}
use Rattle.std.proofs.lemmas.Bool.{cases_Bool}
use Rattle.std.proofs.lemmas.Option.{none-some, slice_get-get_or, slice_get-map, slice_get_within}
use Rattle.std.specs.FinSet.{contains}
use Rattle.std.specs.List.{enumerate_from}
use Rattle.std.specs.Option.{option_map}
use Rattle.std.specs.Prelude.{slice_get, if◌then◌else◌}
use Rattle.naga_arena.specs.Arena.{value_at, Retains, kept_entry}
use Rattle.naga_arena.specs.declared.span.Span.{Span}
use Rattle.naga_sets.specs.HandleSet.{BoundedSet}
use Rattle.naga_compact.specs.Kept.{new_index, rank}
use Rattle.naga_compact.specs.Kept.{kept_elements}
use Rattle.naga_compact.proofs.RankLemmas.{rank-increases, rank-injective, rank-no, rank-yes, rank-zero}

module _ {X : Type 0} (kept : ℕ → Bool) where
  -- the elements that are kept, if the first of the list has the index `n`
  abbrev pub kept_from : ℕ → List X → List X
  kept_from n xs = map (λ (entry : ℕ × X). entry.1) (filter (λ (entry : ℕ × X). kept entry.0) (enumerate_from n xs))

  pub kept_from-yes : (n : ℕ) (x : X) (rest : List X) → kept n ≡ true → kept_from n (x ∷ rest) ≡ x ∷ kept_from (n + 1) rest
  kept_from-yes n x rest so = rw so refl

  pub kept_from-no : (n : ℕ) (x : X) (rest : List X) → kept n ≡ false → kept_from n (x ∷ rest) ≡ kept_from (n + 1) rest
  kept_from-no n x rest so = rw so refl

  count_from : (n : ℕ) (xs : List X) → rank kept n + length (kept_from n xs) ≡ rank kept (n + length xs)
  count_from n [] =
      let here : n + 0 ≡ n = omega arith in
      omega (arith, ap (rank kept) here)
  count_from n (x ∷ rest) =
      let next : n + length (x ∷ rest) ≡ n + 1 + length rest = omega arith in
      let same = ap (rank kept) next in
      elim (cases_Bool (kept n)) [
        | inl so ↦ omega (arith, ap length (kept_from-yes n x rest so), rank-yes kept n so, count_from (n + 1) rest, same)
        | inr so ↦ omega (arith, ap length (kept_from-no n x rest so), rank-no kept n so, count_from (n + 1) rest, same)
      ]

  -- the element at position `i` of those that are kept is the one with the index `n + at`
  record IsKept (n i : ℕ) (xs : List X) (x : X) : Type 0 where
    at : ℕ
    found : slice_get xs at ≡ Some x
    so : kept (n + at) ≡ true
    ranked : rank kept n + i ≡ rank kept (n + at)

  IsKept-first : (n : ℕ) (x y : X) (rest : List X) → Some x ≡ Some y → kept n ≡ true → IsKept n 0 (x ∷ rest) y
  IsKept-first n x y rest found so =
      let here : n ≡ n + 0 = omega arith in record {
        at = 0;
        found = found;
        so = sym (ap kept here) ∙ so;
        ranked = omega (arith, ap (rank kept) here);
      }

  IsKept-later : (n i j : ℕ) (x y : X) (rest : List X) → rank kept n + j ≡ rank kept (n + 1) + i → IsKept (n + 1) i rest y → IsKept n j (x ∷ rest) y
  IsKept-later n i j x y rest same later =
      let next : n + suc later.at ≡ n + 1 + later.at = omega arith in record {
        at = suc later.at;
        found = later.found;
        so = ap kept next ∙ later.so;
        ranked = same ∙ (later.ranked ∙ sym (ap (rank kept) next));
      }

  IsKept-of : (n i : ℕ) (xs : List X) (y : X) → slice_get (kept_from n xs) i ≡ Some y → IsKept n i xs y
  IsKept-of n zero [] y found = absurd (none-some y found)
  IsKept-of n (suc i) [] y found = absurd (none-some y found)
  IsKept-of n zero (x ∷ rest) y found = elim (cases_Bool (kept n)) [
    | inl so ↦ IsKept-first n x y rest (subst (λ zs. slice_get zs 0 ≡ Some y) (kept_from-yes n x rest so) found) so
    | inr so ↦
        IsKept-later n 0 0 x y rest (omega (arith, rank-no kept n so))
        (IsKept-of (n + 1) 0 rest y (subst (λ zs. slice_get zs 0 ≡ Some y) (kept_from-no n x rest so) found))
  ]
  IsKept-of n (suc i) (x ∷ rest) y found = elim (cases_Bool (kept n)) [
    | inl so ↦
        IsKept-later n i (suc i) x y rest (omega (arith, rank-yes kept n so))
        (IsKept-of (n + 1) i rest y (subst (λ zs. slice_get zs (suc i) ≡ Some y) (kept_from-yes n x rest so) found))
    | inr so ↦
        IsKept-later n (suc i) (suc i) x y rest (omega (arith, rank-no kept n so))
        (IsKept-of (n + 1) (suc i) rest y (subst (λ zs. slice_get zs (suc i) ≡ Some y) (kept_from-no n x rest so) found))
  ]

-- the element with the new handle `handle` had the handle `at`
pub record IsOrigin {X : Type 0} (kept : BoundedSet) (arena : List (X × Span)) (handle : ℕ) (entry : X × Span) : Type 0 where
  pub at : ℕ
  pub found : slice_get arena at ≡ Some entry
  pub so : contains kept.members at ≡ true
  pub renamed : handle ≡ new_index kept at

module _ {X : Type 0} (kept : BoundedSet) (arena : List (X × Span)) where
  -- as many elements are left as are kept
  pub length-kept_elements : length (kept_elements kept arena) ≡ new_index kept (length arena)
  length-kept_elements =
      let none : 0 + length arena ≡ length arena = omega arith in
      omega (arith, count_from (contains kept.members) 0 arena, rank-zero (contains kept.members), ap (new_index kept) none)

  pub IsOrigin-of : (handle : ℕ) (entry : X × Span) → slice_get (kept_elements kept arena) handle ≡ Some entry → IsOrigin kept arena handle entry
  IsOrigin-of handle entry found =
      let origin = IsKept-of (contains kept.members) 0 handle arena entry found in
      let none : 0 + origin.at ≡ origin.at = omega arith in record {
        at = origin.at;
        found = origin.found;
        so = ap (contains kept.members) (sym none) ∙ origin.so;
        renamed = omega (arith, origin.ranked, rank-zero (contains kept.members), ap (new_index kept) none);
      }

  -- an element that is kept has its new handle
  pub kept_elements-found : (at : ℕ) (entry : X × Span) → slice_get arena at ≡ Some entry → contains kept.members at ≡ true → slice_get (kept_elements kept arena) (new_index kept at) ≡ Some entry
  kept_elements-found at entry found so =
      let before : at < length arena = slice_get_within arena at entry found in
      let within : new_index kept at < length (kept_elements kept arena) =
      omega (arith, length-kept_elements, rank-increases (contains kept.members) at (length arena) so before)
      in
      let there = slice_get-get_or (kept_elements kept arena) (new_index kept at) entry within in
      let origin = IsOrigin-of (new_index kept at) _ there in
      let same : at ≡ origin.at = rank-injective (contains kept.members) at origin.at so origin.so origin.renamed in
      there ∙ (sym origin.found ∙ (ap (slice_get arena) (sym same) ∙ found))

-- the value of an entry that is found
pub value_at-found : {X : Type 0} (arena : List (X × Span)) (handle : ℕ) (found : Option (X × Span)) → slice_get arena handle ≡ found → value_at arena handle ≡ option_map (λ entry. entry.0) found
value_at-found arena handle found is =
    slice_get-map (λ entry. entry.0) arena handle ∙ ap (option_map (λ entry. entry.0)) is

-- ---- what `retain_mut` leaves

module _ {X P : Type 0} (step : P → ℕ → X → Option X → P → Type 0) (kept : BoundedSet) (Same : P → Type 0) where
  element_left : (b : Bool) (h : ℕ) (element : X × Span) (rest : List (ℕ × (X × Span))) → kept_entry (if b then Some element.0 else None) element.1 ++ map (λ entry. entry.1) rest ≡ map (λ entry. entry.1) (cond b ((h, element) ∷ rest) rest)
  element_left true h element rest = refl
  element_left false h element rest = refl

  -- what calls that keep their state leave, where each gives back the value of an element that is kept
  elements_left : ((p : P) (h : ℕ) (x : X) (a : Option X) (q : P) → Same p → step p h x a q → (a ≡ (if contains kept.members h then Some x else None)) × Same q) → (p : P) → Same p → (entries : List (ℕ × (X × Span))) (out : List (X × Span)) → Retains step p entries out → out ≡ map (λ entry. entry.1) (filter (λ entry. contains kept.members entry.0) entries)
  elements_left says p same [] out is = is
  elements_left says p same (entry ∷ rest) out (answer, next, called, later, is, more) =
      let said : (answer ≡ (if contains kept.members entry.0 then Some entry.1.0 else None)) × Same next = says p entry.0 entry.1.0 answer next same called in
      is
      ∙ ap (λ a. kept_entry a entry.1.1 ++ later) said.0
      ∙ ap (λ xs. kept_entry (if contains kept.members entry.0 then Some entry.1.0 else None) entry.1.1 ++ xs) (elements_left says next said.1 rest later more)
      ∙ element_left (contains kept.members entry.0) entry.0 entry.1 (filter (λ e. contains kept.members e.0) rest)

  pub kept_elements-Retains : ((p : P) (h : ℕ) (x : X) (a : Option X) (q : P) → Same p → step p h x a q → (a ≡ (if contains kept.members h then Some x else None)) × Same q) → (p : P) → Same p → (arena out : List (X × Span)) → Retains step p (enumerate_from 0 arena) out → out ≡ kept_elements kept arena
  kept_elements-Retains says p same arena out = elements_left says p same (enumerate_from 0 arena) out
