-- What is where in the arena of a function in which accesses are clamped.
use Rattle.std.proofs.Common.{◌≡◌, ◌∙◌, ◌+◌, ap, arith, length, length-append, refl, sym, take, ℕ, zero, suc, List, [], ◌∷◌, ◌++◌, Some}
use Rattle.std.proofs.lemmas.List.{length-map, length_push}
use Rattle.std.proofs.lemmas.List.Sums.{sum_by-cons}
use Rattle.std.proofs.lemmas.Option.{slice_get-map}
use Rattle.std.specs.List.{slice_get, sum_by, zip}
use Rattle.std.specs.Option.{option_map}
use Rattle.naga_arena.specs.declared.span.Span.{Span}
use Rattle.naga_ir.specs.declared.expression.Expression.{Expression}
use Rattle.naga_compact.specs.Renaming.{Renaming, unchanged}
use Rattle.naga_bounds.specs.Restricted.{changed, conversion, front_count, front_len, front_of, fronts, group, groups, inserted, last_index, minimum, operands, width, with_span}
use Rattle.naga_bounds.specs.declared.change.Change.{Change}
use Rattle.naga_bounds.specs.declared.change.Change.TheVariants.{Stays, Clamped}
use Rattle.naga_bounds.specs.declared.change.ClampedIndex.{ClampedIndex}
use Rattle.naga_bounds.specs.declared.change.ClampedIndex.TheVariants.{Constant, Unsigned, Converted}
use Rattle.naga_bounds.specs.declared.length.Length.{Length}
use Rattle.naga_bounds.specs.declared.length.Length.TheVariants.{Fixed, Overridden, Counted}

-- ---- elements of lists

pub get-left : {X : Type 0} (xs ys : List X) (k : ℕ) (x : X) → slice_get xs k ≡ Some x → slice_get (xs ++ ys) k ≡ Some x
get-left [] ys k x is = absurd (cc)
get-left (y ∷ xs) ys zero x is = is
get-left (y ∷ xs) ys (suc k) x is = get-left xs ys k x is

pub get-right : {X : Type 0} (xs ys : List X) (k p : ℕ) → p ≡ length xs + k → slice_get (xs ++ ys) p ≡ slice_get ys k
get-right [] ys k p is = let same : p ≡ k = omega arith in ap (slice_get ys) same
get-right (x ∷ xs) ys k p is =
    let next : p ≡ suc (length xs + k) = omega arith in
    ap (slice_get (x ∷ (xs ++ ys))) next ∙ get-right xs ys k (length xs + k) refl

pub sum-next : (f : Change → ℕ) (change : Change) (changes : List Change) (i : ℕ) → sum_by f (take (suc i) (change ∷ changes)) ≡ f change + sum_by f (take i changes)
sum-next f change changes i = sum_by-cons f change (take i changes)

-- ---- how much is inserted

operands-length : (r r' : Renaming) (long : Length) (index : ClampedIndex) (base front here front' here' : ℕ)
    → length (last_index r long base front here ++ conversion r index) ≡ length (last_index r' long base front' here' ++ conversion r' index)
operands-length r r' (Fixed count) (Constant number) base front here front' here' = refl
operands-length r r' (Fixed count) (Unsigned index) base front here front' here' = refl
operands-length r r' (Fixed count) (Converted index) base front here front' here' = refl
operands-length r r' (Overridden handle) (Constant number) base front here front' here' = refl
operands-length r r' (Overridden handle) (Unsigned index) base front here front' here' = refl
operands-length r r' (Overridden handle) (Converted index) base front here front' here' = refl
operands-length r r' Counted (Constant number) base front here front' here' = refl
operands-length r r' Counted (Unsigned index) base front here front' here' = refl
operands-length r r' Counted (Converted index) base front here front' here' = refl

module _ (r : Renaming) where
  pub inserted-width : (change : Change) (front here : ℕ) → length (inserted r change front here) + 1 ≡ width change
  inserted-width Stays front here = refl
  inserted-width (Clamped clamp) front here =
      ap (λ n. n + 1)
      (length_push (operands r clamp front here) (minimum r clamp front here)
      ∙ ap (λ n. n + 1) (operands-length r unchanged clamp.length clamp.index clamp.base _ _ _ _)
      ∙ sym (length_push (operands unchanged clamp 0 0) (minimum unchanged clamp 0 0)))

  pub group-width : (change : Change) (entry : Expression × Span) (front here : ℕ) → length (group r (change, entry) front here) ≡ width change
  group-width change entry front here =
      length-map (inserted r change front here ++ changed r change entry.0 front here ∷ []) (λ expression. (expression, entry.1))
      ∙ length_push (inserted r change front here) (changed r change entry.0 front here)
      ∙ inserted-width change front here

  -- ---- the lists of what is at the front, and of what is in the place of each entry

  pub spanned : (span : Span) (xs : List Expression) (k : ℕ) (e : Expression) → slice_get xs k ≡ Some e → slice_get (with_span span xs) k ≡ Some (e, span)
  spanned span xs k e is =
      slice_get-map (λ (expression : Expression). (expression, span)) xs k ∙ ap (option_map (λ (expression : Expression). (expression, span))) is

  pub fronts-length : (changes : List Change) (entries : List (Expression × Span)) → length changes ≡ length entries
      → length (fronts (zip changes entries)) ≡ front_len changes
  fronts-length [] entries all = refl
  fronts-length (change ∷ changes) [] all = absurd (omega arith)
  fronts-length (change ∷ changes) (entry ∷ entries) all =
      let first : length (with_span entry.1 (front_of change)) ≡ front_count change = length-map (front_of change) (λ expression. (expression, entry.1)) in
      let rest : length (fronts (zip changes entries)) ≡ front_len changes = fronts-length changes entries (omega arith) in
      length-append (with_span entry.1 (front_of change)) (fronts (zip changes entries))
      ∙ (λ i. first i + rest i) ∙ sym (sum_by-cons front_count change changes)

  pub fronts-found : (changes : List Change) (entries : List (Expression × Span)) (i k p : ℕ) (change : Change) (entry : Expression × Span) (e : Expression)
      → slice_get changes i ≡ Some change → slice_get entries i ≡ Some entry → slice_get (front_of change) k ≡ Some e
      → p ≡ sum_by front_count (take i changes) + k → slice_get (fronts (zip changes entries)) p ≡ Some (e, entry.1)
  fronts-found [] entries i k p change entry e at at' found is = absurd (cc)
  fronts-found (other ∷ changes) [] i k p change entry e at at' found is = absurd (cc)
  fronts-found (other ∷ changes) (other' ∷ entries) zero k p change entry e at at' found is =
      let same : other ≡ change = cc in
      let same' : other' ≡ entry = cc in
      let place : p ≡ k = omega (arith, is) in
      ap (slice_get (fronts (zip (other ∷ changes) (other' ∷ entries)))) place
      ∙ (λ i. slice_get (with_span (same' i).1 (front_of (same i)) ++ fronts (zip changes entries)) k)
      ∙ get-left (with_span entry.1 (front_of change)) (fronts (zip changes entries)) k (e, entry.1) (spanned entry.1 (front_of change) k e found)
  fronts-found (other ∷ changes) (other' ∷ entries) (suc i) k p change entry e at at' found is =
      let first : length (with_span other'.1 (front_of other)) ≡ front_count other = length-map (front_of other) (λ expression. (expression, other'.1)) in
      let sum = sum-next front_count other changes i in
      get-right (with_span other'.1 (front_of other)) (fronts (zip changes entries)) (sum_by front_count (take i changes) + k) p (omega (arith, first, sum, is))
      ∙ fronts-found changes entries i k (sum_by front_count (take i changes) + k) change entry e at at' found refl

  -- what is in the place of an entry, where what it has at the front and what is in its place begin there
  abbrev pub in_group : (change : Change) (e : Expression) (front here : ℕ) → List Expression
  in_group change e front here = inserted r change front here ++ changed r change e front here ∷ []

  pub groups-found : (changes : List Change) (entries : List (Expression × Span)) (i k p front here front' here' : ℕ) (change : Change) (entry : Expression × Span) (e : Expression)
      → slice_get changes i ≡ Some change → slice_get entries i ≡ Some entry
      → front' ≡ front + sum_by front_count (take i changes) → here' ≡ here + sum_by width (take i changes)
      → slice_get (in_group change entry.0 front' here') k ≡ Some e
      → p ≡ sum_by width (take i changes) + k → slice_get (groups r (zip changes entries) front here) p ≡ Some (e, entry.1)
  groups-found [] entries i k p front here front' here' change entry e at at' f h found is = absurd (cc)
  groups-found (other ∷ changes) [] i k p front here front' here' change entry e at at' f h found is = absurd (cc)
  groups-found (other ∷ changes) (other' ∷ entries) zero k p front here front' here' change entry e at at' f h found is =
      let same : other ≡ change = cc in
      let same' : other' ≡ entry = cc in
      let place : p ≡ k = omega (arith, is) in
      let front_is : front ≡ front' = omega (arith, f) in
      let here_is : here ≡ here' = omega (arith, h) in
      let rest = groups r (zip changes entries) (front + front_count other) (here + length (group r (other, other') front here)) in
      (λ i. slice_get (group r (same i, same' i) (front_is i) (here_is i) ++ rest) (place i))
      ∙ get-left (group r (change, entry) front' here') rest k (e, entry.1) (spanned entry.1 (in_group change entry.0 front' here') k e found)
  groups-found (other ∷ changes) (other' ∷ entries) (suc i) k p front here front' here' change entry e at at' f h found is =
      let first = group-width other other' front here in
      let fronts_are = sum-next front_count other changes i in
      let widths_are = sum-next width other changes i in
      get-right (group r (other, other') front here) (groups r (zip changes entries) (front + front_count other) (here + length (group r (other, other') front here)))
      (sum_by width (take i changes) + k) p (omega (arith, first, widths_are, is))
      ∙ groups-found changes entries i k (sum_by width (take i changes) + k) (front + front_count other) (here + length (group r (other, other') front here)) front' here' change entry e at at'
      (omega (arith, fronts_are, f)) (omega (arith, first, widths_are, h)) found refl
