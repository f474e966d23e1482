-- The new handles of expressions where accesses are clamped, and what is found there.
use Rattle.std.proofs.Common.{◌≡◌, ◌∙◌, ◌+◌, ◌-◌, ◌<◌, ◌≤◌, ap, arith, get_or, length, refl, take, ℕ, zero, suc, List, [], ◌∷◌, ◌++◌, Some, inl, inr}
use Rattle.std.proofs.lemmas.Bool.{cases_lt}
use Rattle.std.proofs.lemmas.List.{length-map}
use Rattle.std.proofs.lemmas.List.Sums.{sum_by_more}
use Rattle.std.proofs.lemmas.Option.{get_or_from_slice_get, slice_get-get_or, slice_get-map, slice_get_within}
use Rattle.std.specs.List.{slice_get, sum_by, zip}
use Rattle.std.specs.Option.{option_map}
use Rattle.naga_arena.specs.Arena.{value_at, values}
use Rattle.naga_arena.specs.declared.span.Span.{Span}
use Rattle.naga_ir.specs.declared.expression.Expression.{Expression}
use Rattle.naga_compact.specs.Renaming.{Renaming}
use Rattle.naga_bounds.specs.Restricted.{changed, front_count, front_len, front_of, fronts, groups, inserted, moving, new_of, start_of, width}
use Rattle.naga_bounds.specs.declared.change.Change.{Change}
use Rattle.naga_bounds.specs.declared.change.Change.TheVariants.{Stays}
use Rattle.naga_bounds.proofs.RestrictedLemmas.{fronts-found, fronts-length, get-left, get-right, groups-found, in_group, inserted-width}

pub entry-found : (arena : List (Expression × Span)) (i : ℕ) (e : Expression) → value_at arena i ≡ Some e → (span : Span) × (slice_get arena i ≡ Some (e, span))
entry-found [] i e is = absurd (cc)
entry-found (entry ∷ arena) zero e is = let same : entry.0 ≡ e = cc in (entry.1, λ i. Some (same i, entry.1))
entry-found (entry ∷ arena) (suc i) e is = entry-found arena i e is

pub value-of : (arena : List (Expression × Span)) (i : ℕ) (e : Expression) (span : Span) → slice_get arena i ≡ Some (e, span) → value_at arena i ≡ Some e
value-of arena i e span is = slice_get-map (λ (p : Expression × Span). p.0) arena i ∙ ap (option_map (λ (p : Expression × Span). p.0)) is

pub value-within : (arena : List (Expression × Span)) (i : ℕ) (e : Expression) → value_at arena i ≡ Some e → i < length arena
value-within arena i e is =
    let same : length (values arena) ≡ length arena = length-map arena (λ (p : Expression × Span). p.0) in
    let within = slice_get_within (values arena) i e is in
    omega (arith, same, within)

pub value-there : (arena : List (Expression × Span)) (i : ℕ) → i < length arena → (e : Expression) × (value_at arena i ≡ Some e)
value-there [] i within = absurd (omega (arith, within))
value-there (entry ∷ arena) zero within = (entry.0, refl)
value-there (entry ∷ arena) (suc i) within = value-there arena i (omega (arith, within))

module _ (changes : List Change) where
  pub change-there : (i : ℕ) → i < length changes → slice_get changes i ≡ Some (get_or changes i Stays)
  change-there i within = slice_get-get_or changes i Stays within

  pub start-next : (i : ℕ) (change : Change) → slice_get changes i ≡ Some change → start_of changes (i + 1) ≡ start_of changes i + width change
  start-next i change at =
      let within = slice_get_within changes i change at in
      let sum = sum_by_more width changes i change within in
      let same : width (get_or changes i change) ≡ width change = ap width (get_or_from_slice_get changes i change change at) in
      omega (arith, sum, same)

  start-grows : (more x : ℕ) → x + more ≤ length changes → start_of changes x + more ≤ start_of changes (x + more)
  start-grows zero x within =
      let same : x ≡ x + 0 = omega arith in
      let starts : start_of changes x ≡ start_of changes (x + 0) = ap (start_of changes) same in
      omega (arith, starts)
  start-grows (suc more) x within =
      let last : x + more < length changes = omega (arith, within) in
      let next = start-next (x + more) (get_or changes (x + more) Stays) (change-there (x + more) last) in
      let rest = start-grows more x (omega (arith, within)) in
      let same : (x + more) + 1 ≡ x + suc more = omega arith in
      let starts : start_of changes ((x + more) + 1) ≡ start_of changes (x + suc more) = ap (start_of changes) same in
      omega (arith, next, rest, starts)

  pub start-rises : (x y : ℕ) → x ≤ y → y ≤ length changes → start_of changes x + (y - x) ≤ start_of changes y
  start-rises x y before within =
      let whole : x + (y - x) ≡ y = omega (arith, before) in
      let grows = start-grows (y - x) x (omega (arith, before, within)) in
      let starts : start_of changes (x + (y - x)) ≡ start_of changes y = ap (start_of changes) whole in
      omega (arith, grows, starts)

  pub new-next : (x : ℕ) → x < length changes → new_of changes x + 1 ≡ start_of changes (x + 1)
  new-next x within =
      let rises = start-rises x (x + 1) (omega arith) (omega (arith, within)) in
      omega (arith, rises)

  pub new-grows : (x y : ℕ) → x < y → y < length changes → new_of changes x < new_of changes y
  new-grows x y before within =
      let first = new-next x (omega (arith, before, within)) in
      let second = new-next y within in
      let rises = start-rises (x + 1) (y + 1) (omega (arith, before)) (omega (arith, within)) in
      omega (arith, first, second, rises, before)

  pub new-distinct : (x y : ℕ) → x < length changes → y < length changes → new_of changes x ≡ new_of changes y → x ≡ y
  new-distinct x y within within' same = elim (cases_lt x y) [
    | inl before ↦ absurd (let grows = new-grows x y before within' in omega (arith, same, grows))
    | inr behind ↦ elim (cases_lt y x) [
      | inl before ↦ absurd (let grows = new-grows y x before within in omega (arith, same, grows))
      | inr also ↦ omega (arith, behind, also)
    ]
  ]

module _ (changes : List Change) (arena : List (Expression × Span)) (all : length changes ≡ length arena) where
  abbrev pub r : Renaming
  r = moving changes

  -- the new arena
  abbrev pub made : List (Expression × Span)
  made = fronts (zip changes arena) ++ groups r (zip changes arena) 0 (front_len changes)

  -- where what an expression has at the front begins
  abbrev pub front_at : ℕ → ℕ
  front_at i = sum_by front_count (take i changes)

  module _ (i : ℕ) (change : Change) (e : Expression) (at : slice_get changes i ≡ Some change) (found : value_at arena i ≡ Some e) where
    pub front-found : (k p : ℕ) (x : Expression) → p ≡ front_at i + k → slice_get (front_of change) k ≡ Some x → value_at made p ≡ Some x
    front-found k p x place is =
        let entry = entry-found arena i e found in
        value-of made p x entry.0
        (get-left (fronts (zip changes arena)) (groups r (zip changes arena) 0 (front_len changes)) p (x, entry.0)
        (fronts-found r changes arena i k p change (e, entry.0) x at entry.1 is place))

    pub group-found : (k p : ℕ) (x : Expression) → p ≡ start_of changes i + k → slice_get (in_group r change e (front_at i) (start_of changes i)) k ≡ Some x → value_at made p ≡ Some x
    group-found k p x place is =
        let entry = entry-found arena i e found in
        let long = fronts-length r changes arena all in
        value-of made p x entry.0
        (get-right (fronts (zip changes arena)) (groups r (zip changes arena) 0 (front_len changes)) (sum_by width (take i changes) + k) p (omega (arith, long, place))
        ∙ groups-found r changes arena i k (sum_by width (take i changes) + k) 0 (front_len changes) (front_at i) (start_of changes i) change (e, entry.0) x at entry.1
        (omega arith) refl is refl)

    pub new-is : new_of changes i ≡ start_of changes i + length (inserted r change (front_at i) (start_of changes i))
    new-is =
        let next = start-next changes i change at in
        let wide = inserted-width r change (front_at i) (start_of changes i) in
        omega (arith, next, wide)

    pub new-found : value_at made (new_of changes i) ≡ Some (changed r change e (front_at i) (start_of changes i))
    new-found =
        group-found (length (inserted r change (front_at i) (start_of changes i))) (new_of changes i) (changed r change e (front_at i) (start_of changes i)) new-is
        (get-right (inserted r change (front_at i) (start_of changes i)) (changed r change e (front_at i) (start_of changes i) ∷ []) 0
        (length (inserted r change (front_at i) (start_of changes i))) (omega arith))
