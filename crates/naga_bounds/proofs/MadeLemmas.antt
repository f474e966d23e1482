-- To which expression each entry of the new arena belongs, and where it is.
use Rattle.std.proofs.Common.{◌≡◌, ◌∙◌, ◌+◌, ap, arith, length, refl, sym, inl, inr, ◌⊎◌, take, ℕ, zero, suc, List, [], ◌∷◌, ◌++◌, Some}
use Rattle.std.specs.List.{slice_get, sum_by, zip}
use Rattle.naga_arena.specs.Arena.{value_at}
use Rattle.naga_arena.specs.declared.span.Span.{Span}
use Rattle.naga_ir.specs.declared.expression.Expression.{Expression}
use Rattle.naga_compact.specs.Renaming.{Renaming}
use Rattle.naga_bounds.specs.Restricted.{front_count, front_len, front_of, fronts, group, groups, moving, start_of, width, with_span}
use Rattle.naga_bounds.specs.declared.change.Change.{Change}
use Rattle.naga_bounds.proofs.NewHandlesLemmas.{entry-found, front_at, made, value-of}
use Rattle.naga_bounds.proofs.RestrictedLemmas.{fronts-length, group-width, in_group, sum-next}

-- an element of two lists is one of the first, or one of the second
get-cases : {X : Type 0} (xs ys : List X) (p : ℕ) (x : X) → slice_get (xs ++ ys) p ≡ Some x
    → (slice_get xs p ≡ Some x) ⊎ ((k : ℕ) × (p ≡ length xs + k) × (slice_get ys k ≡ Some x))
get-cases [] ys p x is = inr (p, omega arith, is)
get-cases (y ∷ xs) ys zero x is = inl is
get-cases (y ∷ xs) ys (suc p) x is = elim (get-cases xs ys p x is) [
  | inl first ↦ inl first
  | inr second ↦ inr (second.0, (let place = second.1 in omega (arith, place)), second.2)
]

spanned-is : (span : Span) (xs : List Expression) (k : ℕ) (entry : Expression × Span) → slice_get (with_span span xs) k ≡ Some entry → slice_get xs k ≡ Some entry.0
spanned-is span [] k entry is = absurd (cc)
spanned-is span (x ∷ xs) zero entry is = (let same : (x, span) ≡ entry = cc in ap (λ (e : Expression × Span). Some e.0) same)
spanned-is span (x ∷ xs) (suc k) entry is = spanned-is span xs k entry is

-- the expression is at the front for an entry
pub record StandsInFront (changes : List Change) (entries : List (Expression × Span)) (e : Expression) : Type 0 where
  pub handle : ℕ
  pub change : Change
  pub entry : Expression × Span
  pub at : slice_get changes handle ≡ Some change
  pub found : slice_get entries handle ≡ Some entry
  pub place : ℕ
  pub is : slice_get (front_of change) place ≡ Some e

fronts-is : (changes : List Change) (entries : List (Expression × Span)) (p : ℕ) (x : Expression × Span)
    → slice_get (fronts (zip changes entries)) p ≡ Some x → StandsInFront changes entries x.0
fronts-is [] entries p x is = absurd (cc)
fronts-is (change ∷ changes) [] p x is = absurd (cc)
fronts-is (change ∷ changes) (entry ∷ entries) p x is =
    elim (get-cases (with_span entry.1 (front_of change)) (fronts (zip changes entries)) p x is) [
      | inl first ↦ record {
        handle = 0;
        change = change;
        entry = entry;
        at = refl;
        found = refl;
        place = p;
        is = spanned-is entry.1 (front_of change) p x first;
      }
      | inr later ↦
          let rest = fronts-is changes entries later.0 x later.2 in
          record {
            handle = suc rest.handle;
            change = rest.change;
            entry = rest.entry;
            at = rest.at;
            found = rest.found;
            place = rest.place;
            is = rest.is;
          }
    ]

module _ (r : Renaming) where
  -- the expression is at this position, among what is in the place of an entry
  pub record StandsInPlace (changes : List Change) (entries : List (Expression × Span)) (front here p : ℕ) (e : Expression) : Type 0 where
    pub handle : ℕ
    pub change : Change
    pub entry : Expression × Span
    pub at : slice_get changes handle ≡ Some change
    pub found : slice_get entries handle ≡ Some entry
    pub front' : ℕ
    pub here' : ℕ
    pub front_is : front' ≡ front + sum_by front_count (take handle changes)
    pub here_is : here' ≡ here + sum_by width (take handle changes)
    pub place : ℕ
    pub there : p ≡ sum_by width (take handle changes) + place
    pub is : slice_get (in_group r change entry.0 front' here') place ≡ Some e

  groups-is : (changes : List Change) (entries : List (Expression × Span)) (front here p : ℕ) (x : Expression × Span)
      → slice_get (groups r (zip changes entries) front here) p ≡ Some x → StandsInPlace changes entries front here p x.0
  groups-is [] entries front here p x is = absurd (cc)
  groups-is (change ∷ changes) [] front here p x is = absurd (cc)
  groups-is (change ∷ changes) (entry ∷ entries) front here p x is =
      let first = group r (change, entry) front here in
      let wide = group-width r change entry front here in
      elim (get-cases first (groups r (zip changes entries) (front + front_count change) (here + length first)) p x is) [
        | inl inside ↦
            let fronts_are : sum_by front_count (take 0 (change ∷ changes)) ≡ 0 = refl in
            let widths_are : sum_by width (take 0 (change ∷ changes)) ≡ 0 = refl in
            record {
              handle = 0;
              change = change;
              entry = entry;
              at = refl;
              found = refl;
              front' = front;
              here' = here;
              front_is = omega (arith, fronts_are);
              here_is = omega (arith, widths_are);
              place = p;
              there = omega (arith, widths_are);
              is = spanned-is entry.1 (in_group r change entry.0 front here) p x inside;
            }
        | inr later ↦
            let rest = groups-is changes entries (front + front_count change) (here + length first) later.0 x later.2 in
            let fronts_are = sum-next front_count change changes rest.handle in
            let widths_are = sum-next width change changes rest.handle in
            let front_is = rest.front_is in
            let here_is = rest.here_is in
            let there = rest.there in
            let at = later.1 in
            record {
              handle = suc rest.handle;
              change = rest.change;
              entry = rest.entry;
              at = rest.at;
              found = rest.found;
              front' = rest.front';
              here' = rest.here';
              front_is = omega (arith, fronts_are, front_is);
              here_is = omega (arith, wide, widths_are, here_is);
              place = rest.place;
              there = omega (arith, wide, widths_are, there, at);
              is = rest.is;
            }
      ]

module _ (changes : List Change) (arena : List (Expression × Span)) (all : length changes ≡ length arena) where
  -- the expression is at the front for one with this handle
  pub record IsInFront (e : Expression) : Type 0 where
    pub handle : ℕ
    pub change : Change
    pub old : Expression
    pub at : slice_get changes handle ≡ Some change
    pub found : value_at arena handle ≡ Some old
    pub place : ℕ
    pub is : slice_get (front_of change) place ≡ Some e

  -- the expression is at this handle, among what is in the place of an old one
  pub record IsInPlace (p : ℕ) (e : Expression) : Type 0 where
    pub handle : ℕ
    pub change : Change
    pub old : Expression
    pub at : slice_get changes handle ≡ Some change
    pub found : value_at arena handle ≡ Some old
    pub place : ℕ
    pub there : p ≡ start_of changes handle + place
    pub is : slice_get (in_group (moving changes) change old (front_at changes arena all handle) (start_of changes handle)) place ≡ Some e

  pub made-is : (p : ℕ) (e : Expression) → value_at (made changes arena all) p ≡ Some e → IsInFront e ⊎ IsInPlace p e
  made-is p e is =
      let entry = entry-found (made changes arena all) p e is in
      elim (get-cases (fronts (zip changes arena)) (groups (moving changes) (zip changes arena) 0 (front_len changes)) p (e, entry.0) entry.1) [
        | inl first ↦
            let stands = fronts-is changes arena p (e, entry.0) first in
            inl (record {
              handle = stands.handle;
              change = stands.change;
              old = stands.entry.0;
              at = stands.at;
              found = value-of arena stands.handle stands.entry.0 stands.entry.1 stands.found;
              place = stands.place;
              is = stands.is;
            })
        | inr later ↦
            let stands = groups-is (moving changes) changes arena 0 (front_len changes) later.0 (e, entry.0) later.2 in
            let long = fronts-length (moving changes) changes arena all in
            let there = stands.there in
            let at = later.1 in
            let front_is : stands.front' ≡ front_at changes arena all stands.handle = (let so = stands.front_is in omega (arith, so)) in
            inr (record {
              handle = stands.handle;
              change = stands.change;
              old = stands.entry.0;
              at = stands.at;
              found = value-of arena stands.handle stands.entry.0 stands.entry.1 stands.found;
              place = stands.place;
              there = omega (arith, long, there, at);
              is = ap (λ (places : ℕ × ℕ). slice_get (in_group (moving changes) stands.change stands.entry.0 places.0 places.1) stands.place) (λ i. (sym front_is i, sym stands.here_is i)) ∙ stands.is;
            })
      ]
