-- The new arena, entry by entry.
use Rattle.std.proofs.Common.{◌≡◌, ◌∙◌, ◌+◌, ◌-◌, ◌<◌, ◌≤◌, ℕ, zero, suc, List, [], ◌∷◌, ◌++◌, Some, ap, arith, drop, get_or, length, refl, subst, sym, take}
use Rattle.std.proofs.lemmas.List.{append_assoc, flat_map_more, length-append, length-drop, length-map, take_more}
use Rattle.std.proofs.lemmas.List.Concat.{flat_map-cons}
use Rattle.std.proofs.lemmas.List.Folds.{length-flat_map-take}
use Rattle.std.proofs.lemmas.Option.{get_or_from_slice_get}
use Rattle.std.proofs.lemmas.Slice.Zip.{get_or-zip}
use Rattle.std.proofs.lemmas.List.FromFn.{length-enumerate_from}
use Rattle.std.proofs.lemmas.List.Sums.{sum_by-cons, sum_by_more, sum_by_more_le}
use Rattle.std.specs.List.{enumerate_from, sum_by, zip}
use Rattle.std.specs.Prelude.{slice_get}
use Rattle.naga_arena.specs.Arena.{span_at}
use Rattle.naga_arena.specs.Span.{undefined}
use Rattle.naga_arena.specs.declared.span.Span.{Span}
use Rattle.naga_arena.proofs.ZipLemmas.{length-zip_equal}
use Rattle.naga_ir.specs.declared.expression.Expression.{Expression}
use Rattle.naga_compact.specs.Renaming.{Renaming}
use Rattle.naga_bounds.specs.Restricted.{front_count, front_len, front_of, fronts, group, groups, new_len, start_of, width, with_span}
use Rattle.naga_bounds.proofs.EnumeratedLemmas.{IsStep, enumerated-next}
use Rattle.naga_bounds.proofs.StartsLemmas.{start_of-le, start_of-next}
use Rattle.naga_flow.proofs.JumpsLemmas.{drop-here}
use Rattle.naga_bounds.specs.declared.change.Change.{Change}
use Rattle.naga_bounds.specs.declared.change.Change.TheVariants.{Stays, Clamped}
use Rattle.naga_bounds.specs.declared.change.ClampedIndex.{ClampedIndex}
use Rattle.naga_bounds.specs.declared.change.ClampedIndex.TheVariants.{Constant, Unsigned, Converted}
use Rattle.naga_bounds.specs.declared.length.Length.{Length}
use Rattle.naga_bounds.specs.declared.length.Length.TheVariants.{Fixed, Overridden, Counted}

module _ (r : Renaming) (expression : Expression) (span : Span) (front here : ℕ) where
  clamp_length : (long : Length) (base : ℕ) (index : ClampedIndex)
      → let change = Clamped (record { length = long; base = base; index = index }) in
      length (group r (change, (expression, span)) front here) ≡ width change
  clamp_length (Fixed count) base (Constant number) = refl
  clamp_length (Fixed count) base (Unsigned index) = refl
  clamp_length (Fixed count) base (Converted index) = refl
  clamp_length (Overridden handle) base (Constant number) = refl
  clamp_length (Overridden handle) base (Unsigned index) = refl
  clamp_length (Overridden handle) base (Converted index) = refl
  clamp_length Counted base (Constant number) = refl
  clamp_length Counted base (Unsigned index) = refl
  clamp_length Counted base (Converted index) = refl

  -- a change says how many entries are in the place of one
  pub length-group : (change : Change) → length (group r (change, (expression, span)) front here) ≡ width change
  length-group Stays = refl
  length-group (Clamped clamp) = clamp_length clamp.length clamp.base clamp.index

module _ (r : Renaming) (total : List (Expression × Span)) where
  -- one more entry
  pub groups-next : (entries new : List (Expression × Span)) (change : Change) (rest : List Change)
      (entry : Expression × Span) (others : List (Expression × Span)) (front : ℕ)
      → entries ++ groups r (zip (change ∷ rest) (entry ∷ others)) front (length entries) ≡ total
      → new ≡ entries ++ group r (change, entry) front (length entries)
      → new ++ groups r (zip rest others) (front + front_count change) (length new) ≡ total
  groups-next entries new change rest entry others front before is =
      let here = group r (change, entry) front (length entries) in
      let past : length new ≡ length entries + length here = ap length is ∙ length-append entries here in
      (λ i. is i ++ groups r (zip rest others) (front + front_count change) (past i))
      ∙ append_assoc entries here (groups r (zip rest others) (front + front_count change) (length entries + length here))
      ∙ before

-- the span of an entry
span_at-get_or : (old : List (Expression × Span)) (index : ℕ) (expression : Expression)
    → span_at old index ≡ (get_or old index (expression, undefined)).1
span_at-get_or [] zero expression = refl
span_at-get_or [] (suc index) expression = refl
span_at-get_or (entry ∷ rest) zero expression = refl
span_at-get_or (entry ∷ rest) (suc index) expression = span_at-get_or rest index expression

-- the front of one more entry
pub fronts-next : (start entries new : List (Expression × Span)) (changes : List Change) (old : List (Expression × Span))
    (index : ℕ) (change : Change) (expression : Expression) → index < length changes → length changes ≡ length old
    → slice_get changes index ≡ Some change → entries ≡ start ++ fronts (take index (zip changes old))
    → new ≡ entries ++ with_span (span_at old index) (front_of change)
    → new ≡ start ++ fronts (take (index + 1) (zip changes old))
fronts-next start entries new changes old index change expression within same at before is =
    let entry : Change × (Expression × Span) = (change, (expression, undefined)) in
    let found = get_or (zip changes old) index entry in
    let pair : found ≡ (get_or changes index change, get_or old index (expression, undefined)) =
    get_or-zip changes old index entry within (omega (arith, within, same)) in
    let one : with_span (span_at old index) (front_of change) ≡ with_span found.1.1 (front_of found.0) =
    λ i. with_span ((span_at-get_or old index expression ∙ ap (λ p. p.1.1) (sym pair)) i)
    (front_of ((sym (get_or_from_slice_get changes index change change at) ∙ ap (λ p. p.0) (sym pair)) i)) in
    let inside : index < length (zip changes old) = omega (arith, within, length-zip_equal changes old (sym same)) in
    is
    ∙ (λ i. before i ++ one i)
    ∙ flat_map_more (λ (some : Change × (Expression × Span)). with_span some.1.1 (front_of some.0)) start (take index (zip changes old)) found
    ∙ ap (λ some. start ++ fronts some) (sym (take_more (zip changes old) index entry inside))

-- how many entries are at the front
pub fronts-length : (changes : List Change) (old : List (Expression × Span)) → length changes ≡ length old
    → length (fronts (zip changes old)) ≡ front_len changes
fronts-length [] old same = refl
fronts-length (change ∷ changes) [] same = absurd (omega (arith, same))
fronts-length (change ∷ changes) (entry ∷ old) same =
    let rest = fronts-length changes old (omega (arith, same)) in
    let one = length-map {B = Expression × Span} (front_of change) (λ (expression : Expression). (expression, entry.1)) in
    let both = length-append (with_span entry.1 (front_of change)) (fronts (zip changes old)) in
    let long : fronts (zip (change ∷ changes) (entry ∷ old)) ≡ with_span entry.1 (front_of change) ++ fronts (zip changes old) =
    flat_map-cons (λ (some : Change × (Expression × Span)). with_span some.1.1 (front_of some.0)) (change, entry) (zip changes old) in
    omega (arith, rest, one, both, ap length long, sum_by-cons front_count change changes)

-- there is memory for the front of one more entry
pub fronts-room : (start entries : List (Expression × Span)) (changes : List Change) (old : List (Expression × Span))
    (index : ℕ) (change : Change) (expression : Expression) → index < length changes → length changes ≡ length old
    → slice_get changes index ≡ Some change → entries ≡ start ++ fronts (take index (zip changes old))
    → length entries + front_count change ≤ length start + front_len changes
fronts-room start entries changes old index change expression within same at before =
    let entry : Change × (Expression × Span) = (change, (expression, undefined)) in
    let found : Change × (Expression × Span) = get_or (zip changes old) index entry in
    let f : Change × (Expression × Span) → List (Expression × Span) = λ some. with_span some.1.1 (front_of some.0) in
    let pair : found ≡ (get_or changes index change, get_or old index (expression, undefined)) =
    get_or-zip changes old index entry within (omega (arith, within, same)) in
    let inside : index < length (zip changes old) = omega (arith, within, length-zip_equal changes old (sym same)) in
    let part = length-flat_map-take f (zip changes old) index entry inside in
    let here : length (f found) ≡ front_count change =
    length-map {B = Expression × Span} (front_of found.0) (λ (some : Expression). (some, found.1.1))
    ∙ ap front_count (ap (λ p. p.0) pair ∙ get_or_from_slice_get changes index change change at) in
    let whole = fronts-length changes old same in
    let long : length entries ≡ length start + length (fronts (take index (zip changes old))) =
    ap length before ∙ length-append start (fronts (take index (zip changes old))) in
    omega (arith, part, here, whole, long)

-- ---- the places of all entries

-- the entries up to the position have been moved, and what is left is still to be appended to reach the total
module _ (r : Renaming) (plan : List Change) (old : List (Expression × Span)) (total : List (Expression × Span)) where
  pub record IsMovedTo (position : ℕ) (left : List (ℕ × (Expression × Span))) (entries : List (Expression × Span)) (front : ℕ) : Type 0 where
    pub rest : left ≡ enumerate_from position (drop position old)
    pub done : entries ++ groups r (zip (drop position plan) (drop position old)) front (length entries) ≡ total
    pub len : length entries ≡ start_of plan position
    pub fronts : front ≡ sum_by front_count (take position plan)

  module _ (all : length plan ≡ length old) (position : ℕ) (left : List (ℕ × (Expression × Span))) (entries : List (Expression × Span)) (front : ℕ)
      (before : IsMovedTo position left entries front) (item : ℕ × (Expression × Span)) (others : List (ℕ × (Expression × Span)))
      (steps : left ≡ item ∷ others) (change : Change) (at : slice_get plan item.0 ≡ Some change) where
    step : IsStep old position item others
    step = enumerated-next old position item others (sym before.rest ∙ steps)

    here : change ≡ get_or plan position change
    here = sym (get_or_from_slice_get plan position change change (ap (slice_get plan) (sym step.handle) ∙ at))

    inside : position < length plan
    inside = omega (arith, step.within, all)

    pub moved-within : start_of plan position + width change ≤ new_len plan
    moved-within = let more = start_of-next plan position change inside here in let less = start_of-le plan (position + 1) in omega (arith, more, less)

    pub moved-front : front + front_count change ≤ front_len plan
    moved-front =
        let more = sum_by_more_le front_count plan position change inside in
        let same : front_count (get_or plan position change) ≡ front_count change = ap front_count (sym here) in
        omega (arith, more, same, before.fronts)

    pub moved-position : length old - length others ≡ position + 1
    moved-position =
        let long = ap length step.others in
        let counted = length-enumerate_from (position + 1) (drop (position + 1) old) in
        omega (arith, long, counted, length-drop (position + 1) old, step.within)

    pub moved-next : (new : List (Expression × Span)) → new ≡ entries ++ group r (change, item.1) front (length entries)
        → IsMovedTo (position + 1) others new (front + front_count change)
    moved-next new is =
        let begins : drop position plan ≡ change ∷ drop (position + 1) plan = drop-here plan position change inside here in
        let so : entries ++ groups r (zip (change ∷ drop (position + 1) plan) (item.1 ∷ drop (position + 1) old)) front (length entries) ≡ total =
        (λ i. entries ++ groups r (zip (sym begins i) (sym step.here i)) front (length entries)) ∙ before.done in
        let long : length new ≡ length entries + length (group r (change, item.1) front (length entries)) = ap length is ∙ length-append entries _ in
        let wide = length-group r item.1.0 item.1.1 front (length entries) change in
        let more = start_of-next plan position change inside here in
        let sum = sum_by_more front_count plan position change inside in
        let same : front_count (get_or plan position change) ≡ front_count change = ap front_count (sym here) in
        record {
          rest = step.others;
          done = groups-next r total entries new change (drop (position + 1) plan) item.1 (drop (position + 1) old) front so is;
          len = omega (arith, long, wide, more, before.len);
          fronts = omega (arith, sum, same, before.fronts);
        }

-- before the first entry, all of them are left
pub moved-none : (r : Renaming) (plan : List Change) (old : List (Expression × Span)) (start : List (Expression × Span))
    → length start ≡ front_len plan → (left : List (ℕ × (Expression × Span))) → left ≡ enumerate_from 0 old
    → IsMovedTo r plan old (start ++ groups r (zip plan old) 0 (front_len plan)) (length old - length left) left start 0
moved-none r plan old start front left is =
    let long : length left ≡ length old = ap length is ∙ length-enumerate_from 0 old in
    let none : 0 ≡ length old - length left = omega (arith, long) in
    subst (λ position. IsMovedTo r plan old (start ++ groups r (zip plan old) 0 (front_len plan)) position left start 0) none record {
      rest = is;
      done = ap (λ here. start ++ groups r (zip plan old) 0 here) front;
      len = omega (arith, front);
      fronts = refl;
    }
