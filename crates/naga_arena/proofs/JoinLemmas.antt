-- The join of spans as a least upper bound, and totals.
use Rattle.std.proofs.Common.{◌≡◌, ◌≤◌, ℕ, zero, suc, max, Bool, true, false, List, [], ◌∷◌, refl, ap, sym, ◌∙◌, arith}
use Rattle.std.specs.Prelude.{min, nat_le, ◌&&◌, ◌||◌, if◌then◌else◌}
use Rattle.std.proofs.lemmas.Grind.{common_steps}
use Rattle.std.proofs.lemmas.List.Sorted.{All-permutation, IsPermutation-sym}
use Rattle.std.specs.List.{fold, All, slice_index_or}
use Rattle.std.specs.List.Sorted.{IsPermutation}
use Rattle.naga_arena.specs.Span.{undefined, is_defined, join, total}
use Rattle.naga_arena.specs.declared.span.Span.{Span}

pub join_assoc : (r s t : Span) → join (join r s) t ≡ join r (join s t)
join_assoc r s t = grind (arith, common_steps)

pub join_comm : (s t : Span) → join s t ≡ join t s
join_comm s t = grind (arith, common_steps)

pub join_self : (s : Span) → join s s ≡ s
join_self s = grind (arith, common_steps)

pub undefined-join : (s : Span) → join undefined s ≡ s
undefined-join s = refl

pub join-undefined : (s : Span) → join s undefined ≡ s
join-undefined s = grind (arith, common_steps)

-- joining the spans of a list to a span, one after another, joins their total to it
pub fold-join : (s : Span) (spans : List Span) → fold join s spans ≡ join s (total spans)
fold-join s [] = sym (join-undefined s)
fold-join s (t ∷ spans) = fold-join (join s t) spans ∙ join_assoc s t (total spans)

-- a span that covers each span of a list covers their total
pub total-join : (spans : List Span) (cover : Span) → All (λ s. join s cover ≡ cover) spans → join (total spans) cover ≡ cover
total-join [] cover covered = refl
total-join (s ∷ spans) cover covered =
    let rest = total-join spans cover (λ i d h. covered (suc i) d (omega arith)) in
    join_assoc s (total spans) cover ∙ (ap (join s) rest ∙ covered 0 s (omega arith))

-- the total covers each span
pub join-total : (spans : List Span) → All (λ s. join s (total spans) ≡ total spans) spans
join-total [] i d h = absurd (omega arith)
join-total (s ∷ spans) zero d h = sym (join_assoc s s (total spans)) ∙ ap (λ t. join t (total spans)) (join_self s)
join-total (s ∷ spans) (suc i) d h =
    let t = slice_index_or spans i d in
    let rest = join-total spans i d (omega arith) in
    sym (join_assoc t s (total spans)) ∙ (ap (λ u. join u (total spans)) (join_comm t s) ∙ (join_assoc s t (total spans) ∙ ap (join s) rest))

-- the total does not depend on the order of the spans
pub total-IsPermutation : (spans others : List Span) → IsPermutation spans others → total spans ≡ total others
total-IsPermutation spans others moved =
    let covered = All-permutation (λ s. join s (total others) ≡ total others) others spans (IsPermutation-sym spans others moved) (join-total others) in
    let covers = All-permutation (λ s. join s (total spans) ≡ total spans) spans others moved (join-total spans) in
    sym (total-join others (total spans) covers) ∙ (join_comm (total others) (total spans) ∙ total-join spans (total others) covered)

-- ---- the join by parts: the least start (`top` if there is none), the greatest end, and whether any span is defined

abbrev pub Parts : Type 0
Parts = ℕ × ℕ × Bool

module _ (top : ℕ) where
  abbrev parts : Span → Parts
  parts s = if is_defined s then (s.start, s.end, true) else (top, 0, false)

  -- the span with these parts
  abbrev pub told : Parts → Span
  told p = if p.2 then record { start = p.0; «end» = p.1 } else undefined

  -- the parts after one more span
  abbrev pub widened : Parts → Span → Parts
  widened p s = (min p.0 (if is_defined s then s.start else top), max p.1 s.end, p.2 || is_defined s)

  -- the widened parts if no start is above `top`, and otherwise the parts of the joined spans
  abbrev pub joined : Parts → Span → Parts
  joined p s = if nat_le p.0 top && nat_le s.start top then widened p s else parts (join (told p) s)

  pub joined-widened : (p : Parts) (s : Span) → p.0 ≤ top → s.start ≤ top → joined p s ≡ widened p s
  joined-widened p s below within = grind (arith, common_steps)

  told-parts : (s : Span) → told (parts s) ≡ s
  told-parts s = grind (arith, common_steps)

  widened-parts : (t s : Span) → (parts t).0 ≤ top → s.start ≤ top → widened (parts t) s ≡ parts (join t s)
  widened-parts t s below within = grind (arith, common_steps)

  joined-parts : (t s : Span) → joined (parts t) s ≡ parts (join t s)
  joined-parts t s = grind (arith, common_steps, widened-parts t s, told-parts t)

  joined-all : (t : Span) (spans : List Span) → fold joined (parts t) spans ≡ parts (fold join t spans)
  joined-all t [] = refl
  joined-all t (s ∷ spans) = ap (λ p. fold joined p spans) (joined-parts t s) ∙ joined-all (join t s) spans

  -- the span with the parts after all spans is their total
  total-told : (spans : List Span) (found : Parts) → found ≡ fold joined (top, 0, false) spans → told found ≡ total spans
  total-told spans found is = ap told is ∙ ap told (joined-all undefined spans) ∙ told-parts (fold join undefined spans) ∙ fold-join undefined spans

  module _ (spans : List Span) (found : Parts) (is : found ≡ fold joined (top, 0, false) spans) where
    pub total-defined : found.2 ≡ true → record { start = found.0; «end» = found.1 } ≡ total spans
    total-defined some =
        let same : told found ≡ record { start = found.0; «end» = found.1 } = rw some refl in
        sym same ∙ total-told spans found is

    pub total-undefined : found.2 ≡ false → undefined ≡ total spans
    total-undefined none =
        let same : told found ≡ undefined = rw none refl in
        sym same ∙ total-told spans found is
