-- Visiting elements, one after another.
use Rattle.std.proofs.Common.{◌≡◌, ◌∙◌, sym, ap, subst, refl, inl, inr, ◌⊎◌, ℕ, ◌+◌, ◌<◌, List, [], ◌∷◌, ◌++◌, length, Bool, true, false, arith, true≢false, length-append}
use Rattle.std.proofs.lemmas.List.Elements.{Contains-append_left, Contains-push, Contains-push_cases}
use Rattle.std.specs.List.{Contains, enumerate_from, filter_map}
use Rattle.std.specs.Prelude.{if◌then◌else◌}
use Rattle.naga_arena.specs.Arena.{values}
use Rattle.naga_arena.specs.declared.span.Span.{Span}
use Rattle.naga_ir.specs.declared.module.Module as the_module
use Rattle.naga_valid.specs.declared.reference.Reference.{Reference}
use Rattle.naga_compact.specs.Module.Used.{AreBoundsOf, element_if, elements_where, is_member}
use Rattle.naga_compact.specs.Module.Visits.{Visited, is_new, mark, unmarked, visit, visits}
use Rattle.naga_compact.specs.declared.module.used.UsedHandles.{UsedHandles}
use Rattle.naga_compact.proofs.MarkedElementLemmas.{HasSpace, is_new-is, is_new-parts, mark-bounds, mark-has, mark-new, mark-old, unmarked-mark}

-- the elements of an arena that pass the test are visited
pub visits-arena : {X : Type 0} (now new : Visited) (element : ℕ → Reference) (test : X → Bool) (arena : List (X × Span)) (entries : List (ℕ × X)) →
    entries ≡ enumerate_from 0 (values arena) → new ≡ visits now (filter_map (element_if element test) entries) → new ≡ visits now (elements_where element test arena)
visits-arena now new element test arena entries is visited =
    visited ∙ ap (λ xs. visits now (filter_map (element_if element test) xs)) is

-- ---- one visit

-- the number of elements that are pending or not marked
abbrev pub ahead : Visited → ℕ
ahead v = length v.pending + unmarked v.used

module _ (v : Visited) (e : Reference) where
  pub visit-bounds : (whole : the_module.Module) → AreBoundsOf whole v.used → AreBoundsOf whole (visit v e).used
  unfolding visit
  visit-bounds whole bounds = mark-bounds whole v.used e bounds

  pub visit-old : (q : Reference) → is_member v.used q ≡ true → is_member (visit v e).used q ≡ true
  unfolding visit
  visit-old q member = mark-old v.used e q member

  pub visit-has : HasSpace v.used e → is_member (visit v e).used e ≡ true
  unfolding visit
  visit-has inside = mark-has v.used e inside

  still_pending : (b : Bool) (q : Reference) → Contains v.pending q → Contains (if b then v.pending ++ e ∷ [] else v.pending) q
  still_pending true q inside = Contains-append_left v.pending (e ∷ []) q inside
  still_pending false q inside = inside

  pub visit-pending : (q : Reference) → Contains v.pending q → Contains (visit v e).pending q
  unfolding visit
  visit-pending q inside = still_pending (is_new v.used e) q inside

  now_pending : (b : Bool) → b ≡ true → Contains (if b then v.pending ++ e ∷ [] else v.pending) e
  now_pending true is = Contains-push v.pending e
  now_pending false is = absurd (true≢false (sym is))

  newly : (q : Reference) → (q ≡ e) × HasSpace v.used q → (b : Bool) → is_member v.used q ≡ b → (is_member v.used q ≡ true) ⊎ ((q ≡ e) × HasSpace v.used q × Contains (visit v e).pending q)
  unfolding visit
  newly q new true is = inl is
  newly q new false is =
      let here : is_new v.used e ≡ true = subst (λ x. is_new v.used x ≡ true) new.0 (is_new-is v.used q new.1 is) in
      inr (new.0, new.1, subst (Contains (visit v e).pending) (sym new.0) (now_pending (is_new v.used e) here))

  -- what is marked was marked before, or it is the element, and pending
  pub visit-new : (q : Reference) → is_member (visit v e).used q ≡ true → (is_member v.used q ≡ true) ⊎ ((q ≡ e) × HasSpace v.used q × Contains (visit v e).pending q)
  unfolding visit
  visit-new q member = elim (mark-new v.used e q member) [
    | inl old ↦ inl old
    | inr new ↦ newly q new (is_member v.used q) refl
  ]

  pending_cases : (b : Bool) → is_new v.used e ≡ b → (q : Reference) → Contains (if b then v.pending ++ e ∷ [] else v.pending) q → Contains v.pending q ⊎ (is_member (mark v.used e) q ≡ true)
  pending_cases true is q inside = elim (Contains-push_cases v.pending e q inside) [
    | inl old ↦ inl old
    | inr same ↦ inr (subst (λ x. is_member (mark v.used e) x ≡ true) same (mark-has v.used e (is_new-parts v.used e is).0))
  ]
  pending_cases false is q inside = inl inside

  -- what is pending was pending before, or it is marked
  pub visit-pending_new : (q : Reference) → Contains (visit v e).pending q → Contains v.pending q ⊎ (is_member (visit v e).used q ≡ true)
  unfolding visit
  visit-pending_new q inside = pending_cases (is_new v.used e) refl q inside

  ahead_after : (b : Bool) → unmarked v.used ≡ unmarked (mark v.used e) + (if b then 1 else 0) → length (if b then v.pending ++ e ∷ [] else v.pending) + unmarked (mark v.used e) ≡ ahead v
  ahead_after true is = omega (arith, length-append v.pending (e ∷ []))
  ahead_after false is = omega arith

  pub visit-ahead : ahead (visit v e) ≡ ahead v
  unfolding visit
  visit-ahead = ahead_after (is_new v.used e) (unmarked-mark v.used e)

  -- the parts of the tracer after a visit
  pub visit-new_parts : (used : UsedHandles) (pending : List Reference) → used ≡ mark v.used e → pending ≡ v.pending ++ e ∷ [] → is_new v.used e ≡ true → record { used = used; pending = pending } ≡ visit v e
  unfolding visit
  visit-new_parts used pending marked pushed is =
      let parts : ◌≡◌ {A = Visited} (record { used = used; pending = pending }) (record { used = mark v.used e; pending = v.pending ++ e ∷ [] }) = (λ i. record { used = marked i; pending = pushed i }) in
      let after : ◌≡◌ {A = Visited} (record { used = mark v.used e; pending = v.pending ++ e ∷ [] }) (record { used = mark v.used e; pending = if is_new v.used e then v.pending ++ e ∷ [] else v.pending }) =
      ap (λ b. record { used = mark v.used e; pending = if b then v.pending ++ e ∷ [] else v.pending }) (sym is)
      in
      parts ∙ after

  pub visit-old_parts : (used : UsedHandles) → used ≡ mark v.used e → is_new v.used e ≡ false → record { used = used; pending = v.pending } ≡ visit v e
  unfolding visit
  visit-old_parts used marked is =
      let parts : ◌≡◌ {A = Visited} (record { used = used; pending = v.pending }) (record { used = mark v.used e; pending = v.pending }) = (λ i. record { used = marked i; pending = v.pending }) in
      let after : ◌≡◌ {A = Visited} (record { used = mark v.used e; pending = v.pending }) (record { used = mark v.used e; pending = if is_new v.used e then v.pending ++ e ∷ [] else v.pending }) =
      ap (λ b. record { used = mark v.used e; pending = if b then v.pending ++ e ∷ [] else v.pending }) (sym is)
      in
      parts ∙ after

-- ---- visits

pub visits-ahead : (v : Visited) (references : List Reference) → ahead (visits v references) ≡ ahead v
visits-ahead v [] = refl
visits-ahead v (e ∷ references) = visits-ahead (visit v e) references ∙ visit-ahead v e

-- the last pending element is taken, and what it refers to is visited
pub visits-fewer : (m v w : Visited) (e : Reference) (references : List Reference) → v.used ≡ m.used → m.pending ≡ v.pending ++ e ∷ [] → w ≡ visits v references → ahead w < ahead m
visits-fewer m v w e references used pending is =
    omega (arith, ap ahead is ∙ visits-ahead v references, ap length pending, length-append v.pending (e ∷ []), ap unmarked used)
