-- The handles that an iterable yields, and those that are inserted.
use Rattle.std.proofs.Common.{◌≡◌, ℕ, List, [], ◌∷◌, ◌++◌, Option, Some, None, Result, Ok, Err, refl, sym, ap, subst, ◌∙◌, append-nil}
use Rattle.std.specs.Iterator.{AlwaysYields, Yields}
use Rattle.std.specs.Prelude.{OnOk, OnErr}
use Rattle.std.specs.declared.alloc.AllocError.{AllocError}
use Rattle.naga_sets.specs.HandleSet.{BoundedSet, InsertsBefore, InsertsItems, YieldsHandles, with_members}

module _ {T : Type 0} (steps : T → Option ℕ → T → Type 0) where
  -- after some handles, an iterator that always yields the same list yields the rest of it
  AlwaysYields-rest : (taken handles : List ℕ) (it left : T) → AlwaysYields steps (λ handle. handle) it handles → Yields steps it taken left
      → (later : List ℕ) × (handles ≡ taken ++ later) × AlwaysYields steps (λ handle. handle) left later
  AlwaysYields-rest [] handles it left always yields = (handles, refl, subst (λ t. AlwaysYields steps (λ handle. handle) t handles) yields always)
  AlwaysYields-rest (handle ∷ taken) [] it left always yields = absurd (always handle yields.0 yields.1)
  AlwaysYields-rest (handle ∷ taken) (first ∷ handles) it left always yields =
      let step = always.1 handle yields.0 yields.1 in
      let rest = AlwaysYields-rest taken handles yields.0 left step.1 yields.2 in
      (rest.0, ap (λ h. h ∷ handles) (sym step.0) ∙ ap (λ hs. handle ∷ hs) rest.1, rest.2)

  -- if it then yields nothing, it yielded the whole list
  AlwaysYields-end : (taken handles later : List ℕ) (left end : T) → handles ≡ taken ++ later → AlwaysYields steps (λ handle. handle) left later → steps left None end → taken ≡ handles
  AlwaysYields-end taken handles [] left end is always none = sym (is ∙ append-nil taken)
  AlwaysYields-end taken handles (handle ∷ later) left end is always none = absurd (always.0 end none)

  -- if it then yields a handle, this is the next one of the list
  AlwaysYields-next : (taken handles later : List ℕ) (left end : T) (next : ℕ) → handles ≡ taken ++ later → AlwaysYields steps (λ handle. handle) left later → steps left (Some next) end
      → (behind : List ℕ) × (handles ≡ taken ++ next ∷ behind)
  AlwaysYields-next taken handles [] left end next is always some = absurd (always next end some)
  AlwaysYields-next taken handles (handle ∷ later) left end next is always some =
      (later, is ∙ ap (λ h. taken ++ h ∷ later) (sym (always.1 next end some).0))

module _ {U T : Type 0} (becomes : U → T → Type 0) (steps : T → Option ℕ → T → Type 0) (iter : U) (handles : List ℕ) (old new : BoundedSet) where
  pub InsertsItems-all : (result : Result (Unit {0}) AllocError) → YieldsHandles becomes steps iter handles → InsertsItems becomes steps iter old new result
      → OnOk result (new ≡ with_members old handles)
  InsertsItems-all (Ok done) always (it, taken, became, is, (u, (left, yields, none))) =
      let rest = AlwaysYields-rest steps taken handles it left (always it became) yields in
      is ∙ ap (with_members old) (AlwaysYields-end steps taken handles rest.0 left u rest.1 rest.2 none)
  InsertsItems-all (Err error) always inserts = tt

  pub InsertsItems-before : (result : Result (Unit {0}) AllocError) → YieldsHandles becomes steps iter handles → InsertsItems becomes steps iter old new result
      → OnErr result (InsertsBefore handles old new)
  InsertsItems-before (Ok done) always inserts = tt
  InsertsItems-before (Err error) always (it, taken, became, is, (refused, u, (left, yields, some), past)) =
      let rest = AlwaysYields-rest steps taken handles it left (always it became) yields in
      let next = AlwaysYields-next steps taken handles rest.0 left u refused rest.1 rest.2 some in
      (taken, next.0, refused, next.1, is, past)
