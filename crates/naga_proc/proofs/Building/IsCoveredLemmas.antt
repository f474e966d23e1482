-- The handles that are in an emitted range.
use Rattle.std.proofs.Common.{◌≡◌, ◌∙◌, sym, ap, refl, subst, ℕ, zero, suc, ◌<◌, ◌≤◌, ◌⊎◌, ◌↔◌, inl, inr, Bool, true, false, cond, List, [], ◌∷◌, ◌++◌, length, map, get_or, append_assoc, Option, Some, None, arith}
use Rattle.std.proofs.lemmas.Bool.{false≢true}
use Rattle.std.specs.List.{zip}
use Rattle.std.specs.Prelude.{Any, Contains, filter, is_some}
use Rattle.naga_arena.specs.declared.span.Span.{Span}
use Rattle.naga_ir.specs.declared.expression.Expression.{Expression}
use Rattle.naga_proc.specs.Building.{appended, starts, finishes, lengths, emitted, is_running, IsCovered, IsInTurn}
use Rattle.naga_proc.specs.Building.Emission.{is_filled}
use Rattle.naga_proc.specs.declared.builder.BuildCommand.{BuildCommand}
use Rattle.naga_proc.specs.declared.builder.BuildCommand.TheVariants.{Start, Append, Finish, Push}
use Rattle.naga_proc.proofs.Building.AppendedLemmas.{raised, raised-nil, raised-cons, starts-append, finishes-append}
use Rattle.naga_proc.proofs.Building.IsAscendingLemmas.{IsAscending, IsAscending-ends}
use Rattle.naga_proc.proofs.Building.IsBuiltLemmas.{IsIdle, IsRunningFrom, Stands}
use Rattle.naga_proc.proofs.Building.IsInTurnLemmas.{IsInTurn-front}
use Rattle.naga_proc.proofs.Building.SomeBuiltLemmas.{SomeBuilt-all}
use Rattle.naga_proc.proofs.Building.ZipLemmas.{zip-append, zip-unpaired}

-- ---- `Any` by recursion

module _ {X : Type 0} (P : X → Type 0) where
  abbrev pub Some_of : List X → Type 0
  Some_of [] = ⊥
  Some_of (x ∷ xs) = P x ⊎ Some_of xs

  Some_of-at : (xs : List X) (k : ℕ) (x : X) → k < length xs → get_or xs k x ≡ x → P x → Some_of xs
  Some_of-at [] k x h e p = absurd (omega arith)
  Some_of-at (y ∷ ys) zero x h e p = inl (subst P (sym e) p)
  Some_of-at (y ∷ ys) (suc k) x h e p = inr (Some_of-at ys k x (omega arith) e p)

  pub Some_of-from_Any : (xs : List X) → Any P xs → Some_of xs
  Some_of-from_Any xs any = Some_of-at xs any.0 any.1 any.2 any.3 any.4

  pub Any-from_some : (xs : List X) → Some_of xs → Any P xs
  Any-from_some [] none = absurd none
  Any-from_some (x ∷ xs) (inl p) = (0, x, omega arith, refl, p)
  Any-from_some (x ∷ xs) (inr some) =
      let rest = Any-from_some xs some in
      (suc rest.0, rest.1, omega (arith, rest.2), rest.3, rest.4)

  pub Some_of-append_cases : (xs ys : List X) → Some_of (xs ++ ys) → Some_of xs ⊎ Some_of ys
  Some_of-append_cases [] ys some = inr some
  Some_of-append_cases (x ∷ xs) ys (inl p) = inl (inl p)
  Some_of-append_cases (x ∷ xs) ys (inr some) =
      elim (Some_of-append_cases xs ys some) [ inl left ↦ inl (inr left) | inr right ↦ inr right ]

  pub Some_of-append_right : (xs ys : List X) → Some_of ys → Some_of (xs ++ ys)
  Some_of-append_right [] ys some = some
  Some_of-append_right (x ∷ xs) ys some = inr (Some_of-append_right xs ys some)

  module _ (passes : X → Bool) where
    Some_of-cond : (x : X) (b : Bool) (xs : List X) → Some_of (cond b (x ∷ xs) xs) → P x ⊎ Some_of xs
    Some_of-cond x true xs some = some
    Some_of-cond x false xs some = inr some

    pub Some_of-filter : (xs : List X) → Some_of (filter passes xs) → Some_of xs
    Some_of-filter [] none = none
    Some_of-filter (x ∷ xs) some =
        elim (Some_of-cond x (passes x) (filter passes xs) some)
        [ inl p ↦ inl p | inr rest ↦ inr (Some_of-filter xs rest) ]

    filter-first : (x : X) (b : Bool) (xs : List X) → b ≡ true → P x → Some_of (cond b (x ∷ xs) xs)
    filter-first x true xs e p = inl p
    filter-first x false xs e p = absurd (false≢true e)

    filter-rest : (x : X) (b : Bool) (xs : List X) → Some_of xs → Some_of (cond b (x ∷ xs) xs)
    filter-rest x true xs some = inr some
    filter-rest x false xs some = some

    pub filter-some_of : ((x : X) → P x → passes x ≡ true) → (xs : List X) → Some_of xs → Some_of (filter passes xs)
    filter-some_of all [] none = none
    filter-some_of all (x ∷ xs) (inl p) = filter-first x (passes x) (filter passes xs) (all x p) p
    filter-some_of all (x ∷ xs) (inr some) =
        filter-rest x (passes x) (filter passes xs) (filter-some_of all xs some)

-- ---- ranges and handles

module _ (handle : ℕ) where
  abbrev pub Covers : ℕ × ℕ → Type 0
  Covers range = (range.0 ≤ handle) × (handle < range.1)

  covers-filled : (range : ℕ × ℕ) → Covers range → is_filled range ≡ true
  covers-filled range covers = grind arith

  -- ranges that end at or before the handle do not cover it
  pub Covers-not_below : (low : ℕ) (ranges : List (ℕ × ℕ)) (high : ℕ) → IsAscending low ranges high → high ≤ handle → ¬ (Some_of Covers ranges)
  Covers-not_below low [] high ascending ends none = none
  Covers-not_below low (range ∷ ranges) high ascending ends (inl covers) =
      omega (arith, IsAscending-ends range.1 ranges high ascending.2, covers.1)
  Covers-not_below low (range ∷ ranges) high ascending ends (inr some) =
      Covers-not_below range.1 ranges high ascending.2 ends some

  -- ranges that all begin after the handle do not cover it
  pub Covers-not_above : (by : ℕ) (numbers ends : List ℕ) → handle < by → ¬ (Some_of Covers (zip (raised by numbers) ends))
  Covers-not_above by [] ends above some =
      subst (λ firsts. Some_of Covers (zip firsts ends)) (raised-nil by) some
  Covers-not_above by (number ∷ numbers) [] above some =
      subst (λ firsts. Some_of Covers (zip firsts [])) (raised-cons by number numbers) some
  Covers-not_above by (number ∷ numbers) (end' ∷ ends) above some =
      elim (subst (λ firsts. Some_of Covers (zip firsts (end' ∷ ends))) (raised-cons by number numbers) some) [
        | inl covers ↦ omega (arith, covers.0)
        | inr rest ↦ Covers-not_above by numbers ends above rest
      ]

-- ---- a Finish among commands

pub finishes-from_Contains : (commands : List BuildCommand) (k : ℕ) → k < length commands → get_or commands k Finish ≡ Finish → (first : ℕ) × (rest : List ℕ) × (finishes commands ≡ first ∷ rest)
finishes-from_Contains [] k h e = absurd (omega arith)
finishes-from_Contains (Finish ∷ commands) k h e = (0, finishes commands, refl)
finishes-from_Contains (Start ∷ commands) zero h e = absurd cc
finishes-from_Contains (Append expression span ∷ commands) zero h e = absurd cc
finishes-from_Contains (Push statement span ∷ commands) zero h e = absurd cc
finishes-from_Contains (Start ∷ commands) (suc k) h e = finishes-from_Contains commands k (omega arith) e
finishes-from_Contains (Push statement span ∷ commands) (suc k) h e =
    finishes-from_Contains commands k (omega arith) e
finishes-from_Contains (Append expression span ∷ commands) (suc k) h e =
    let later = finishes-from_Contains commands k (omega arith) e in
    (suc later.0, map suc later.1, ap (map suc) later.2)

cons_from_map : (numbers : List ℕ) (first : ℕ) (rest : List ℕ) → map suc numbers ≡ first ∷ rest → (number : ℕ) × (others : List ℕ) × (numbers ≡ number ∷ others)
cons_from_map [] first rest e = absurd cc
cons_from_map (number ∷ others) first rest e = (number, others, refl)

pub Contains-from_finishes : (commands : List BuildCommand) (first : ℕ) (rest : List ℕ) → finishes commands ≡ first ∷ rest → Contains commands Finish
Contains-from_finishes [] first rest e = absurd cc
Contains-from_finishes (Finish ∷ commands) first rest e = (0, omega arith, refl)
Contains-from_finishes (Start ∷ commands) first rest e =
    let later = Contains-from_finishes commands first rest e in
    (suc later.0, omega (arith, later.1), later.2)
Contains-from_finishes (Push statement span ∷ commands) first rest e =
    let later = Contains-from_finishes commands first rest e in
    (suc later.0, omega (arith, later.1), later.2)
Contains-from_finishes (Append expression span ∷ commands) first rest e =
    let numbers = finishes commands in
    let some : (number : ℕ) × (others : List ℕ) × (numbers ≡ number ∷ others) = cons_from_map numbers first rest e in
    let later = Contains-from_finishes commands some.0 some.1 some.2 in
    (suc later.0, omega (arith, later.1), later.2)

-- ---- the expression of one Append

raised-suc : (by : ℕ) (numbers : List ℕ) → raised by (map suc numbers) ≡ raised (suc by) numbers
raised-suc zero numbers = refl
raised-suc (suc by) numbers = ap (map suc) (raised-suc by numbers)

module _ (before after : List BuildCommand) (expression : Expression) (span : Span) where
  abbrev whole : List BuildCommand
  whole = before ++ Append expression span ∷ after

  abbrev here : ℕ
  here = length (appended before)

  abbrev later_starts : List ℕ
  later_starts = raised (suc here) (starts after)

  abbrev later_finishes : List ℕ
  later_finishes = raised (suc here) (finishes after)

  starts-whole : starts whole ≡ starts before ++ later_starts
  starts-whole =
      starts-append before (Append expression span ∷ after) ∙ ap (λ later. starts before ++ later) (raised-suc here (starts after))

  finishes-whole : finishes whole ≡ finishes before ++ later_finishes
  finishes-whole =
      finishes-append before (Append expression span ∷ after) ∙ ap (λ later. finishes before ++ later) (raised-suc here (finishes after))

  lengths-idle : IsIdle before → lengths whole ≡ lengths before ++ zip later_starts later_finishes
  lengths-idle idle =
      (λ i. zip (starts-whole i) (finishes-whole i)) ∙ zip-append (starts before) later_starts (finishes before) later_finishes idle.matched

  lengths-running : (start : ℕ) → (running : IsRunningFrom before start) → lengths whole ≡ zip running.earlier (finishes before) ++ zip (start ∷ later_starts) later_finishes
  lengths-running start running =
      (λ i. zip ((starts-whole ∙ ap (λ front. front ++ later_starts) running.begun ∙ append_assoc running.earlier (start ∷ []) later_starts) i) (finishes-whole i))
      ∙ zip-append running.earlier (start ∷ later_starts) (finishes before) later_finishes running.matched

  -- the range that is open at the Append covers its expression, if a Finish follows
  Covers-open : (start first : ℕ) (rest : List ℕ) → start ≤ here → finishes after ≡ first ∷ rest → Some_of (Covers here) (zip (start ∷ later_starts) later_finishes)
  Covers-open start first rest within e =
      subst (λ ends. Some_of (Covers here) (zip (start ∷ later_starts) ends)) (sym (ap (raised (suc here)) e ∙ raised-cons (suc here) first rest)) (inl (within, omega arith))

  finish-after : (start : ℕ) (ends : List ℕ) → finishes after ≡ ends → Some_of (Covers here) (zip (start ∷ later_starts) later_finishes) → Contains after Finish
  finish-after start [] e some =
      absurd (subst (λ ends. Some_of (Covers here) (zip (start ∷ later_starts) ends)) (ap (raised (suc here)) e ∙ raised-nil (suc here)) some)
  finish-after start (first ∷ rest) e some = Contains-from_finishes after first rest e

  IsCovered-from : (emitter : Option ℕ) → Stands before emitter → is_running before ≡ is_some emitter → Some_of (Covers here) (lengths whole) → (is_running before ≡ true) × Contains after Finish
  IsCovered-from None idle running some =
      elim (Some_of-append_cases (Covers here) (lengths before) (zip later_starts later_finishes) (subst (Some_of (Covers here)) (lengths-idle idle) some)) [
        | inl left ↦ absurd (Covers-not_below here 0 (lengths before) here idle.ascending (omega arith) left)
        | inr right ↦ absurd (Covers-not_above here (suc here) (starts after) later_finishes (omega arith) right)
      ]
  IsCovered-from (Some start) stands running some =
      let earlier : lengths before ≡ zip stands.earlier (finishes before) =
      (λ i. zip (stands.begun i) (finishes before)) ∙ zip-unpaired stands.earlier (finishes before) start stands.matched
      in
      let ascending = subst (λ ranges. IsAscending 0 ranges start) earlier stands.ascending in
      elim (Some_of-append_cases (Covers here) (zip stands.earlier (finishes before)) (zip (start ∷ later_starts) later_finishes) (subst (Some_of (Covers here)) (lengths-running start stands) some)) [
        | inl left ↦ absurd (Covers-not_below here 0 _ start ascending stands.within left)
        | inr right ↦ (running, finish-after start (finishes after) refl right)
      ]

  IsCovered-by : (emitter : Option ℕ) → Stands before emitter → is_running before ≡ is_some emitter → (is_running before ≡ true) → Contains after Finish → Some_of (Covers here) (lengths whole)
  IsCovered-by None idle running runs contains = absurd (false≢true (sym running ∙ runs))
  IsCovered-by (Some start) stands running runs contains =
      let ends = finishes-from_Contains after contains.0 contains.1 contains.2 in
      let open' = Covers-open start ends.0 ends.1 stands.within ends.2 in
      subst (Some_of (Covers here)) (sym (lengths-running start stands)) (Some_of-append_right (Covers here) (zip stands.earlier (finishes before)) (zip (start ∷ later_starts) later_finishes) open')

  pub IsCovered-iff : IsInTurn whole (length whole) → IsCovered (emitted whole) here ↔ ((is_running before ≡ true) × Contains after Finish)
  IsCovered-iff in_turn =
      let built = SomeBuilt-all before (IsInTurn-front before (Append expression span ∷ after) in_turn) in
      let stands = built.built.stands in
      let running = built.built.running in (
        λ covered. IsCovered-from built.emitter stands running (Some_of-filter (Covers here) is_filled (lengths whole) (Some_of-from_Any (Covers here) (emitted whole) covered)),
        λ between. Any-from_some (Covers here) (emitted whole) (filter-some_of (Covers here) is_filled (covers-filled here) (lengths whole) (IsCovered-by built.emitter stands running between.0 between.1)),
      )
