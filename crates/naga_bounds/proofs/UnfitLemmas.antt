-- The list of the accesses of a function that may be out of bounds: lemmas on specs/Unfit.antt.
use Rattle.std.proofs.Common.{◌≡◌, ◌∙◌, ap, arith, refl, subst, sym, ℕ, zero, suc, ◌+◌, ◌-◌, ◌<◌, true, false}
use Rattle.std.proofs.Common.{List, [], ◌∷◌, ◌++◌, Option, Some, None, append-nil, get_or, length, length-append, take}
use Rattle.std.proofs.lemmas.List.Concat.{flat_map-append}
use Rattle.std.specs.List.{count_by, range_with_len}
use Rattle.std.specs.Prelude.{◌↔◌, flat_map, is_some, map}
use Rattle.naga_arena.proofs.HandlesOfLemmas.{range_with_len-suc}
use Rattle.naga_typing.proofs.JoinedLemmas.{take-joined}
use Rattle.naga_bounds.specs.Fits.{EachFits, IsFirstMisfit, misfit, misfit_count}
use Rattle.naga_bounds.specs.Reach.{Typed}
use Rattle.naga_bounds.specs.Unfit.{unfit_accesses, unfit_at, unfit_before}
use Rattle.naga_bounds.specs.declared.cause.Cause.{Cause}
use Rattle.naga_bounds.specs.declared.invalid_access.UnfitAccess.{UnfitAccess}
use Rattle.naga_bounds.proofs.MisfitsLemmas.{count_by-next, misfits-all, misfits-next}

module _ (code : Typed) where
  -- the access with this handle, by why it may be out of bounds
  abbrev listed : ℕ → Option Cause → List UnfitAccess
  listed handle found =
      elim found as (λ _. List UnfitAccess) [ None ↦ [] | Some cause ↦ record { expression = handle; cause = cause } ∷ [] ]

  unfit_at-none : (handle : ℕ) → misfit code handle ≡ None → unfit_at code handle ≡ []
  unfit_at-none handle is = ap (listed handle) is

  unfit_at-some : (handle : ℕ) (cause : Cause) → misfit code handle ≡ Some cause → unfit_at code handle ≡ record { expression = handle; cause = cause } ∷ []
  unfit_at-some handle cause is = ap (listed handle) is

  -- one more expression
  unfit_before-next : (count : ℕ) → unfit_before code (suc count) ≡ unfit_before code count ++ unfit_at code count
  unfit_before-next count =
      ap (λ handles. flat_map (unfit_at code) handles) (range_with_len-suc 0 count count (omega arith))
      ∙ flat_map-append (unfit_at code) (range_with_len 0 count) (count ∷ [])
      ∙ ap (λ last. unfit_before code count ++ last) (append-nil (unfit_at code count))

-- ---- how the list is made

module _ (code : Typed) (limit : ℕ) where
  -- one more expression
  pub unfit-next : (count : ℕ) (old new : List UnfitAccess) → old ≡ take limit (unfit_before code count)
      → new ≡ old ++ take (limit - length old) (unfit_at code count) → new ≡ take limit (unfit_before code (count + 1))
  unfit-next count old new before is =
      let more : count + 1 ≡ suc count = omega arith in
      let next : unfit_before code (count + 1) ≡ unfit_before code count ++ unfit_at code count =
      ap (unfit_before code) more ∙ unfit_before-next code count in
      is ∙ (λ i. before i ++ take (limit - length (before i)) (unfit_at code count))
      ∙ sym (take-joined limit (unfit_before code count) (unfit_at code count))
      ∙ ap (take limit) (sym next)

-- ---- laws

module _ (code : Typed) where
  -- how many are listed
  one-more : (count : ℕ) (found : Option Cause) → misfit code count ≡ found
      → length (unfit_before code count) ≡ count_by is_some (map (misfit code) (range_with_len 0 count))
      → length (unfit_before code (suc count)) ≡ count_by is_some (map (misfit code) (range_with_len 0 (suc count)))
  one-more count None is before =
      let more : count + 1 ≡ suc count = omega arith in
      let added = count_by-next (misfit code) count false (ap is_some is) in
      let counted = ap (λ n. count_by is_some (map (misfit code) (range_with_len 0 n))) more in
      let both = length-append (unfit_before code count) (unfit_at code count) in
      let here : length (unfit_at code count) ≡ 0 = ap length (unfit_at-none code count is) in
      let list : length (unfit_before code (suc count)) ≡ length (unfit_before code count ++ unfit_at code count) = ap length (unfit_before-next code count) in
      omega (arith, list, both, here, added, counted, before)
  one-more count (Some cause) is before =
      let more : count + 1 ≡ suc count = omega arith in
      let added = count_by-next (misfit code) count true (ap is_some is) in
      let counted = ap (λ n. count_by is_some (map (misfit code) (range_with_len 0 n))) more in
      let both = length-append (unfit_before code count) (unfit_at code count) in
      let here : length (unfit_at code count) ≡ 1 = ap length (unfit_at-some code count cause is) in
      let list : length (unfit_before code (suc count)) ≡ length (unfit_before code count ++ unfit_at code count) = ap length (unfit_before-next code count) in
      omega (arith, list, both, here, added, counted, before)

  unfit_before-length : (count : ℕ) → length (unfit_before code count) ≡ count_by is_some (map (misfit code) (range_with_len 0 count))
  unfit_before-length zero = refl
  unfit_before-length (suc count) = one-more count (misfit code count) refl (unfit_before-length count)

  pub unfit_accesses-length : length (unfit_accesses code) ≡ misfit_count code
  unfit_accesses-length = unfit_before-length (length code.arena)

  no-more : (found : Option Cause) (handle : ℕ) → misfit code handle ≡ found → unfit_at code handle ≡ [] → misfit code handle ≡ None
  no-more None handle is none = is
  no-more (Some cause) handle is none = let bad = sym (unfit_at-some code handle cause is) ∙ none in cc

  both-nil : (front back : List UnfitAccess) → front ++ back ≡ [] → (front ≡ []) × (back ≡ [])
  both-nil [] back none = (refl, none)
  both-nil (one ∷ front) back none = cc

  -- if none is listed, each access fits
  none-fit : (count : ℕ) → unfit_before code count ≡ [] → (other : ℕ) → other < count → misfit code other ≡ None
  none-fit zero none other within = let bad : ⊥ = omega (arith, within) in absurd bad
  none-fit (suc count) none other within =
      let parts = both-nil (unfit_before code count) (unfit_at code count) (sym (unfit_before-next code count) ∙ none) in
      let more : count + 1 ≡ suc count = omega arith in
      misfits-next code count (none-fit count parts.0) (no-more (misfit code count) count refl parts.1) other (omega (arith, within, more))

  -- if each access fits, none is listed
  fit-none : (count : ℕ) → EachFits code → unfit_before code count ≡ []
  fit-none zero fit = refl
  fit-none (suc count) fit =
      unfit_before-next code count
      ∙ (λ i. fit-none count fit i ++ unfit_at code count)
      ∙ unfit_at-none code count (fit count)

  pub unfit_accesses-none : (unfit_accesses code ≡ []) ↔ EachFits code
  unfit_accesses-none = (
    λ none. misfits-all code (length code.arena) (omega arith) (none-fit (length code.arena) none),
    λ fit. fit-none (length code.arena) fit,
  )

  -- the first that is listed: this one, if there is none before it
  first-at : (count : ℕ) (first : UnfitAccess) (rest : List UnfitAccess) (found : Option Cause) → misfit code count ≡ found
      → unfit_before code count ≡ [] → unfit_at code count ≡ first ∷ rest → IsFirstMisfit code first.expression first.cause
  first-at count first rest None found none starts = let bad = sym (unfit_at-none code count found) ∙ starts in cc
  first-at count first rest (Some cause) found none starts =
      let same = sym (unfit_at-some code count cause found) ∙ starts in
      let one : record { expression = count; cause = cause } ≡ first = ap (λ list. get_or list 0 first) same in
      subst (λ (unfit : UnfitAccess). IsFirstMisfit code unfit.expression unfit.cause) one
      (record { misfits = found; earlier = none-fit count none })

  first-next : (count : ℕ) (first : UnfitAccess) (rest front : List UnfitAccess)
      → ((others : List UnfitAccess) → unfit_before code count ≡ first ∷ others → IsFirstMisfit code first.expression first.cause)
      → unfit_before code count ≡ front → front ++ unfit_at code count ≡ first ∷ rest → IsFirstMisfit code first.expression first.cause
  first-next count first rest [] before none starts = first-at count first rest (misfit code count) refl none starts
  first-next count first rest (one ∷ front) before some starts =
      let same : one ≡ first = ap (λ list. get_or list 0 first) starts in
      before front (some ∙ (λ i. same i ∷ front))

  first-of : (count : ℕ) (first : UnfitAccess) (rest : List UnfitAccess) → unfit_before code count ≡ first ∷ rest
      → IsFirstMisfit code first.expression first.cause
  first-of zero first rest is = cc
  first-of (suc count) first rest is =
      first-next count first rest (unfit_before code count) (λ others. first-of count first others) refl
      (sym (unfit_before-next code count) ∙ is)

  pub unfit_accesses-first : (first : UnfitAccess) (rest : List UnfitAccess) → unfit_accesses code ≡ first ∷ rest
      → IsFirstMisfit code first.expression first.cause
  unfit_accesses-first first rest is = first-of (length code.arena) first rest is
