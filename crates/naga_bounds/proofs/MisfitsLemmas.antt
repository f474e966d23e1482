-- The first of several positions at which a base may have no part, and the expressions of a function that fit.
use Rattle.std.proofs.Common.{◌≡◌, ◌∙◌, ap, arith, refl, subst, ℕ, ◌+◌, ◌<◌, ◌≤◌, Bool, true, false}
use Rattle.std.proofs.Common.{cond, List, ◌∷◌, Option, Some, None, drop, get_or, length}
use Rattle.std.proofs.lemmas.Bool.Decides.{nat_tests}
use Rattle.std.proofs.lemmas.List.{length-map}
use Rattle.std.proofs.lemmas.List.FromFn.{sum_by-map-range_with_len_more}
use Rattle.std.proofs.lemmas.Option.{slice_get_past}
use Rattle.std.specs.List.{count_by, range_with_len}
use Rattle.std.specs.Prelude.{is_some, map, nat_lt, option_and_then}
use Rattle.naga_arena.specs.Arena.{values}
use Rattle.naga_kinds.specs.Swizzle.{place_of}
use Rattle.naga_kinds.specs.declared.operator.SwizzleComponent.{SwizzleComponent}
use Rattle.naga_ir.specs.declared.expression.Expression.{Expression}
use Rattle.naga_flow.proofs.JumpsLemmas.{drop-here}
use Rattle.naga_bounds.specs.Fits.{EachFits, first_misfit, misfit, misfit_of, misfit_of_constant}
use Rattle.naga_bounds.specs.Reach.{Typed, expression_at, positions_of, reach_of}
use Rattle.naga_bounds.specs.declared.cause.Cause.{Cause}
use Rattle.naga_bounds.specs.declared.length.Length.{Length}

module _ (code : Typed) (long : Length) (base : ℕ) where
  abbrev pub first : List SwizzleComponent → Option Cause
  first components = first_misfit code long base (positions_of components)

  first-here : (component : SwizzleComponent) (rest : List SwizzleComponent) (cause : Cause)
      → misfit_of_constant long (place_of component) ≡ Some cause → first (component ∷ rest) ≡ Some cause
  first-here component rest cause is = ap (λ found. elim found as (λ _. Option Cause) [ None ↦ first rest | Some cause ↦ Some cause ]) is

  first-later : (component : SwizzleComponent) (rest : List SwizzleComponent)
      → misfit_of_constant long (place_of component) ≡ None → first (component ∷ rest) ≡ first rest
  first-later component rest is = ap (λ found. elim found as (λ _. Option Cause) [ None ↦ first rest | Some cause ↦ Some cause ]) is

  module _ (components : List SwizzleComponent) (i : ℕ) (component : SwizzleComponent)
      (within : i < length components) (here : component ≡ get_or components i component) where
    begins : drop i components ≡ component ∷ drop (i + 1) components
    begins = drop-here components i component within here

    pub first-at : (cause : Cause) → misfit_of_constant long (place_of component) ≡ Some cause → first (drop i components) ≡ Some cause
    first-at cause is = ap first begins ∙ first-here component (drop (i + 1) components) cause is

    pub first-after : misfit_of_constant long (place_of component) ≡ None → first (drop i components) ≡ first (drop (i + 1) components)
    first-after is = ap first begins ∙ first-later component (drop (i + 1) components) is

-- ---- the expressions of a function

module _ (code : Typed) where
  misfit-past : (handle : ℕ) → length code.arena ≤ handle → misfit code handle ≡ None
  misfit-past handle past =
      let len : length (values code.arena) ≡ length code.arena = length-map code.arena (λ entry. entry.0) in
      let missing : expression_at code handle ≡ None = slice_get_past (values code.arena) handle (omega (arith, len, past)) in
      ap (λ (found : Option Expression). misfit_of code (option_and_then reach_of found)) missing

  -- one more expression
  pub misfits-next : (count : ℕ) → ((other : ℕ) → other < count → misfit code other ≡ None) → misfit code count ≡ None
      → (other : ℕ) → other < count + 1 → misfit code other ≡ None
  misfits-next count before here other within = go (nat_lt other count) refl
    where
      go : (t : Bool) → nat_lt other count ≡ t → misfit code other ≡ None
      go true test = before other (grind (arith, nat_tests))
      go false test = let same : count ≡ other = grind (arith, nat_tests) in subst (λ handle. misfit code handle ≡ None) same here

  pub misfits-all : (count : ℕ) → length code.arena ≤ count → ((other : ℕ) → other < count → misfit code other ≡ None) → EachFits code
  misfits-all count all before handle = go (nat_lt handle count) refl
    where
      go : (t : Bool) → nat_lt handle count ≡ t → misfit code handle ≡ None
      go true test = before handle (grind (arith, nat_tests))
      go false test =
          let past : count ≤ handle = grind (arith, nat_tests) in
          misfit-past handle (omega (arith, all, past))

-- the number of results before an index, of which one more is known
pub count_by-next : {X : Type 0} (f : ℕ → Option X) (index : ℕ) (is : Bool) → is_some (f index) ≡ is
    → count_by is_some (map f (range_with_len 0 (index + 1))) ≡ count_by is_some (map f (range_with_len 0 index)) + cond is 1 0
count_by-next f index is here =
    sum_by-map-range_with_len_more (λ x. cond (is_some x) 1 0) f 0 index index (omega arith)
    ∙ ap (λ found. count_by is_some (map f (range_with_len 0 index)) + cond found 1 0) here
