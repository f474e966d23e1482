-- If each number is greater than the next one, there is exactly one path from each start, and a path from a number
-- below a bound depends only on numbers below it.
use Rattle.std.proofs.Common.{◌≡◌, ℕ, zero, suc, ◌<◌, ◌≤◌, List, [], ◌∷◌, Option, Some, None, refl, ap, subst, arith}
use Rattle.std.specs.Prelude.{IfSome}
use Rattle.std.specs.List.{filter_map}
use Rattle.naga_kinds.specs.Path.{Path, ends, passes, Descends}

-- ---- there is exactly one path

module _ {A : Type 0} {next : A → Option A} where
  pub Path-unique : {start : Option A} {first second : List A} → Path next start first → Path next start second → first ≡ second
  Path-unique ends ends = refl
  Path-unique (passes {here = here} first) (passes second) = ap (λ later. here ∷ later) (Path-unique first second)

module _ {next : ℕ → Option ℕ} (descends : Descends next) where
  Descends-at_most : (bound here : ℕ) → here ≤ bound → (found : Option ℕ) → next here ≡ found → IfSome found (λ later. later < bound)
  Descends-at_most bound here within None at = tt
  Descends-at_most bound here within (Some later) at = omega (arith, descends here later at)

  pub Path-below : (bound : ℕ) (start : Option ℕ) → IfSome start (λ here. here < bound) → (path : List ℕ) × Path next start path
  Path-below bound None within = ([], ends)
  Path-below zero (Some here) within = absurd (omega arith)
  Path-below (suc bound) (Some here) within =
      let rest = Path-below bound (next here) (Descends-at_most bound here (omega arith) (next here) refl) in
      (here ∷ rest.0, passes rest.1)

  pub Path-from : (start : Option ℕ) → (path : List ℕ) × Path next start path
  Path-from None = ([], ends)
  Path-from (Some here) = Path-below (suc here) (Some here) (omega arith)

  -- the number after one that is below a bound is below the bound too
  pub Descends-below : (bound here : ℕ) → here < bound → IfSome (next here) (λ later. later < bound)
  Descends-below bound here within = Descends-at_most bound here (omega arith) (next here) refl

-- ---- paths along numbers below a bound

module _ {next : ℕ → Option ℕ} (bound : ℕ) (closed : (here : ℕ) → here < bound → IfSome (next here) (λ later. later < bound)) where
  -- a function that agrees with `next` below the bound has the same paths
  pub Path-agreeing : {other : ℕ → Option ℕ} → ((here : ℕ) → here < bound → next here ≡ other here) → {start : Option ℕ} {path : List ℕ} → IfSome start (λ here. here < bound) → Path next start path → Path other start path
  Path-agreeing agree within ends = ends
  Path-agreeing {other} agree within (passes {here = here} {later = later} rest) =
      passes (subst (λ start. Path other start later) (agree here within) (Path-agreeing agree (closed here within) rest))

  -- functions that agree below the bound have the same items along a path
  pub filter_map-agreeing : {X : Type 0} (item another : ℕ → Option X) → ((here : ℕ) → here < bound → item here ≡ another here) → {start : Option ℕ} {path : List ℕ} → IfSome start (λ here. here < bound) → Path next start path → filter_map item path ≡ filter_map another path
  filter_map-agreeing item another agree within ends = refl
  filter_map-agreeing item another agree within (passes {here = here} {later = later} rest) =
      let first = agree here within in
      let others = filter_map-agreeing item another agree (closed here within) rest in
      cc
