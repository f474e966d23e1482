-- The changes of the first expressions.
use Rattle.std.proofs.Common.{◌≡◌, ◌∙◌, ap, arith, refl, subst, sym, ℕ, zero, suc, ◌<◌, Bool, true, false, ◌||◌, List, [], ◌∷◌, ◌++◌, Option, Some, None, get_or, length}
use Rattle.std.proofs.lemmas.Bool.Decides.{nat_tests}
use Rattle.std.proofs.lemmas.List.Elements.{All-append}
use Rattle.std.proofs.lemmas.Option.{slice_get-get_or}
use Rattle.std.specs.Prelude.{All, Err, IfSome, IsOk, Ok, Result, if◌then◌else◌, not, slice_get}
use Rattle.naga_ir.specs.declared.expression.Expression.{Expression}
use Rattle.naga_ir.specs.declared.expression.Expression.TheVariants.{Access, AccessIndex}
use Rattle.naga_bounds.specs.Changes.{change_at, change_for, clamp_found, clamp_of, index_at, is_convertible, is_decided, is_told, takes_constants}
use Rattle.naga_bounds.specs.Fits.{length_found, misfit}
use Rattle.naga_bounds.specs.Plans.{IsShort, IsShortLength}
use Rattle.naga_bounds.specs.Reach.{Typed, contents_at, expression_at}
use Rattle.naga_bounds.specs.declared.cause.Cause.{Cause}
use Rattle.naga_bounds.specs.declared.cause.Cause.TheVariants.{NoLength}
use Rattle.naga_bounds.specs.declared.cause.Position.{Position}
use Rattle.naga_bounds.specs.declared.cause.Position.TheVariants.{Constant, Computed}
use Rattle.naga_bounds.specs.declared.change.Change.{Change}
use Rattle.naga_bounds.specs.declared.change.Change.TheVariants.{Stays, Clamped}
use Rattle.naga_bounds.specs.declared.length.Length.{Length}
use Rattle.naga_bounds.specs.declared.length.Length.TheVariants.{Fixed, Overridden, Counted}

-- one more element
each-next : (P : ℕ → Change → Type 0) (xs : List Change) (x : Change) → ((handle : ℕ) → IfSome (slice_get xs handle) (P handle)) → P (length xs) x
    → (handle : ℕ) → IfSome (slice_get (xs ++ x ∷ []) handle) (P handle)
each-next P [] x before here zero = here
each-next P [] x before here (suc handle) = tt
each-next P (y ∷ ys) x before here zero = before zero
each-next P (y ∷ ys) x before here (suc handle) = each-next (λ other. P (suc other)) ys x (λ other. before (suc other)) here handle

one-is : (P : Change → Type 0) (x : Change) → P x → All P (x ∷ [])
one-is P x here zero d within = here
one-is P x here (suc k) d within = absurd (omega (arith, within))

module _ (counts : ℕ → Bool) (code : Typed) where
  -- ---- a fixed length that is found is short

  told : (long : Length) (base : ℕ) → is_told counts code long base ≡ true → IsShortLength long
  told (Fixed count) base is = grind (arith, nat_tests)
  told (Overridden handle) base is = tt
  told Counted base is = tt

  abbrev outcome : Cause → Length → (base : ℕ) → Position → (decided told : Bool) → Result Change Cause
  outcome cause long base position decided told =
      if decided then Err cause else if told then Ok (Clamped (record { length = long; base = base; index = index_at code position })) else Err NoLength

  decided : (cause : Cause) (long : Length) (base : ℕ) (position : Position) (change : Change) (d t : Bool) → (t ≡ true → IsShortLength long)
      → outcome cause long base position d t ≡ Ok change → IsShort change
  decided cause long base position change true t short is = cc
  decided cause long base position change false true short is =
      let same : Clamped (record { length = long; base = base; index = index_at code position }) ≡ change = cc in
      subst IsShort same (short refl)
  decided cause long base position change false false short is = cc

  found : (cause : Cause) (long : Result Length Cause) (base : ℕ) (position : Position) (change : Change)
      → clamp_found counts code cause long base position ≡ Ok change → IsShort change
  found cause (Ok long) base position change is =
      decided cause long base position change (is_decided code long position || takes_constants (contents_at code base) || not (is_convertible code position)) (is_told counts code long base) (told long base) is
  found cause (Err unknown) base position change is = cc

  clamped : (cause : Cause) (expression : Option Expression) (change : Change) → clamp_of counts code cause expression ≡ Ok change → IsShort change
  clamped cause (Some (Access base index)) change is = found cause (length_found code (contents_at code base)) base (Computed index) change is
  clamped cause (Some (AccessIndex base number)) change is = found cause (length_found code (contents_at code base)) base (Constant number) change is
  clamped cause _ change is = cc

  changed : (cause : Option Cause) (expression : Option Expression) (change : Change) → change_for counts code cause expression ≡ Ok change → IsShort change
  changed None expression change is = let same : Stays ≡ change = cc in subst IsShort same tt
  changed (Some cause) expression change is = clamped cause expression change is

  -- ---- the changes of the first expressions

  pub record ArePlanned (changes : List Change) : Type 0 where
    pub each : (handle : ℕ) → IfSome (slice_get changes handle) (λ change. change_at counts code handle ≡ Ok change)
    pub short : All IsShort changes

  pub planned-next : (changes : List Change) (handle : ℕ) (change : Change) → length changes ≡ handle → ArePlanned changes
      → change_at counts code handle ≡ Ok change → ArePlanned (changes ++ change ∷ [])
  planned-next changes handle change len before is = record {
    each = each-next (λ other found. change_at counts code other ≡ Ok found) changes change before.each (ap (change_at counts code) len ∙ is);
    short = All-append IsShort changes (change ∷ []) before.short
        (one-is IsShort change (changed (misfit code handle) (expression_at code handle) change is));
  }

  pub planned-earlier : (changes : List Change) (count : ℕ) → length changes ≡ count → ArePlanned changes
      → (other : ℕ) → other < count → IsOk (change_at counts code other)
  planned-earlier changes count len before other within =
      let there : slice_get changes other ≡ Some (get_or changes other Stays) = slice_get-get_or changes other Stays (omega (arith, len, within)) in
      let is : change_at counts code other ≡ Ok (get_or changes other Stays) =
      subst (λ (some : Option Change). IfSome some (λ change. change_at counts code other ≡ Ok change)) there (before.each other) in
      subst IsOk (sym is) refl
