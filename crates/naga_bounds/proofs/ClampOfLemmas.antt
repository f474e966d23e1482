-- What becomes of an expression, and of which expressions there are clamps.
use Rattle.std.proofs.Common.{◌≡◌, ◌∙◌, ◌<◌, ap, arith, get_or, length, refl, subst, sym, inl, inr, ◌⊎◌, ℕ, Bool, true, false, Option, Some, None, Result, Ok, Err}
use Rattle.std.specs.List.{slice_get}
use Rattle.std.specs.Prelude.{List}
use Rattle.std.specs.Prelude.{◌||◌, IfSome, if◌then◌else◌, not}
use Rattle.naga_ir.specs.declared.expression.Expression.{Expression}
use Rattle.naga_ir.specs.declared.expression.Expression.TheVariants as expr
use Rattle.naga_typifier.specs.Rows.{◌>>=◌}
use Rattle.naga_bounds.specs.Changes.{AreChanges, change_at, change_for, clamp_found, index_at, is_convertible, is_decided, is_told, takes_constants}
use Rattle.naga_bounds.specs.Fits.{length_found, misfit, misfit_of}
use Rattle.naga_bounds.specs.Reach.{Typed, contents_at, expression_at, reach_of}
use Rattle.naga_bounds.specs.declared.cause.Cause.{Cause}
use Rattle.naga_bounds.specs.declared.cause.Cause.TheVariants.{NoLength}
use Rattle.naga_bounds.specs.declared.cause.Position.{Position}
use Rattle.naga_bounds.specs.declared.cause.Position.TheVariants.{Constant, Computed}
use Rattle.naga_bounds.specs.declared.change.Change.{Change}
use Rattle.naga_bounds.specs.declared.change.Change.TheVariants.{Stays, Clamped}
use Rattle.naga_bounds.specs.declared.change.Clamp.{Clamp}
use Rattle.naga_bounds.specs.declared.length.Length.{Length}
use Rattle.naga_bounds.proofs.NewHandlesLemmas.{change-there, value-within}

module _ (counts : ℕ → Bool) (code : Typed) where
  -- the clamp of an access to this base at this position
  pub record IsClampOf (clamp : Clamp) (base : ℕ) (position : Position) : Type 0 where
    pub length : length_found code (contents_at code base) ≡ Ok clamp.length
    pub at_base : clamp.base ≡ base
    pub index : clamp.index ≡ index_at code position
    pub told : is_told counts code clamp.length base ≡ true
    pub undecided : is_decided code clamp.length position ≡ false
    pub convertible : is_convertible code position ≡ true

  -- what is clamped is an access that may be out of bounds
  pub data IsClamped (e : Expression) (clamp : Clamp) : Type 0 where
    computed : (base index : ℕ) → e ≡ expr.Access base index → IsClampOf clamp base (Computed index) → IsClamped e clamp
    constant : (base number : ℕ) → e ≡ expr.AccessIndex base number → IsClampOf clamp base (Constant number) → IsClamped e clamp

  -- the length of what is clamped is known
  pub length-told : (e : Expression) (clamp : Clamp) → IsClamped e clamp → (base : ℕ) × (is_told counts code clamp.length base ≡ true)
  length-told e clamp (computed base index is clamp_of) = (base, clamp_of.told)
  length-told e clamp (constant base number is clamp_of) = (base, clamp_of.told)

  never : {A : Type 0} (cause : Cause) (change : Change) → Err cause ≡ Ok change → A
  never cause change is = absurd (cc)

  clamp_found-form : (cause : Cause) (found : Result Length Cause) (base : ℕ) (position : Position) (change : Change)
      → length_found code (contents_at code base) ≡ found → clamp_found counts code cause found base position ≡ Ok change
      → (clamp : Clamp) × (change ≡ Clamped clamp) × IsClampOf clamp base position
  clamp_found-form cause (Err unknown) base position change is so = never unknown change so
  clamp_found-form cause (Ok long) base position change is so =
      go (is_decided code long position) (takes_constants (contents_at code base)) (is_convertible code position) (is_told counts code long base) refl refl refl so
    where
      go : (decided constants convertible told : Bool) → is_decided code long position ≡ decided → is_convertible code position ≡ convertible → is_told counts code long base ≡ told
          → (if decided || constants || not convertible then Err cause else if told then Ok (Clamped (record { length = long; base = base; index = index_at code position })) else Err NoLength) ≡ Ok change
          → (clamp : Clamp) × (change ≡ Clamped clamp) × IsClampOf clamp base position
      go true constants convertible told d v t so = never cause change so
      go false true convertible told d v t so = never cause change so
      go false false false told d v t so = never cause change so
      go false false true false d v t so = never NoLength change so
      go false false true true d v t so =
          let clamp : Clamp = record { length = long; base = base; index = index_at code position } in
          let same : change ≡ Clamped clamp = cc in
          (clamp, same, record { length = is; at_base = refl; index = refl; told = t; undecided = d; convertible = v })

  clamp-form : (cause : Cause) (e : Expression) (change : Change) → change_for counts code (Some cause) (Some e) ≡ Ok change
      → (clamp : Clamp) × (change ≡ Clamped clamp) × IsClamped e clamp
  clamp-form cause (expr.Access base index) change so =
      let found = clamp_found-form cause (length_found code (contents_at code base)) base (Computed index) change refl so in
      (found.0, found.1, computed base index refl found.2)
  clamp-form cause (expr.AccessIndex base number) change so =
      let found = clamp_found-form cause (length_found code (contents_at code base)) base (Constant number) change refl so in
      (found.0, found.1, constant base number refl found.2)
  clamp-form cause _ change so = never cause change so

  -- an expression fits, or it is clamped
  pub change-form : (m : Option Cause) (e : Expression) (change : Change) → change_for counts code m (Some e) ≡ Ok change
      → ((change ≡ Stays) × (m ≡ None)) ⊎ ((clamp : Clamp) × (change ≡ Clamped clamp) × IsClamped e clamp)
  change-form None e change so = inl (let same : change ≡ Stays = cc in same, refl)
  change-form (Some cause) e change so = inr (clamp-form cause e change so)

  -- ---- the changes of a function

  module _ (changes : List Change) (planned : AreChanges counts code changes) where
    pub change-found : (x : ℕ) → x < length code.arena → (change : Change) × (slice_get changes x ≡ Some change) × (change_at counts code x ≡ Ok change)
    change-found x within =
        let same = planned.all in
        let there = change-there changes x (omega (arith, within, same)) in
        (get_or changes x Stays, there, subst (λ found. IfSome found (λ change. change_at counts code x ≡ Ok change)) there (planned.each x))

    -- what becomes of an expression
    pub changed-as : (x : ℕ) (e : Expression) → expression_at code x ≡ Some e
        → ((slice_get changes x ≡ Some Stays) × (misfit code x ≡ None)) ⊎ ((clamp : Clamp) × (slice_get changes x ≡ Some (Clamped clamp)) × IsClamped e clamp)
    changed-as x e found =
        let change = change-found x (value-within code.arena x e found) in
        elim (change-form (misfit code x) e change.0 (ap (change_for counts code (misfit code x)) (sym found) ∙ change.2)) [
          | inl stays ↦ inl (change.1 ∙ ap Some stays.0, stays.1)
          | inr clamped ↦ inr (clamped.0, change.1 ∙ ap Some clamped.1, clamped.2)
        ]

    -- what fits stays
    pub stays : (x : ℕ) (e : Expression) → expression_at code x ≡ Some e → misfit code x ≡ None → slice_get changes x ≡ Some Stays
    stays x e found fits =
        let change = change-found x (value-within code.arena x e found) in
        let is : Ok Stays ≡ Ok change.0 = sym (ap (λ m. change_for counts code m (expression_at code x)) fits) ∙ change.2 in
        let same : Stays ≡ change.0 = cc in
        change.1 ∙ ap Some (sym same)

    -- what is no access stays
    pub stays-plain : (x : ℕ) (e : Expression) → expression_at code x ≡ Some e → reach_of e ≡ None → slice_get changes x ≡ Some Stays
    stays-plain x e found plain = stays x e found (ap (λ v. misfit_of code (v >>= reach_of)) found ∙ ap (misfit_of code) plain)
