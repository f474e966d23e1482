-- The accesses of a function that may be out of bounds.
use Rattle.std.specs.Prelude.{◌≡◌, ◌↔◌, ℕ, List, [], ◌∷◌, None, Some, flat_map, length}
use Rattle.std.specs.List.{range_with_len}
use Rattle.naga_bounds.specs.Fits.{EachFits, IsFirstMisfit, misfit, misfit_count}
use Rattle.naga_bounds.specs.Reach.{Typed}
use Rattle.naga_bounds.specs.declared.invalid_access.UnfitAccess.{UnfitAccess}

module _ (code : Typed) where
  -- the access with this handle, if it may be out of bounds
  abbrev pub unfit_at : ℕ → List UnfitAccess
  unfit_at handle =
      elim (misfit code handle) as (λ _. List UnfitAccess) [
        | None ↦ []
        | Some cause ↦ record { expression = handle; cause = cause } ∷ []
      ]

  -- those of this number of expressions at the beginning, in the order of their handles
  abbrev pub unfit_before : (count : ℕ) → List UnfitAccess
  unfit_before count = flat_map unfit_at (range_with_len 0 count)

  -- those of all expressions
  abbrev pub unfit_accesses : List UnfitAccess
  unfit_accesses = unfit_before (length code.arena)

-- Each access of a function fits if and only if none is listed.
abbrev pub FitWithoutUnfit : Type 0
FitWithoutUnfit = (code : Typed) → (unfit_accesses code ≡ []) ↔ EachFits code

-- The first access that is listed is the first one that does not fit, with the cause.
abbrev pub FirstUnfitIsFirst : Type 0
FirstUnfitIsFirst =
    (code : Typed) (first : UnfitAccess) (rest : List UnfitAccess)
    → unfit_accesses code ≡ first ∷ rest → IsFirstMisfit code first.expression first.cause

-- As many accesses are listed as do not fit.
abbrev pub EachUnfitIsListed : Type 0
EachUnfitIsListed = (code : Typed) → length (unfit_accesses code) ≡ misfit_count code
