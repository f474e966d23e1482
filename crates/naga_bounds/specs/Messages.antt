-- The texts of accesses that may be out of bounds, and of modules that are not restricted. No text is stated of the reason
-- why an expression has no type.
use Rattle.std.specs.Prelude.{ℕ, List, ◌++◌, codes, Option, Some, None}
use Rattle.std.specs.Fmt.{◌++?◌, decimal}
use Rattle.naga_flow.specs.Messages.{numbered_misuse_text, owner_text}
use Rattle.naga_bounds.specs.declared.cause.Cause.{Cause}
use Rattle.naga_bounds.specs.declared.cause.Cause.TheVariants as cause
use Rattle.naga_bounds.specs.declared.invalid_access.InvalidAccess.{InvalidAccess}
use Rattle.naga_bounds.specs.declared.invalid_access.InvalidAccess.TheVariants as invalid
use Rattle.naga_bounds.specs.declared.invalid_access.Misfit.{Misfit}
use Rattle.naga_bounds.specs.declared.invalid_access.UnfitAccess.{UnfitAccess}
use Rattle.naga_bounds.specs.declared.restrict_error.Obstacle.{Obstacle}
use Rattle.naga_bounds.specs.declared.restrict_error.Obstacle.TheVariants as obstacle
use Rattle.naga_bounds.specs.declared.restrict_error.RestrictError.{RestrictError}

-- why an access may be out of bounds
abbrev pub cause_text : Cause → List ℕ
cause_text cause.NoType = codes "has a base whose type is not known"
cause_text cause.NoLength = codes "has a base whose length is not known"
cause_text (cause.Part index) = codes "has the index " ++ (decimal index ++ codes ", which may be out of bounds")
cause_text (cause.Index index) = codes "has the index of expression " ++ (decimal index ++ codes ", which may be out of bounds")

-- an access of a function that may be out of bounds
abbrev pub unfit_access_text : UnfitAccess → List ℕ
unfit_access_text unfit = codes "expression " ++ (decimal unfit.expression ++ (codes " " ++ cause_text unfit.cause))

-- an access that may be out of bounds, with its function
abbrev pub misfit_text : Misfit → List ℕ
misfit_text misfit =
    owner_text misfit.owner ++ (codes ": expression " ++ (decimal misfit.expression ++ (codes " " ++ cause_text misfit.cause)))

-- why the check of bounds fails
abbrev pub invalid_access_text : InvalidAccess → List ℕ
invalid_access_text invalid.Memory = codes "out of memory"
invalid_access_text (invalid.Misfit misfit) = misfit_text misfit

-- why the accesses of a function cannot be clamped
abbrev pub obstacle_text : Obstacle → Option (List ℕ)
obstacle_text (obstacle.NoType expression error) = None
obstacle_text (obstacle.NotEmitted misuse) = Some (numbered_misuse_text misuse)
obstacle_text (obstacle.NoClamp access why) =
    Some (codes "expression " ++ (decimal access ++ (codes " " ++ (cause_text why ++ codes ", and cannot be clamped"))))
obstacle_text obstacle.Full = Some (codes "too many expressions")
obstacle_text obstacle.Memory = Some (codes "out of memory")

-- the function whose accesses cannot be clamped, and why
abbrev pub restrict_error_text : RestrictError → Option (List ℕ)
restrict_error_text error = Some (owner_text error.owner) ++? (Some (codes ": ") ++? obstacle_text error.obstacle)
