-- The accesses of the functions and entry points of a module.
use Rattle.std.specs.Prelude.{◌≡◌, ⊤, ℕ, List, [], take, All, Some, slice_get}
use Rattle.naga_arena.specs.Arena.{values}
use Rattle.naga_ir.specs.declared.module.Function as function
use Rattle.naga_ir.specs.declared.module.Module as the_module
use Rattle.naga_flow.specs.Bodies.{functions_of, functions_of_entries}
use Rattle.naga_flow.specs.declared.bodies.BodyOwner.{BodyOwner}
use Rattle.naga_flow.specs.declared.bodies.BodyOwner.TheVariants as owner
use Rattle.naga_typifier.specs.Context.{context_in}
use Rattle.naga_typifier.specs.Typing.{typing}
use Rattle.naga_bounds.specs.Fits.{EachFits, IsFirstMisfit}
use Rattle.naga_bounds.specs.Reach.{Typed}
use Rattle.naga_bounds.specs.declared.invalid_access.InvalidAccess.{InvalidAccess}
use Rattle.naga_bounds.specs.declared.invalid_access.InvalidAccess.TheVariants as invalid
use Rattle.naga_bounds.specs.declared.invalid_access.Misfit.{Misfit}

-- The expressions of a function of a module with their types, as a typifier finds them: if an expression has no type, no
-- type is known from there on.
abbrev pub typed_in : the_module.Module → function.Function → Typed
typed_in whole inside = record {
  types = whole.types;
  known = (typing (context_in whole inside) [] (values inside.expressions)).0;
  arena = inside.expressions;
}

-- each access of the function fits
abbrev pub AccessesFitIn : the_module.Module → function.Function → Type 0
AccessesFitIn whole inside = EachFits (typed_in whole inside)

-- each access of each function and of each entry point fits
abbrev pub AccessesFit : the_module.Module → Type 0
AccessesFit whole =
    All (AccessesFitIn whole) (functions_of whole)
    × All (AccessesFitIn whole) (functions_of_entries whole.entry_points.items)

-- the error names this owner, and the first access of its function that does not fit
abbrev pub IsInvalidIn : the_module.Module → function.Function → BodyOwner → InvalidAccess → Type 0
IsInvalidIn whole inside owner invalid.Memory = ⊤
IsInvalidIn whole inside owner (invalid.Misfit found) =
    (found.owner ≡ owner) × IsFirstMisfit (typed_in whole inside) found.expression found.cause

-- this is the first access that does not fit of the function at this position, and the accesses of those before it fit
pub record IsFirstAt (whole : the_module.Module) (functions : List function.Function) (position : ℕ) (found : Misfit) : Type 0 where
  pub inside : function.Function
  pub at : slice_get functions position ≡ Some inside
  pub first : IsFirstMisfit (typed_in whole inside) found.expression found.cause
  pub earlier : All (AccessesFitIn whole) (take position functions)

-- the same for the function of this owner, where the functions come before the entry points
abbrev pub IsFirstOf : the_module.Module → BodyOwner → Misfit → Type 0
IsFirstOf whole (owner.Function handle) found = IsFirstAt whole (functions_of whole) handle found
IsFirstOf whole (owner.EntryPoint position) found =
    All (AccessesFitIn whole) (functions_of whole)
    × IsFirstAt whole (functions_of_entries whole.entry_points.items) position found

-- The error names the first access of the module that does not fit. If an allocation failed, nothing is said here.
abbrev pub IsInvalid : the_module.Module → InvalidAccess → Type 0
IsInvalid whole invalid.Memory = ⊤
IsInvalid whole (invalid.Misfit found) = IsFirstOf whole found.owner found
