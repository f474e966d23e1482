-- The first misfit of a function is that of its module, if the functions before it have none.
use Rattle.std.proofs.Common.{◌≡◌, subst, sym, ℕ, Some, take}
use Rattle.std.specs.Prelude.{All, slice_get}
use Rattle.naga_ir.specs.declared.module.Function as function
use Rattle.naga_ir.specs.declared.module.Module as the_module
use Rattle.naga_flow.specs.Bodies.{functions_of, functions_of_entries}
use Rattle.naga_flow.specs.declared.bodies.BodyOwner.TheVariants as owner
use Rattle.naga_bounds.specs.Modules.{AccessesFitIn, IsFirstOf, IsInvalid, IsInvalidIn}
use Rattle.naga_bounds.specs.declared.invalid_access.InvalidAccess.{InvalidAccess}
use Rattle.naga_bounds.specs.declared.invalid_access.InvalidAccess.TheVariants as invalid

module _ (whole : the_module.Module) (inside : function.Function) where
  pub IsInvalid-function : (handle : ℕ) (error : InvalidAccess) → IsInvalidIn whole inside (owner.Function handle) error
      → slice_get (functions_of whole) handle ≡ Some inside → All (AccessesFitIn whole) (take handle (functions_of whole))
      → IsInvalid whole error
  IsInvalid-function handle invalid.Memory is at earlier = tt
  IsInvalid-function handle (invalid.Misfit found) is at earlier =
      subst (λ named. IsFirstOf whole named found) (sym is.0) (record { inside = inside; at = at; first = is.1; earlier = earlier })

  pub IsInvalid-entry_point : (position : ℕ) (error : InvalidAccess) → IsInvalidIn whole inside (owner.EntryPoint position) error
      → All (AccessesFitIn whole) (functions_of whole) → slice_get (functions_of_entries whole.entry_points.items) position ≡ Some inside
      → All (AccessesFitIn whole) (take position (functions_of_entries whole.entry_points.items)) → IsInvalid whole error
  IsInvalid-entry_point position invalid.Memory is fit at earlier = tt
  IsInvalid-entry_point position (invalid.Misfit found) is fit at earlier =
      subst (λ named. IsFirstOf whole named found) (sym is.0) (fit, record { inside = inside; at = at; first = is.1; earlier = earlier })
