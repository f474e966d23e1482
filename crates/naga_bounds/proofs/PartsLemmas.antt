-- The functions of a module are restricted, and then its entry points.
use Rattle.std.proofs.Common.{◌≡◌, ◌∙◌, ap, subst, sym, ℕ, List, [], ◌∷◌, Some, length, take}
use Rattle.std.specs.List.{AllZip}
use Rattle.std.specs.Prelude.{slice_get}
use Rattle.naga_ir.specs.declared.module.EntryPoint.{EntryPoint}
use Rattle.naga_ir.specs.declared.module.Module as the_module
use Rattle.naga_flow.specs.Bodies.{functions_of_entries}
use Rattle.naga_flow.specs.declared.bodies.BodyOwner.{BodyOwner}
use Rattle.naga_flow.specs.declared.bodies.BodyOwner.TheVariants as owner
use Rattle.naga_bounds.specs.RestrictedModules.{AreChangedTo, IsRestrictedTo, RestrictsElement, RestrictsEntry, RestrictsModule}
use Rattle.naga_bounds.specs.RestrictedModules.Parts.{AreEntriesRestrictedTo, RestrictsEntries, RestrictsFunctions}
use Rattle.naga_bounds.specs.declared.restrict_error.Obstacle.{Obstacle}
use Rattle.naga_bounds.proofs.AreChangedToLemmas.{AllZip-ReplacedTo}
use Rattle.naga_bounds.proofs.RestrictsLemmas.{IsObstacle-functions, RestrictsIn-functions}

-- a relation that follows from another one
AllZip-weaker : {X : Type 0} (R S : X → X → Type 0) → ((x y : X) → R x y → S x y) → (xs ys : List X) → AllZip R xs ys → AllZip S xs ys
AllZip-weaker R S weaker [] [] zip = tt
AllZip-weaker R S weaker [] (y ∷ ys) zip = absurd zip
AllZip-weaker R S weaker (x ∷ xs) [] zip = absurd zip
AllZip-weaker R S weaker (x ∷ xs) (y ∷ ys) zip = (weaker x y zip.0, AllZip-weaker R S weaker xs ys zip.1)

-- first the functions of `old` are restricted, which gives `half`, and then the entry points of that
module _ (old half new : the_module.Module) (first : RestrictsFunctions old half) where
  entry : (before after : EntryPoint) → RestrictsEntry half before after → RestrictsEntry old before after
  entry before after is =
      (is.0, RestrictsIn-functions old half (length old.functions) (AllZip-ReplacedTo (RestrictsElement old) old.functions half.functions first.0) first.1 before.function after.function is.1)

  same_entries : half.entry_points.items ≡ old.entry_points.items
  same_entries = ap (λ (given : the_module.Module). given.entry_points.items) first.1

  module _ (second : new ≡ record half { entry_points = new.entry_points }) where
    same_functions : half.functions ≡ new.functions
    same_functions = sym (ap (λ (given : the_module.Module). given.functions) second)

    outside : new ≡ record old { functions = new.functions; entry_points = new.entry_points }
    outside =
        second ∙ ap (λ (given : the_module.Module). record given { entry_points = new.entry_points }) first.1
        ∙ ap (λ functions. record old { functions = functions; entry_points = new.entry_points }) same_functions

    functions : AllZip (RestrictsElement old) old.functions new.functions
    functions = subst (AllZip (RestrictsElement old) old.functions) same_functions first.0

  pub RestrictsEntries-module : RestrictsEntries half new → RestrictsModule old new
  RestrictsEntries-module is = record {
    outside = outside is.1;
    functions = functions is.1;
    entry_points = subst (λ entries. AllZip (RestrictsEntry old) entries new.entry_points.items) same_entries
        (AllZip-weaker (RestrictsEntry half) (RestrictsEntry old) entry half.entry_points.items new.entry_points.items is.0);
  }

  changed_to : (position : ℕ) → AreChangedTo (RestrictsEntry half) position half.entry_points.items new.entry_points.items
      → AreChangedTo (RestrictsEntry old) position old.entry_points.items new.entry_points.items
  changed_to position is =
      subst (λ entries. AreChangedTo (RestrictsEntry old) position entries new.entry_points.items) same_entries (record {
        first = AllZip-weaker (RestrictsEntry half) (RestrictsEntry old) entry (take position half.entry_points.items) (take position new.entry_points.items) is.first;
        rest = is.rest;
      })

  pub AreEntriesRestrictedTo-module : (named : BodyOwner) (found : Obstacle) → AreEntriesRestrictedTo half new named found
      → IsRestrictedTo old new named found
  AreEntriesRestrictedTo-module (owner.Function handle) found is = absurd is
  AreEntriesRestrictedTo-module (owner.EntryPoint position) found is =
      let inside = is.0.0 in
      let at : slice_get (functions_of_entries old.entry_points.items) position ≡ Some inside =
      subst (λ entries. slice_get (functions_of_entries entries) position ≡ Some inside) same_entries is.0.1 in
      let obstacle = IsObstacle-functions old half (length old.functions) (AllZip-ReplacedTo (RestrictsElement old) old.functions half.functions first.0) first.1 inside found is.0.2 in
      ((inside, at, obstacle), functions is.2, changed_to position is.1, outside is.2)
