-- The module in which first the functions are restricted, and then the entry points.
use Rattle.std.specs.Prelude.{◌≡◌}
use Rattle.std.specs.List.{AllZip}
use Rattle.naga_ir.specs.declared.module.Module as the_module
use Rattle.naga_flow.specs.Bodies.{functions_of_entries}
use Rattle.naga_flow.specs.declared.bodies.BodyOwner.{BodyOwner}
use Rattle.naga_flow.specs.declared.bodies.BodyOwner.TheVariants as owner
use Rattle.naga_bounds.specs.RestrictedModules.{AreChangedTo, HasObstacleAt, RestrictsElement, RestrictsEntry}
use Rattle.naga_bounds.specs.declared.restrict_error.Obstacle.{Obstacle}
use Rattle.naga_bounds.specs.declared.restrict_error.RestrictError.{RestrictError}

-- each function that is not an entry point is restricted, and nothing else of the module changes
abbrev pub RestrictsFunctions : (old new : the_module.Module) → Type 0
RestrictsFunctions old new =
    AllZip (RestrictsElement old) old.functions new.functions × (new ≡ record old { functions = new.functions })

-- the function of each entry point is restricted, and nothing else of the module changes
abbrev pub RestrictsEntries : (old new : the_module.Module) → Type 0
RestrictsEntries old new =
    AllZip (RestrictsEntry old) old.entry_points.items new.entry_points.items
    × (new ≡ record old { entry_points = new.entry_points })

-- the entry point has this obstacle, and those before it are restricted; nothing else of the module changes
abbrev pub AreEntriesRestrictedTo : (old new : the_module.Module) → BodyOwner → Obstacle → Type 0
AreEntriesRestrictedTo old new (owner.Function handle) found = ⊥
AreEntriesRestrictedTo old new (owner.EntryPoint position) found =
    HasObstacleAt old (functions_of_entries old.entry_points.items) position found
    × AreChangedTo (RestrictsEntry old) position old.entry_points.items new.entry_points.items
    × (new ≡ record old { entry_points = new.entry_points })

-- The error names the first entry point that cannot be restricted.
abbrev pub IsEntryError : (old new : the_module.Module) → RestrictError → Type 0
IsEntryError old new error = AreEntriesRestrictedTo old new error.owner error.obstacle
