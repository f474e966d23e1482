-- What passes make of a module, one after another.
--
-- Culling culls all bodies, closing closes them by its rule, compacting compacts the module, and restricting clamps the
-- accesses that may be out of bounds.
use Rattle.std.specs.Prelude.{◌≡◌, ℕ, List, [], ◌∷◌, Some, slice_get, take}
use Rattle.naga_proc.specs.Bodies.{ClosesBodies, HasRoomInBodies, HasSameStatements}
use Rattle.naga_compact.specs.Module.Compaction.{CompactsModule}
use Rattle.naga_compact.specs.declared.module.renumbering.ModuleRenumbering.{ModuleRenumbering}
use Rattle.naga_ir.specs.Module.{IsEmptyModule}
use Rattle.naga_ir.specs.declared.module.Module as the_module
use Rattle.naga_bounds.specs.RestrictedModules.{IsRestrictError, RestrictsModule}
use Rattle.naga_bounds.specs.declared.restrict_error.RestrictError.{RestrictError}
use Rattle.naga_passes.specs.Culling.{CullsBodies}
use Rattle.naga_passes.specs.PassFault.{fault_of}
use Rattle.naga_passes.specs.declared.pass.Pass.{Pass}
use Rattle.naga_passes.specs.declared.pass.Pass.TheVariants.{Cull, Close, Compact, Restrict}
use Rattle.naga_passes.specs.declared.pass_error.PassFault.{PassFault}
use Rattle.naga_passes.specs.declared.pass_error.PassFault.TheVariants.{Memory}

-- the second module is what the pass makes of the first
abbrev pub Transforms : Pass → (old new : the_module.Module) → Type 0
Transforms Cull old new = CullsBodies old new
Transforms (Close rule) old new = ClosesBodies rule old new
Transforms (Compact keep_unused) old new = (kept : ModuleRenumbering) × CompactsModule old keep_unused kept new
Transforms Restrict old new = RestrictsModule old new

-- the second module is what the passes make of the first, each of what the one before it made
abbrev pub After : List Pass → (old new : the_module.Module) → Type 0
After [] old new = new ≡ old
After (pass ∷ others) old new = (middle : the_module.Module) × Transforms pass old middle × After others middle new

-- What the pass leaves if it stops for this reason. Culling never stops, and closing and compacting stop only if an
-- allocation fails. Closing leaves all statements as they were, and no allocation fails if all bodies have room for their
-- returns. Compacting leaves an empty module. Restricting leaves the functions before the one that its error names
-- restricted, and all others as they were.
abbrev pub Leaves : Pass → PassFault → (old new : the_module.Module) → Type 0
Leaves Cull fault old new = ⊥
Leaves (Close rule) fault old new = (fault ≡ Memory) × HasSameStatements old new × ¬ HasRoomInBodies rule old
Leaves (Compact keep_unused) fault old new = (fault ≡ Memory) × IsEmptyModule new
Leaves Restrict fault old new = (error : RestrictError) × (fault ≡ fault_of error) × IsRestrictError old new error

-- the pass at the position stopped for this reason, and those before it were run
pub record StopsAt (position : ℕ) (fault : PassFault) (passes : List Pass) (old new : the_module.Module) : Type 0 where
  pub failed : Pass
  pub found : slice_get passes position ≡ Some failed
  pub middle : the_module.Module
  pub before : After (take position passes) old middle
  pub left : Leaves failed fault middle new
