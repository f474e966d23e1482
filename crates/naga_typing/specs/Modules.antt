-- The types of the expressions of the functions of a module that is compacted.
use Rattle.std.specs.Prelude.{◌≡◌, ◌↔◌, [], ℕ, List, None, Option, Some, slice_get, true}
use Rattle.std.specs.FinSet.{contains}
use Rattle.std.specs.Option.{option_map}
use Rattle.naga_arena.specs.Arena.{values}
use Rattle.naga_arena.specs.declared.span.Span.{Span}
use Rattle.naga_ir.specs.declared.module.EntryPoint as entry_point
use Rattle.naga_ir.specs.declared.module.Function as function
use Rattle.naga_ir.specs.declared.module.Module as the_module
use Rattle.naga_sets.specs.HandleSet.{BoundedSet}
use Rattle.naga_compact.specs.Compaction.{IsMember}
use Rattle.naga_compact.specs.Functions.{IsNeededIn}
use Rattle.naga_compact.specs.Kept.{new_index}
use Rattle.naga_compact.specs.Operands.{IsReached}
use Rattle.naga_compact.specs.Renaming.Renumbering.{renaming_of}
use Rattle.naga_compact.specs.declared.module.renumbering.ModuleRenumbering.{ModuleRenumbering}
use Rattle.naga_typifier.specs.Typing.{typing}
use Rattle.naga_typifier.specs.declared.resolution.TypeResolution.{TypeResolution}
use Rattle.naga_typing.specs.Functions.{HasTypes}
use Rattle.naga_typifier.specs.Context.{context_in}
use Rattle.naga_typing.specs.Renamed.{rename_resolution}

-- Each expression of the first function that is reached has its type in the second, renamed and at its new handle. If a
-- typifier finds the types of all expressions of the first function, it does so for the second.
pub record KeepsTypes (kept : ModuleRenumbering) (whole : the_module.Module) (old : function.Function)
    (whole' : the_module.Module) (new : function.Function) : Type 0 where
  pub expressions : BoundedSet
  pub reached : (handle : ℕ) → IsMember expressions handle ↔ IsReached old.expressions (IsNeededIn old) handle
  pub same : (types types' : ℕ → Option TypeResolution) → HasTypes whole old types → HasTypes whole' new types' →
      (handle : ℕ) → IsMember expressions handle →
      types' (new_index expressions handle) ≡ option_map (rename_resolution (renaming_of kept)) (types handle)
  pub typing : (found : List TypeResolution) →
      typing (context_in whole old) [] (values old.expressions) ≡ (found, None) →
      (left : List TypeResolution) × (typing (context_in whole' new) [] (values new.expressions) ≡ (left, None))
      × ((handle : ℕ) → IsMember expressions handle →
      slice_get left (new_index expressions handle)
      ≡ option_map (rename_resolution (renaming_of kept)) (slice_get found handle))

-- each function that is kept has its types at its new handle, and each entry point has them at its old position
pub record KeepsAllTypes (old : the_module.Module) (kept : ModuleRenumbering) (new : the_module.Module) : Type 0 where
  pub functions : (handle : ℕ) (before : function.Function × Span) → slice_get old.functions handle ≡ Some before →
      contains kept.functions.members handle ≡ true →
      (after : function.Function × Span) × (slice_get new.functions (new_index kept.functions handle) ≡ Some after)
      × KeepsTypes kept old before.0 new after.0
  pub entry_points : (position : ℕ) (before : entry_point.EntryPoint) →
      slice_get old.entry_points.items position ≡ Some before →
      (after : entry_point.EntryPoint) × (slice_get new.entry_points.items position ≡ Some after)
      × KeepsTypes kept old before.function new after.function

-- ---- modules of which only bodies change

-- the types of the expressions of the first function are those of the second one
abbrev pub HasSameTypes : (whole : the_module.Module) → function.Function
    → (whole' : the_module.Module) → function.Function → Type 0
HasSameTypes whole old whole' new =
    (types : ℕ → Option TypeResolution) → HasTypes whole old types → HasTypes whole' new types

-- each function and each entry point has the same types in the second module
pub record HaveSameTypes (old new : the_module.Module) : Type 0 where
  pub functions : (handle : ℕ) (before : function.Function × Span) → slice_get old.functions handle ≡ Some before →
      (after : function.Function × Span) × (slice_get new.functions handle ≡ Some after)
      × HasSameTypes old before.0 new after.0
  pub entry_points : (position : ℕ) (before : entry_point.EntryPoint) →
      slice_get old.entry_points.items position ≡ Some before →
      (after : entry_point.EntryPoint) × (slice_get new.entry_points.items position ≡ Some after)
      × HasSameTypes old before.function new after.function
