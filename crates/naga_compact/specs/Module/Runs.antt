-- The runs of the functions of a module that is compacted.
use Rattle.std.specs.Prelude.{◌≡◌, ◌↔◌, ℕ, Some, slice_get, true}
use Rattle.std.specs.FinSet.{contains}
use Rattle.naga_arena.specs.declared.span.Span.{Span}
use Rattle.naga_ir.specs.View.{tree_of}
use Rattle.naga_ir.specs.declared.module.EntryPoint as entry_point
use Rattle.naga_ir.specs.declared.module.Function as function
use Rattle.naga_ir.specs.declared.module.Module as the_module
use Rattle.naga_sets.specs.HandleSet.{BoundedSet}
use Rattle.naga_compact.specs.Compaction.{IsMember}
use Rattle.naga_compact.specs.Functions.{IsNeededIn}
use Rattle.naga_compact.specs.Kept.{new_index}
use Rattle.naga_compact.specs.Mapping.Runs.{MappedRunsFit}
use Rattle.naga_compact.specs.Renaming.{of_expressions}
use Rattle.naga_compact.specs.Renaming.Renumbering.{renaming_of}
use Rattle.naga_compact.specs.Operands.{IsReached}
use Rattle.naga_compact.specs.derived.Renaming.{rename_statement}
use Rattle.naga_compact.specs.declared.module.renumbering.ModuleRenumbering.{ModuleRenumbering}

-- each run of the first function, with the new handles of the expressions that are reached and of the functions that
-- are called, is a run of the second
pub record KeepsRuns (kept : ModuleRenumbering) (old new : function.Function) : Type 0 where
  pub expressions : BoundedSet
  pub reached : (handle : ℕ) → IsMember expressions handle ↔ IsReached old.expressions (IsNeededIn old) handle
  pub runs : MappedRunsFit (λ statement. rename_statement (renaming_of kept) (rename_statement (of_expressions (new_index expressions)) statement))
      (new_index expressions) (tree_of old.body) (tree_of new.body)

-- each function that is kept has its runs at its new handle, and each entry point has them at its old position
pub record KeepsAllRuns (old : the_module.Module) (kept : ModuleRenumbering) (new : the_module.Module) : Type 0 where
  pub functions : (handle : ℕ) (before : function.Function × Span) → slice_get old.functions handle ≡ Some before →
      contains kept.functions.members handle ≡ true →
      (after : function.Function × Span) × (slice_get new.functions (new_index kept.functions handle) ≡ Some after) × KeepsRuns kept before.0 after.0
  pub entry_points : (position : ℕ) (before : entry_point.EntryPoint) → slice_get old.entry_points.items position ≡ Some before →
      (after : entry_point.EntryPoint) × (slice_get new.entry_points.items position ≡ Some after) × KeepsRuns kept before.function after.function
