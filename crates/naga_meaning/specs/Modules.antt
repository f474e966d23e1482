-- The meanings of the functions of a module that is compacted.
use Rattle.std.specs.Prelude.{◌≡◌, ◌↔◌, ℕ, Bool, Some, slice_get, true}
use Rattle.std.specs.FinSet.{contains}
use Rattle.naga_arena.specs.declared.span.Span.{Span}
use Rattle.naga_ir.specs.declared.module.EntryPoint as entry_point
use Rattle.naga_ir.specs.declared.module.Function as function
use Rattle.naga_ir.specs.declared.module.Module as the_module
use Rattle.naga_sets.specs.HandleSet.{BoundedSet}
use Rattle.naga_valid.specs.declared.reference.Reference.{Reference}
use Rattle.naga_compact.specs.Compaction.{IsMember}
use Rattle.naga_compact.specs.Functions.{IsNeededIn}
use Rattle.naga_compact.specs.Kept.{new_index}
use Rattle.naga_compact.specs.Operands.{IsReached}
use Rattle.naga_compact.specs.Renaming.{rename_reference}
use Rattle.naga_compact.specs.Renaming.Renumbering.{renaming_of}
use Rattle.naga_compact.specs.declared.module.renumbering.ModuleRenumbering.{ModuleRenumbering}
use Rattle.naga_meaning.specs.Functions.{Meanings, meaning}
use Rattle.naga_flow.specs.Readings.{constant_chains_in}
use Rattle.naga_meaning.specs.Readings.{ReadsAlike, chains_in, read_by}
use Rattle.naga_meaning.specs.Renaming.{SameKept}
use Rattle.naga_meaning.specs.Values.{World}

module _ (Thing Value State : Type 0) where
  -- The second function means the same as the first, whatever operators and statements do and whatever the new
  -- handles of the module represent, if old handles represent the same. The expressions that are kept may be read in
  -- any way, if both functions are read alike, as both readings that are defined read them.
  pub record KeepsMeaning (kept : ModuleRenumbering) (old new : function.Function) : Type 0 where
    pub expressions : BoundedSet
    pub reached : (handle : ℕ) → IsMember expressions handle ↔ IsReached old.expressions (IsNeededIn old) handle
    pub same : (at_use at_use' : ℕ → Bool) → ReadsAlike (contains expressions.members) (new_index expressions) at_use at_use' →
        (look : Reference → Thing) (by : Meanings Thing Value State) (turns : ℕ) (a b : World Value State) →
        SameKept (contains expressions.members) (new_index expressions) a b →
        meaning look by turns (read_by at_use' new) b ≡ meaning (λ name. look (rename_reference (renaming_of kept) name)) by turns (read_by at_use old) a
    pub chains : ReadsAlike (contains expressions.members) (new_index expressions) (chains_in old.expressions) (chains_in new.expressions)
    pub constant_chains : (chosen chosen' : ℕ → Bool) → ReadsAlike (contains expressions.members) (new_index expressions) chosen chosen' →
        ReadsAlike (contains expressions.members) (new_index expressions)
        (constant_chains_in chosen old.expressions) (constant_chains_in chosen' new.expressions)

  -- each function that is kept has its meaning at its new handle, and each entry point has it at its old position
  pub record KeepsMeanings (old : the_module.Module) (kept : ModuleRenumbering) (new : the_module.Module) : Type 0 where
    pub functions : (handle : ℕ) (before : function.Function × Span) → slice_get old.functions handle ≡ Some before →
        contains kept.functions.members handle ≡ true →
        (after : function.Function × Span) × (slice_get new.functions (new_index kept.functions handle) ≡ Some after) × KeepsMeaning kept before.0 after.0
    pub entry_points : (position : ℕ) (before : entry_point.EntryPoint) → slice_get old.entry_points.items position ≡ Some before →
        (after : entry_point.EntryPoint) × (slice_get new.entry_points.items position ≡ Some after) × KeepsMeaning kept before.function after.function
