-- What the handles of a module that is compacted represent, and the meanings of its functions where each handle
-- represents that.
use Rattle.std.specs.Prelude.{◌≡◌, ⊤, ℕ, Bool, Some, slice_get, true}
use Rattle.std.specs.FinSet.{contains}
use Rattle.naga_arena.specs.declared.span.Span.{Span}
use Rattle.naga_ir.specs.declared.module.EntryPoint as entry_point
use Rattle.naga_ir.specs.declared.module.Function as function
use Rattle.naga_ir.specs.declared.module.Module as the_module
use Rattle.naga_valid.specs.declared.reference.Reference.{Reference}
use Rattle.naga_valid.specs.declared.reference.Reference.TheVariants as reference
use Rattle.naga_compact.specs.Kept.{new_index}
use Rattle.naga_compact.specs.Module.Compaction.{kept_handles}
use Rattle.naga_compact.specs.Module.Used.{is_member}
use Rattle.naga_compact.specs.Renaming.{rename_reference}
use Rattle.naga_compact.specs.Renaming.Renumbering.{renaming_of}
use Rattle.naga_compact.specs.declared.module.renumbering.ModuleRenumbering.{ModuleRenumbering}
use Rattle.naga_meaning.specs.Functions.{Meanings, meaning}
use Rattle.naga_meaning.specs.Modules.{KeepsMeaning}
use Rattle.naga_meaning.specs.Readings.{ReadsAlike, read_by}
use Rattle.naga_meaning.specs.Renaming.{SameKept}
use Rattle.naga_meaning.specs.Things.{placed}
use Rattle.naga_meaning.specs.Values.{World}

-- The element with this handle is kept. What is no element of the module is never removed.
abbrev pub Remains : ModuleRenumbering → Reference → Type 0
Remains kept (reference.Expression handle) = ⊤
Remains kept (reference.Expressions start end') = ⊤
Remains kept (reference.LocalVariable handle) = ⊤
Remains kept (reference.DiagnosticFilter handle) = ⊤
Remains kept name = is_member (kept_handles kept) name ≡ true

-- Each global variable, override and function that is kept has the same place in the new module, at its new handle, as
-- in the old one.
abbrev pub KeepsPlaces : {Place : Type 0} → ModuleRenumbering → (place place' : Reference → Place) → Type 0
KeepsPlaces kept place place' =
    (name : Reference) → Remains kept name → placed place' (rename_reference (renaming_of kept) name) ≡ placed place name

-- what is kept represents the same in the new module, at its new handle, as in the old one
abbrev pub KeepsThings : {Thing : Type 0} → ModuleRenumbering → (look look' : Reference → Thing) → Type 0
KeepsThings kept look look' =
    (name : Reference) → Remains kept name → look' (rename_reference (renaming_of kept) name) ≡ look name

module _ {Thing : Type 0} (Value State : Type 0) (look look' : Reference → Thing) where
  -- The second function keeps its meaning, whatever its handles represent. So it also means the same where the handles
  -- in each function represent what they do in its own module.
  pub record KeepsMeaningOf (kept : ModuleRenumbering) (old new : function.Function) : Type 0 where
    pub keeps : KeepsMeaning Thing Value State kept old new
    pub same : (at_use at_use' : ℕ → Bool) → ReadsAlike (contains keeps.expressions.members) (new_index keeps.expressions) at_use at_use' →
        (by : Meanings Thing Value State) (turns : ℕ) (a b : World Value State) →
        SameKept (contains keeps.expressions.members) (new_index keeps.expressions) a b →
        meaning look' by turns (read_by at_use' new) b ≡ meaning look by turns (read_by at_use old) a

  -- each function that is kept has its meaning at its new handle, and each entry point has it at its old position
  pub record KeepsMeaningsOf (old : the_module.Module) (kept : ModuleRenumbering) (new : the_module.Module) : Type 0 where
    pub functions : (handle : ℕ) (before : function.Function × Span) → slice_get old.functions handle ≡ Some before →
        contains kept.functions.members handle ≡ true →
        (after : function.Function × Span) × (slice_get new.functions (new_index kept.functions handle) ≡ Some after) × KeepsMeaningOf kept before.0 after.0
    pub entry_points : (position : ℕ) (before : entry_point.EntryPoint) → slice_get old.entry_points.items position ≡ Some before →
        (after : entry_point.EntryPoint) × (slice_get new.entry_points.items position ≡ Some after) × KeepsMeaningOf kept before.function after.function
