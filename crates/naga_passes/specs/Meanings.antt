-- What functions compute after passes.
--
-- Culling and compacting keep the outcome of a function. Closing keeps it, except that the function returns where it
-- fell off the end: by the new rule always, and by the old rule unless it slipped out of a switch there. Compacting
-- moves functions and all to which they refer, so handles are followed through its renumberings. Restricting keeps the
-- outcome only of executions that access no element that is not there.
use Rattle.std.specs.Prelude.{◌≡◌, ◌<◌, ⊤, ℕ, Bool, true, ◌&&◌, List, [], ◌∷◌, length, map, Option, Some, option_and_then, option_map, slice_get}
use Rattle.std.specs.FinSet.{contains}
use Rattle.std.specs.List.{AllZip}
use Rattle.naga_arena.specs.declared.span.Span.{Span}
use Rattle.naga_ir.specs.declared.module.Function as function
use Rattle.naga_ir.specs.declared.module.Module as the_module
use Rattle.naga_sets.specs.HandleSet.{BoundedSet}
use Rattle.naga_valid.specs.declared.reference.Reference.{Reference}
use Rattle.naga_compact.specs.Kept.{new_index}
use Rattle.naga_compact.specs.Renaming.{rename_reference}
use Rattle.naga_compact.specs.Renaming.Renumbering.{renaming_of}
use Rattle.naga_compact.specs.declared.module.renumbering.ModuleRenumbering.{ModuleRenumbering}
use Rattle.naga_proc.specs.declared.terminator.rule.Rule.TheVariants.{New, Old}
use Rattle.naga_meaning.specs.Closing.{closed_outcome, turned_outcome}
use Rattle.naga_meaning.specs.Functions.{Meanings, meaning}
use Rattle.naga_meaning.specs.KeptThings.{KeepsPlaces}
use Rattle.naga_flow.specs.Readings.{constant_chains_in}
use Rattle.naga_meaning.specs.Readings.{Reading, ReadsAlike, by_chains, chains_in, read_by}
use Rattle.naga_meaning.specs.Renaming.{SameKept}
use Rattle.naga_meaning.specs.Values.{Outcome, World}
use Rattle.naga_passes.specs.After.{After}
use Rattle.naga_passes.specs.declared.pass.Pass.{Pass}
use Rattle.naga_passes.specs.declared.pass.Pass.TheVariants.{Cull, Close, Compact, Restrict}

-- ---- outcomes

-- the outcome of a function after the pass, by its outcome before, of an execution in bounds if the pass restricts
abbrev pub outcome_by : {Value State : Type 0} → Pass → Outcome Value State → Outcome Value State
outcome_by Cull outcome = outcome
outcome_by (Close New) outcome = closed_outcome outcome
outcome_by (Close Old) outcome = turned_outcome outcome
outcome_by (Compact keep_unused) outcome = outcome
outcome_by Restrict outcome = outcome

-- the outcome of a function after the passes, one after another
abbrev pub outcome_after : {Value State : Type 0} → List Pass → Outcome Value State → Outcome Value State
outcome_after [] outcome = outcome
outcome_after (pass ∷ others) outcome = outcome_after others (outcome_by pass outcome)

-- the pass clamps no accesses, so that it keeps also what executions compute that are out of bounds
abbrev pub RestrictsNothing : Pass → Type 0
RestrictsNothing Cull = ⊤
RestrictsNothing (Close rule) = ⊤
RestrictsNothing (Compact keep_unused) = ⊤
RestrictsNothing Restrict = ⊥

-- ---- handles

-- the renumberings of the passes that compact, in order
abbrev pub renumberings_of : (passes : List Pass) (old new : the_module.Module) → After passes old new → List ModuleRenumbering
renumberings_of [] old new after = []
renumberings_of (Cull ∷ others) old new after = renumberings_of others after.0 new after.2
renumberings_of (Close rule ∷ others) old new after = renumberings_of others after.0 new after.2
renumberings_of (Compact keep_unused ∷ others) old new after = after.1.0 ∷ renumberings_of others after.0 new after.2
renumberings_of (Restrict ∷ others) old new after = renumberings_of others after.0 new after.2

-- the reference with its handle renumbered by each of these, in order
abbrev pub renamed_reference : List ModuleRenumbering → Reference → Reference
renamed_reference [] name = name
renamed_reference (kept ∷ others) name = renamed_reference others (rename_reference (renaming_of kept) name)

-- the new index of a handle by sets of kept handles, of which each has the new handles of the one before it
abbrev pub index_after : List BoundedSet → ℕ → ℕ
index_after [] handle = handle
index_after (kept ∷ others) handle = index_after others (new_index kept handle)

-- the handle is kept by each of these sets
abbrev pub is_kept : List BoundedSet → ℕ → Bool
is_kept [] handle = true
is_kept (kept ∷ others) handle = contains kept.members handle && is_kept others (new_index kept handle)

-- the sets of functions that these renumberings keep
abbrev pub kept_functions : List ModuleRenumbering → List BoundedSet
kept_functions = map (λ kept. kept.functions)

-- ---- functions

module _ (Thing Value State : Type 0) (passes : List Pass) (renumberings : List ModuleRenumbering) where
  -- The second function has the outcome of the first one after the passes, whatever operators and statements do, from
  -- each start with the same state and the same values of the expressions that are kept. The new handles of the module
  -- may represent anything, if the old ones represent the same. The expressions that are kept may be read in any way,
  -- if both functions are read alike, as both readings that are defined read them.
  pub record ComputesAfter (old new : function.Function) : Type 0 where
    pub expressions : List BoundedSet
    pub same : (at_use at_use' : ℕ → Bool) → ReadsAlike (is_kept expressions) (index_after expressions) at_use at_use' →
        (look : Reference → Thing) (by : Meanings Thing Value State) (turns : ℕ) (a b : World Value State) →
        SameKept (is_kept expressions) (index_after expressions) a b →
        meaning look by turns (read_by at_use' new) b
        ≡ outcome_after passes (meaning (λ name. look (renamed_reference renumberings name)) by turns (read_by at_use old) a)
    pub chains : ReadsAlike (is_kept expressions) (index_after expressions) (chains_in old.expressions) (chains_in new.expressions)
    pub constant_chains : (chosen chosen' : ℕ → Bool) → ReadsAlike (is_kept expressions) (index_after expressions) chosen chosen' →
        ReadsAlike (is_kept expressions) (index_after expressions)
        (constant_chains_in chosen old.expressions) (constant_chains_in chosen' new.expressions)

module _ {Thing : Type 0} (Value State : Type 0) (look look' : Reference → Thing) (passes : List Pass) (renumberings : List ModuleRenumbering) where
  -- The second function has the outcomes of the first one after the passes, whatever its handles represent. So it also
  -- has them where the handles in each function represent what they do in its own module.
  pub record ComputesAfterOf (old new : function.Function) : Type 0 where
    pub computes : ComputesAfter Thing Value State passes renumberings old new
    pub same : (at_use at_use' : ℕ → Bool) → ReadsAlike (is_kept computes.expressions) (index_after computes.expressions) at_use at_use' →
        (by : Meanings Thing Value State) (turns : ℕ) (a b : World Value State) →
        SameKept (is_kept computes.expressions) (index_after computes.expressions) a b →
        meaning look' by turns (read_by at_use' new) b ≡ outcome_after passes (meaning look by turns (read_by at_use old) a)

-- ---- modules

-- Each function that is kept becomes a related one at its new handle, and there are no other functions. Each entry point
-- becomes a related one at its old position.
pub record FunctionsBecome (Related : (old new : function.Function) → Type 0) (renumberings : List ModuleRenumbering) (old new : the_module.Module) : Type 0 where
  pub functions : (handle : ℕ) (before : function.Function × Span) → slice_get old.functions handle ≡ Some before →
      is_kept (kept_functions renumberings) handle ≡ true →
      (after : function.Function × Span) × (slice_get new.functions (index_after (kept_functions renumberings) handle) ≡ Some after)
      × Related before.0 after.0
  pub no_others : (index : ℕ) → index < length new.functions →
      (handle : ℕ) × (handle < length old.functions) × (is_kept (kept_functions renumberings) handle ≡ true)
      × (index_after (kept_functions renumberings) handle ≡ index)
  pub entry_points : AllZip (λ before after. Related before.function after.function) old.entry_points.items new.entry_points.items

-- each function of the module has its outcomes after the passes
abbrev pub FunctionsComputeAfter : (Thing Value State : Type 0) (passes : List Pass) (renumberings : List ModuleRenumbering) (old new : the_module.Module) → Type 0
FunctionsComputeAfter Thing Value State passes renumberings =
    FunctionsBecome (ComputesAfter Thing Value State passes renumberings) renumberings

-- the same, where handles represent this in the old module and in the new one
abbrev pub FunctionsComputeAfterOf : {Thing : Type 0} (Value State : Type 0) (look look' : Reference → Thing) (passes : List Pass) (renumberings : List ModuleRenumbering) (old new : the_module.Module) → Type 0
FunctionsComputeAfterOf Value State look look' passes renumberings =
    FunctionsBecome (ComputesAfterOf Value State look look' passes renumberings) renumberings

-- Each global variable, override and function that the renumberings keep has the same place before and after: each
-- renumbering keeps the places of what it keeps.
abbrev pub KeepsPlacesAfter : {Place : Type 0} → List ModuleRenumbering → (place place' : Reference → Place) → Type 0
KeepsPlacesAfter [] place place' = place' ≡ place
KeepsPlacesAfter {Place} (kept ∷ others) place place' =
    (between : Reference → Place) × KeepsPlaces kept place between × KeepsPlacesAfter others between place'

-- ---- calls

-- the function of the module with this handle, if there is one, read by access chains
abbrev pub reading_at : the_module.Module → ℕ → Option Reading
reading_at whole handle = option_map (λ entry. by_chains entry.0) (slice_get whole.functions handle)

module _ {Thing : Type 0} (function_of : Thing → Option ℕ) where
  -- each function that is found is one of the module, and the renumberings keep it
  abbrev pub FindsKept : List ModuleRenumbering → the_module.Module → Type 0
  FindsKept renumberings old =
      (thing : Thing) (handle : ℕ) → function_of thing ≡ Some handle →
      (handle < length old.functions) × (is_kept (kept_functions renumberings) handle ≡ true)

  -- the function that is found, in the old module
  abbrev pub found_before : (old : the_module.Module) → Thing → Option Reading
  found_before old thing = option_and_then (reading_at old) (function_of thing)

  -- the same function in the new module, at its new handle
  abbrev pub found_after : List ModuleRenumbering → (new : the_module.Module) → Thing → Option Reading
  found_after renumberings new thing =
      option_and_then (λ handle. reading_at new (index_after (kept_functions renumberings) handle)) (function_of thing)
