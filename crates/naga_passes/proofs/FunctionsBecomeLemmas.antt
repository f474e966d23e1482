-- Modules whose functions become related ones.
use Rattle.std.proofs.Common.{◌≡◌, ◌∙◌, sym, ap, subst, refl, ℕ, suc, ◌<◌, true, List, [], ◌∷◌, length, Some, arith}
use Rattle.std.proofs.lemmas.Option.{same_Some}
use Rattle.std.proofs.lemmas.Slice.Zip.{AllZip-long}
use Rattle.std.specs.FinSet.{contains}
use Rattle.std.specs.List.{AllZip}
use Rattle.std.specs.Prelude.{slice_get}
use Rattle.naga_arena.specs.declared.span.Span.{Span}
use Rattle.naga_ir.specs.Tree.{Tree}
use Rattle.naga_ir.specs.declared.module.EntryPoint as entry_point
use Rattle.naga_ir.specs.declared.module.Function as function
use Rattle.naga_ir.specs.declared.module.Module as the_module
use Rattle.naga_sets.specs.HandleSet.{BoundedSet}
use Rattle.naga_compact.specs.Kept.{kept_elements, new_index}
use Rattle.naga_compact.specs.Module.Compaction.{CompactsModule, HasCompactedFunction}
use Rattle.naga_compact.specs.Renaming.Functions.{IsRenamedEntryPoint}
use Rattle.naga_compact.specs.Renaming.Renumbering.{renaming_of}
use Rattle.naga_compact.specs.declared.module.renumbering.ModuleRenumbering.{ModuleRenumbering}
use Rattle.naga_compact.specs.declared.module.roots.KeepUnused.{KeepUnused}
use Rattle.naga_compact.proofs.CompactsFunctionsLemmas.{IsCompactedEntry}
use Rattle.naga_compact.proofs.KeptElementsLemmas.{length-kept_elements}
use Rattle.naga_proc.specs.Bodies.{ChangesBodies, ChangesBody, ChangesEntryBody}
use Rattle.naga_proc.proofs.Bodies.AllZipLemmas.{AllZip-itself, AllZip-then}
use Rattle.naga_proc.proofs.Bodies.ChangesBodiesLemmas.{ChangesEntry}
use Rattle.naga_meaning.proofs.KeepsMeaningsLemmas.{related_to}
use Rattle.naga_passes.specs.Meanings.{FunctionsBecome, index_after, is_kept, kept_functions}
use Rattle.naga_passes.proofs.BodiesComeFromLemmas.{IsRenamedEntry}
use Rattle.naga_passes.proofs.IndexAfterLemmas.{both-kept, first-kept, origin-below, second-kept}

-- lists of the same length of which the elements at each position are related
AllZip-each : {X Y : Type 0} (R : X → Y → Type 0) (xs : List X) (ys : List Y) → length ys ≡ length xs →
    ((k : ℕ) (x : X) → slice_get xs k ≡ Some x → (y : Y) × (slice_get ys k ≡ Some y) × R x y) → AllZip R xs ys
AllZip-each R [] [] long each = tt
AllZip-each R [] (y ∷ ys) long each = absurd (omega arith)
AllZip-each R (x ∷ xs) [] long each = absurd (omega arith)
AllZip-each R (x ∷ xs) (y ∷ ys) long each =
    let first = each 0 x refl in
    (subst (R x) (sym (same_Some y first.0 first.1)) first.2, AllZip-each R xs ys (omega arith) (λ k. each (suc k)))

-- a module that is compacted has a function for each one that is kept, and for no other
no_others-compacted : (old : the_module.Module) (keep_unused : KeepUnused) (kept : ModuleRenumbering) (new : the_module.Module) → CompactsModule old keep_unused kept new →
    (index : ℕ) → index < length new.functions → (handle : ℕ) × (handle < length old.functions) × (contains kept.functions.members handle ≡ true) × (new_index kept.functions handle ≡ index)
no_others-compacted old keep_unused kept new compacts index within =
    let once : length compacts.middle.functions ≡ length old.functions = AllZip-long IsCompactedEntry old.functions compacts.middle.functions compacts.functions.functions in
    let again : length new.functions ≡ length (kept_elements kept.functions compacts.middle.functions) =
    AllZip-long (IsRenamedEntry (renaming_of kept)) (kept_elements kept.functions compacts.middle.functions) new.functions compacts.removed.functions in
    let found = origin-below kept.functions (length compacts.middle.functions) index (omega (arith, length-kept_elements kept.functions compacts.middle.functions)) in
    (found.0, omega arith, found.2, found.3)

-- the functions of two entry points are related
abbrev Entries : (function.Function → function.Function → Type 0) → (before after : entry_point.EntryPoint) → Type 0
Entries Related before after = Related before.function after.function

-- ---- functions that become related ones

pub FunctionsBecome-themselves : (Related : function.Function → function.Function → Type 0) → ((f : function.Function) → Related f f) → (whole : the_module.Module) → FunctionsBecome Related [] whole whole
FunctionsBecome-themselves Related itself whole = record {
  functions = λ handle before found so. (before, found, itself before.0);
  no_others = λ index within. (index, within, refl, refl);
  entry_points = AllZip-itself (Entries Related) (λ entry. itself entry.function) whole.entry_points.items;
}

module _ (Then Joined : function.Function → function.Function → Type 0)
    (renumberings : List ModuleRenumbering) (old middle new : the_module.Module) (after : FunctionsBecome Then renumberings middle new) where
  -- a pass that changes only bodies, and then others
  pub FunctionsBecome-changed : (Related : Tree → Tree → Type 0) → ((f g h : function.Function) → ChangesBody Related f g → Then g h → Joined f h) →
      ChangesBodies Related old middle → FunctionsBecome Joined renumberings old new
  FunctionsBecome-changed Related joined changes =
      let long : length middle.functions ≡ length old.functions = AllZip-long (ChangesEntry Related) old.functions middle.functions changes.functions in
      record {
        functions = λ handle before found so.
            let between = related_to (ChangesEntry Related) old.functions middle.functions changes.functions handle before found in
            let last = after.functions handle between.0 between.1 so in
            (last.0, last.1, joined before.0 between.0.0 last.0.0 between.2.0 last.2);
        no_others = λ index within.
            let from = after.no_others index within in
            (from.0, omega arith, from.2, from.3);
        entry_points = AllZip-then (ChangesEntryBody Related) (Entries Then) (Entries Joined)
            (λ before between last changed computes. joined before.function between.function last.function changed.1 computes)
            old.entry_points.items middle.entry_points.items new.entry_points.items changes.entry_points after.entry_points;
      }

  -- a compaction, and then others
  pub FunctionsBecome-compacted : (First : function.Function → function.Function → Type 0) → ((f g h : function.Function) → First f g → Then g h → Joined f h) →
      (keep_unused : KeepUnused) (kept : ModuleRenumbering) → CompactsModule old keep_unused kept middle →
      ((handle : ℕ) (before : function.Function × Span) → slice_get old.functions handle ≡ Some before → contains kept.functions.members handle ≡ true →
      (between : function.Function × Span) × (slice_get middle.functions (new_index kept.functions handle) ≡ Some between) × First before.0 between.0) →
      ((position : ℕ) (before : entry_point.EntryPoint) → slice_get old.entry_points.items position ≡ Some before →
      (between : entry_point.EntryPoint) × (slice_get middle.entry_points.items position ≡ Some between) × First before.function between.function) →
      FunctionsBecome Joined (kept ∷ renumberings) old new
  FunctionsBecome-compacted First joined keep_unused kept compacts functions entry_points =
      let sets : List BoundedSet = kept_functions renumberings in
      let long : length middle.entry_points.items ≡ length old.entry_points.items =
      AllZip-long (IsRenamedEntryPoint (renaming_of kept)) compacts.middle.entry_points.items middle.entry_points.items compacts.removed.entry_points
      ∙ AllZip-long HasCompactedFunction old.entry_points.items compacts.middle.entry_points.items compacts.functions.entry_points
      in record {
        functions = λ handle before found so.
            let between = functions handle before found (first-kept (contains kept.functions.members handle) (is_kept sets (new_index kept.functions handle)) so) in
            let last = after.functions (new_index kept.functions handle) between.0 between.1 (second-kept (contains kept.functions.members handle) (is_kept sets (new_index kept.functions handle)) so) in
            (last.0, last.1, joined before.0 between.0.0 last.0.0 between.2 last.2);
        no_others = λ index within.
            let later = after.no_others index within in
            let from = no_others-compacted old keep_unused kept middle compacts later.0 later.1 in (
              from.0,
              from.1,
              both-kept (contains kept.functions.members from.0) (is_kept sets (new_index kept.functions from.0)) from.2 (ap (is_kept sets) from.3 ∙ later.2),
              ap (index_after sets) from.3 ∙ later.3,
            );
        entry_points = AllZip-then (Entries First) (Entries Then) (Entries Joined)
            (λ before between last. joined before.function between.function last.function)
            old.entry_points.items middle.entry_points.items new.entry_points.items
            (AllZip-each (Entries First) old.entry_points.items middle.entry_points.items long entry_points) after.entry_points;
      }
