-- A valid module whose functions are compacted is valid.
use Rattle.std.proofs.Common.{◌≡◌, ◌∙◌, sym, ap, subst, refl, ℕ, List, length}
use Rattle.std.proofs.lemmas.List.{with_items_is}
use Rattle.std.proofs.lemmas.Slice.Zip.{AllZip-long}
use Rattle.std.specs.List.{AllZip}
use Rattle.std.specs.Option.{option_map}
use Rattle.std.specs.Prelude.{slice_get}
use Rattle.std.specs.Vec.{with_items}
use Rattle.naga_arena.specs.declared.span.Span.{Span}
use Rattle.naga_ir.specs.declared.module.EntryPoint as entry_point
use Rattle.naga_ir.specs.declared.module.Function as function
use Rattle.naga_ir.specs.declared.module.Module as the_module
use Rattle.naga_valid.specs.Functions.{FunctionIsWithin}
use Rattle.naga_valid.specs.Limits.{AreWithin}
use Rattle.naga_valid.specs.Places.{lengths, limits_at, limits_found, references_found, references_in, references_in_part, references_of_entry_point}
use Rattle.naga_valid.specs.Valid.{HandlesAreValid}
use Rattle.naga_valid.specs.declared.place.Part.{Part}
use Rattle.naga_valid.specs.declared.place.Place.{Place}
use Rattle.naga_valid.specs.declared.place.Place.TheVariants.{«Type», GlobalExpression, Function, EntryPoint, EntryPointFunction, DiagnosticFilter}
use Rattle.naga_valid.proofs.HandlesAreValidLemmas.{HandlesAreValid-with_functions}
use Rattle.naga_compact.specs.Module.Compaction.{CompactsFunctions, HasCompactedFunction, IsCompactedFunction}
use Rattle.naga_compact.proofs.AllZipLemmas.{AllZip-at, AllZip-at_map}
use Rattle.naga_compact.proofs.FunctionIsWithinLemmas.{FunctionIsWithin-compacted}

-- the function of the entry is compacted, and its span is unchanged
abbrev pub IsCompactedEntry : (before after : function.Function × Span) → Type 0
IsCompactedEntry before after = IsCompactedFunction before.0 after.0 × (after.1 ≡ before.1)

-- the functions of the arena are compacted, and then those of the entry points
pub CompactsFunctions-from : (old : the_module.Module) (functions : List (function.Function × Span)) (before after : List entry_point.EntryPoint) → AllZip IsCompactedEntry old.functions functions → before ≡ old.entry_points.items → AllZip HasCompactedFunction before after →
    CompactsFunctions old (record old { functions = functions; entry_points = with_items old.entry_points after })
CompactsFunctions-from old functions before after compacted same entered =
    let long : length after ≡ old.entry_points.len =
    AllZip-long HasCompactedFunction before after entered ∙ ap length same ∙ sym old.entry_points.ok.0
    in record {
      outside = refl;
      functions = compacted;
      entry_points = subst (AllZip HasCompactedFunction old.entry_points.items) (sym (with_items_is old.entry_points after long)) (subst (λ entries. AllZip HasCompactedFunction entries after) same entered);
    }

-- ---- validity

FunctionIsWithin-some : (whole : the_module.Module) (functions : ℕ) (old new : function.Function) → IsCompactedFunction old new → FunctionIsWithin (record (lengths whole) { functions = functions }) old → FunctionIsWithin (record (lengths whole) { functions = functions }) new
FunctionIsWithin-some whole functions old new compacted within =
    FunctionIsWithin-compacted whole functions old new compacted.0 compacted.1 within

module _ (old new : the_module.Module) (compacts : CompactsFunctions old new) (valid : HandlesAreValid old) where
  abbrev compacted : the_module.Module
  compacted = record old { functions = new.functions; entry_points = new.entry_points }

  -- what holds for the old number of functions holds for the new one
  moved : (P : ℕ → Type 0) → P (length old.functions) → P (length new.functions)
  moved P holds = subst P (sym (AllZip-long IsCompactedEntry old.functions new.functions compacts.functions)) holds

  -- what all parts of the function with the handle contain
  functions-within : (handle : ℕ) (inner : Part) → AreWithin (limits_at compacted (Function handle inner)) (references_in compacted (Function handle inner))
  functions-within handle =
      AllZip-at_map IsCompactedEntry (λ pair. pair.0)
      (λ found. (inner : Part) → AreWithin (limits_found (record (lengths old) { functions = handle }) inner found) (references_found (λ declared. references_in_part declared inner) found))
      (λ before after is. FunctionIsWithin-some old handle before.0 after.0 is.0)
      old.functions new.functions compacts.functions handle (λ inner. valid.references (Function handle inner))

  -- the same of the function of the entry point at the position
  entry_functions-within : (position : ℕ) (inner : Part) → AreWithin (limits_found (lengths old) inner (option_map (λ entry. entry.function) (slice_get new.entry_points.items position))) (references_in compacted (EntryPointFunction position inner))
  entry_functions-within position =
      AllZip-at HasCompactedFunction
      (λ found. (inner : Part) → AreWithin (limits_found (lengths old) inner (option_map (λ entry. entry.function) found)) (references_found (λ entry. references_in_part entry.function inner) found))
      (λ before after is. FunctionIsWithin-some old (length old.functions) before.function after.function is.1)
      old.entry_points.items new.entry_points.items compacts.entry_points position (λ inner. valid.references (EntryPointFunction position inner))

  entry_points-within : (position : ℕ) → AreWithin (lengths old) (references_in compacted (EntryPoint position))
  entry_points-within position =
      AllZip-at HasCompactedFunction (λ found. AreWithin (lengths old) (references_found references_of_entry_point found))
      (λ before after is. subst (λ entry. AreWithin (lengths old) (references_of_entry_point entry)) (sym is.0))
      old.entry_points.items new.entry_points.items compacts.entry_points position (valid.references (EntryPoint position))

  references-compacted : (place : Place) → AreWithin (limits_at compacted place) (references_in compacted place)
  references-compacted («Type» ty) =
      moved (λ n. AreWithin (record (lengths old) { functions = n; types = ty }) (references_in old («Type» ty))) (valid.references («Type» ty))
  references-compacted (GlobalExpression expression) =
      moved (λ n. AreWithin (record (lengths old) { functions = n; expressions = expression }) (references_in old (GlobalExpression expression))) (valid.references (GlobalExpression expression))
  references-compacted (DiagnosticFilter filter) =
      moved (λ n. AreWithin (record (lengths old) { functions = n; diagnostic_filters = filter }) (references_in old (DiagnosticFilter filter))) (valid.references (DiagnosticFilter filter))
  references-compacted (Function handle inner) = functions-within handle inner
  references-compacted (EntryPoint position) =
      moved (λ n. AreWithin (record (lengths old) { functions = n }) (references_in compacted (EntryPoint position))) (entry_points-within position)
  references-compacted (EntryPointFunction position inner) =
      moved (λ n. AreWithin (limits_found (record (lengths old) { functions = n }) inner (option_map (λ entry. entry.function) (slice_get new.entry_points.items position))) (references_in compacted (EntryPointFunction position inner))) (entry_functions-within position inner)
  references-compacted place = moved (λ n. AreWithin (record (lengths old) { functions = n }) (references_in old place)) (valid.references place)

  pub HandlesAreValid-compacted_functions : HandlesAreValid new
  HandlesAreValid-compacted_functions =
      subst HandlesAreValid (sym compacts.outside) (HandlesAreValid-with_functions old new valid references-compacted)
