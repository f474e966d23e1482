-- A valid module whose bodies change is valid if the new bodies contain no other handles.
use Rattle.std.proofs.Common.{◌≡◌, sym, ap, subst, ℕ, length}
use Rattle.std.proofs.lemmas.Slice.Zip.{AllZip-long}
use Rattle.std.specs.List.{Contains}
use Rattle.std.specs.Option.{option_map}
use Rattle.std.specs.Prelude.{slice_get}
use Rattle.naga_ir.specs.Tree.{Tree}
use Rattle.naga_ir.specs.View.{tree_of}
use Rattle.naga_ir.specs.declared.module.Function as function
use Rattle.naga_ir.specs.declared.module.Module as the_module
use Rattle.naga_valid.specs.Functions.{FunctionIsWithin}
use Rattle.naga_valid.specs.Limits.{AreWithin, IsWithin}
use Rattle.naga_valid.specs.Places.{lengths, limits_at, limits_found, limits_inside, references_found, references_in, references_in_part, references_of_entry_point}
use Rattle.naga_valid.specs.Statements.{references_of_tree}
use Rattle.naga_valid.specs.Valid.{HandlesAreValid}
use Rattle.naga_valid.specs.declared.place.Part.{Part}
use Rattle.naga_valid.specs.declared.place.Part.TheVariants as part
use Rattle.naga_valid.specs.declared.place.Place.{Place}
use Rattle.naga_valid.specs.declared.place.Place.TheVariants.{«Type», GlobalExpression, Function, EntryPoint, EntryPointFunction, DiagnosticFilter}
use Rattle.naga_valid.specs.declared.reference.Reference.{Reference}
use Rattle.naga_valid.proofs.FunctionIsWithinLemmas.{FunctionIsWithin-body}
use Rattle.naga_valid.proofs.HandlesAreValidLemmas.{HandlesAreValid-with_functions}
use Rattle.naga_compact.proofs.AllZipLemmas.{AllZip-at, AllZip-at_map}
use Rattle.naga_proc.specs.Bodies.{ChangesBodies, ChangesBody, ChangesEntryBody, ClosesBodies, HasSameStatements, IsSame}
use Rattle.naga_proc.specs.Closing.{ClosedBy}
use Rattle.naga_proc.specs.declared.terminator.rule.Rule.{Rule}
use Rattle.naga_proc.proofs.AllLemmas.{All-part}
use Rattle.naga_proc.proofs.ReferencesOfTreeLemmas.{references_of_tree-ClosedBy}
use Rattle.naga_proc.proofs.Bodies.ChangesBodiesLemmas.{ChangesEntry}

-- related blocks contain no other handles
abbrev pub AddsNoHandles : (Tree → Tree → Type 0) → Type 0
AddsNoHandles Related =
    (b c : Tree) → Related b c → (handle : Reference) → Contains (references_of_tree c) handle → Contains (references_of_tree b) handle

FunctionIsWithin-changed : (Related : Tree → Tree → Type 0) → AddsNoHandles Related → (whole : the_module.Module) (functions : ℕ) (old new : function.Function) → ChangesBody Related old new → FunctionIsWithin (record (lengths whole) { functions = functions }) old → FunctionIsWithin (record (lengths whole) { functions = functions }) new
FunctionIsWithin-changed Related fewer whole functions old new changed within =
    subst (FunctionIsWithin (record (lengths whole) { functions = functions })) (sym changed.0)
    (FunctionIsWithin-body (record (lengths whole) { functions = functions }) old new.body within
    (All-part (IsWithin (limits_inside (record (lengths whole) { functions = functions }) old)) (references_of_tree (tree_of old.body)) (references_of_tree (tree_of new.body))
    (fewer (tree_of old.body) (tree_of new.body) changed.1) (within part.Body)))

module _ (Related : Tree → Tree → Type 0) (fewer : AddsNoHandles Related) (old new : the_module.Module) (changes : ChangesBodies Related old new) (valid : HandlesAreValid old) where
  abbrev changed : the_module.Module
  changed = record old { functions = new.functions; entry_points = new.entry_points }

  -- what holds for the old number of functions holds for the new one
  moved : (P : ℕ → Type 0) → P (length old.functions) → P (length new.functions)
  moved P holds = subst P (sym (AllZip-long (ChangesEntry Related) old.functions new.functions changes.functions)) holds

  -- what all parts of the function with the handle contain
  functions-within : (handle : ℕ) (inner : Part) → AreWithin (limits_at changed (Function handle inner)) (references_in changed (Function handle inner))
  functions-within handle =
      AllZip-at_map (ChangesEntry Related) (λ pair. pair.0)
      (λ found. (inner : Part) → AreWithin (limits_found (record (lengths old) { functions = handle }) inner found) (references_found (λ declared. references_in_part declared inner) found))
      (λ before after is. FunctionIsWithin-changed Related fewer old handle before.0 after.0 is.0)
      old.functions new.functions changes.functions handle (λ inner. valid.references (Function handle inner))

  -- the same of the function of the entry point at the position
  entry_functions-within : (position : ℕ) (inner : Part) → AreWithin (limits_found (lengths old) inner (option_map (λ entry. entry.function) (slice_get new.entry_points.items position))) (references_in changed (EntryPointFunction position inner))
  entry_functions-within position =
      AllZip-at (ChangesEntryBody Related)
      (λ found. (inner : Part) → AreWithin (limits_found (lengths old) inner (option_map (λ entry. entry.function) found)) (references_found (λ entry. references_in_part entry.function inner) found))
      (λ before after is. FunctionIsWithin-changed Related fewer old (length old.functions) before.function after.function is.1)
      old.entry_points.items new.entry_points.items changes.entry_points position (λ inner. valid.references (EntryPointFunction position inner))

  entry_points-within : (position : ℕ) → AreWithin (lengths old) (references_in changed (EntryPoint position))
  entry_points-within position =
      AllZip-at (ChangesEntryBody Related) (λ found. AreWithin (lengths old) (references_found references_of_entry_point found))
      (λ before after is. subst (λ entry. AreWithin (lengths old) (references_of_entry_point entry)) (sym is.0))
      old.entry_points.items new.entry_points.items changes.entry_points position (valid.references (EntryPoint position))

  references-changed : (place : Place) → AreWithin (limits_at changed place) (references_in changed place)
  references-changed («Type» ty) =
      moved (λ n. AreWithin (record (lengths old) { functions = n; types = ty }) (references_in old («Type» ty))) (valid.references («Type» ty))
  references-changed (GlobalExpression expression) =
      moved (λ n. AreWithin (record (lengths old) { functions = n; expressions = expression }) (references_in old (GlobalExpression expression))) (valid.references (GlobalExpression expression))
  references-changed (DiagnosticFilter filter) =
      moved (λ n. AreWithin (record (lengths old) { functions = n; diagnostic_filters = filter }) (references_in old (DiagnosticFilter filter))) (valid.references (DiagnosticFilter filter))
  references-changed (Function handle inner) = functions-within handle inner
  references-changed (EntryPoint position) =
      moved (λ n. AreWithin (record (lengths old) { functions = n }) (references_in changed (EntryPoint position))) (entry_points-within position)
  references-changed (EntryPointFunction position inner) =
      moved (λ n. AreWithin (limits_found (record (lengths old) { functions = n }) inner (option_map (λ entry. entry.function) (slice_get new.entry_points.items position))) (references_in changed (EntryPointFunction position inner))) (entry_functions-within position inner)
  references-changed place = moved (λ n. AreWithin (record (lengths old) { functions = n }) (references_in old place)) (valid.references place)

  pub HandlesAreValid-changed : HandlesAreValid new
  HandlesAreValid-changed =
      subst HandlesAreValid (sym changes.outside) (HandlesAreValid-with_functions old new valid references-changed)

-- ---- closing, and reserving space

-- related blocks that contain the same handles
keeps-AddsNoHandles : (Related : Tree → Tree → Type 0) → ((b c : Tree) → Related b c → references_of_tree c ≡ references_of_tree b) → AddsNoHandles Related
keeps-AddsNoHandles Related keeps b c related handle inside =
    subst (λ references. Contains references handle) (keeps b c related) inside

pub HandlesAreValid-closed : (rule : Rule) (old new : the_module.Module) → ClosesBodies rule old new → HandlesAreValid old → HandlesAreValid new
HandlesAreValid-closed rule =
    HandlesAreValid-changed (ClosedBy rule) (keeps-AddsNoHandles (ClosedBy rule) (references_of_tree-ClosedBy rule))

pub HandlesAreValid-same : (old new : the_module.Module) → HasSameStatements old new → HandlesAreValid old → HandlesAreValid new
HandlesAreValid-same =
    HandlesAreValid-changed IsSame (keeps-AddsNoHandles IsSame (λ b c same. ap references_of_tree same))
