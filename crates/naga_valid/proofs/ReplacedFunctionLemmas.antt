-- Valid modules in which a function is replaced.
use Rattle.std.proofs.Common.{◌≡◌, sym, ap, subst, ℕ, length-set, Option, Some}
use Rattle.std.specs.Prelude.{slice_get, slice_set}
use Rattle.std.specs.Option.{option_map}
use Rattle.naga_arena.specs.Arena.{span_at, value_at, with_value}
use Rattle.naga_ir.specs.View.{tree_of}
use Rattle.naga_ir.specs.declared.block.Block.{Block}
use Rattle.naga_ir.specs.declared.module.EntryPoint as entry_point
use Rattle.naga_ir.specs.declared.module.Function as function
use Rattle.naga_ir.specs.declared.module.Module as the_module
use Rattle.naga_valid.specs.Functions.{FunctionIsWithin}
use Rattle.naga_valid.specs.Limits.{AreWithin}
use Rattle.naga_valid.specs.Places.{lengths, limits_at, limits_found, references_found, references_in, references_in_part, references_of_entry_point}
use Rattle.naga_valid.specs.Statements.{references_of_tree}
use Rattle.naga_valid.specs.Valid.{HandlesAreValid}
use Rattle.naga_valid.specs.declared.limits.Limits.{Limits}
use Rattle.naga_valid.specs.declared.place.Place.{Place}
use Rattle.naga_valid.specs.declared.place.Place.TheVariants.{«Type», GlobalExpression, Function, EntryPoint, EntryPointFunction, DiagnosticFilter}
use Rattle.naga_valid.proofs.FunctionIsWithinLemmas.{FunctionIsWithin-same_names}
use Rattle.naga_valid.proofs.HandlesAreValidLemmas.{HandlesAreValid-entry_point, HandlesAreValid-function, HandlesAreValid-with_functions}
use Rattle.naga_valid.proofs.SliceGetLemmas.{slice_get-each_map_set, slice_get-each_set}

-- ---- a function

abbrev pub with_function : the_module.Module → ℕ → function.Function → the_module.Module
with_function whole handle declared = record whole { functions = with_value whole.functions handle declared }

module _ (whole : the_module.Module) (valid : HandlesAreValid whole) (handle : ℕ) (declared : function.Function) (inside : FunctionIsWithin (record (lengths whole) { functions = handle }) declared) where
  lengths-same : lengths (with_function whole handle declared) ≡ lengths whole
  lengths-same =
      ap (λ n. record (lengths whole) { functions = n }) (length-set whole.functions handle (declared, span_at whole.functions handle))

  -- the limits at a place depend on the lengths
  moved : (place : Place) (limits : Limits → Limits) → AreWithin (limits (lengths whole)) (references_in whole place) → AreWithin (limits (lengths (with_function whole handle declared))) (references_in whole place)
  moved place limits within = subst (λ l. AreWithin (limits l) (references_in whole place)) (sym lengths-same) within

  references-with_function : (place : Place) → AreWithin (limits_at (with_function whole handle declared) place) (references_in (with_function whole handle declared) place)
  references-with_function («Type» ty) = moved («Type» ty) (λ l. record l { types = ty }) (valid.references («Type» ty))
  references-with_function (GlobalExpression expression) = moved (GlobalExpression expression) (λ l. record l { expressions = expression }) (valid.references (GlobalExpression expression))
  references-with_function (DiagnosticFilter filter) = moved (DiagnosticFilter filter) (λ l. record l { diagnostic_filters = filter }) (valid.references (DiagnosticFilter filter))
  references-with_function (Function other inner) =
      slice_get-each_map_set (λ pair. pair.0) whole.functions handle (declared, span_at whole.functions handle)
      (λ index found. AreWithin (limits_found (record (lengths whole) { functions = index }) inner found) (references_found (λ d. references_in_part d inner) found))
      (λ index. valid.references (Function index inner)) (inside inner) other
  references-with_function (EntryPointFunction position inner) =
      moved (EntryPointFunction position inner) (λ l. limits_found l inner (option_map (λ entry. entry.function) (slice_get whole.entry_points.items position))) (valid.references (EntryPointFunction position inner))
  references-with_function place = moved place (λ l. l) (valid.references place)

  pub HandlesAreValid-with_function : HandlesAreValid (with_function whole handle declared)
  HandlesAreValid-with_function =
      HandlesAreValid-with_functions whole (with_function whole handle declared) valid references-with_function

-- ---- the function of an entry point

-- the module with the entry points of another one
abbrev with_entry_points_of : the_module.Module → the_module.Module → the_module.Module
with_entry_points_of new old = record old { entry_points = new.entry_points }

module _ (old new : the_module.Module) (position : ℕ) (entry : entry_point.EntryPoint) (declared : function.Function) (valid : HandlesAreValid old) (found : slice_get old.entry_points.items position ≡ Some entry) (inside : FunctionIsWithin (lengths old) declared) (items : new.entry_points.items ≡ slice_set old.entry_points.items position (record entry { function = declared })) where
  -- what holds of each old entry point and of the new one holds of each new entry point
  each-entry : (P : Option entry_point.EntryPoint → Type 0) → ((index : ℕ) → P (slice_get old.entry_points.items index)) → P (Some (record entry { function = declared })) → (index : ℕ) → P (slice_get new.entry_points.items index)
  each-entry P each here index =
      subst (λ entries. P (slice_get entries index)) (sym items)
      (slice_get-each_set old.entry_points.items position (record entry { function = declared }) (λ _ o. P o) each here index)

  references-with_entry_points : (place : Place) → AreWithin (limits_at (with_entry_points_of new old) place) (references_in (with_entry_points_of new old) place)
  references-with_entry_points (EntryPoint index) =
      let here : AreWithin (lengths old) (references_of_entry_point entry) = subst (λ o. AreWithin (lengths old) (references_found references_of_entry_point o)) found (valid.references (EntryPoint position)) in
      each-entry (λ o. AreWithin (lengths old) (references_found references_of_entry_point o)) (λ i. valid.references (EntryPoint i)) here index
  references-with_entry_points (EntryPointFunction index inner) =
      each-entry (λ o. AreWithin (limits_found (lengths old) inner (option_map (λ e. e.function) o)) (references_found (λ e. references_in_part e.function inner) o))
      (λ i. valid.references (EntryPointFunction i inner)) (inside inner) index
  references-with_entry_points place = valid.references place

  pub HandlesAreValid-with_entry_point : new ≡ record old { entry_points = new.entry_points } → HandlesAreValid new
  HandlesAreValid-with_entry_point same =
      subst HandlesAreValid (sym same) (HandlesAreValid-with_functions old (with_entry_points_of new old) valid references-with_entry_points)

-- ---- a body with the same handles

-- the body contains the same handles as that of the function
abbrev pub HasSameReferences : function.Function → Block → Type 0
HasSameReferences declared body = references_of_tree (tree_of body) ≡ references_of_tree (tree_of declared.body)

pub HandlesAreValid-with_body : (whole : the_module.Module) (handle : ℕ) (declared : function.Function) (body : Block) → HandlesAreValid whole → value_at whole.functions handle ≡ Some declared → HasSameReferences declared body → HandlesAreValid (record whole { functions = with_value whole.functions handle (record declared { body = body }) })
HandlesAreValid-with_body whole handle declared body valid found same =
    HandlesAreValid-with_function whole valid handle (record declared { body = body })
    (FunctionIsWithin-same_names (record (lengths whole) { functions = handle }) declared body (HandlesAreValid-function whole valid handle declared found) same)

pub HandlesAreValid-with_entry_body : (old new : the_module.Module) (position : ℕ) (entry : entry_point.EntryPoint) (body : Block) → HandlesAreValid old → slice_get old.entry_points.items position ≡ Some entry → HasSameReferences entry.function body → new.entry_points.items ≡ slice_set old.entry_points.items position (record entry { function = record entry.function { body = body } }) → new ≡ record old { entry_points = new.entry_points } → HandlesAreValid new
HandlesAreValid-with_entry_body old new position entry body valid found same items others =
    HandlesAreValid-with_entry_point old new position entry (record entry.function { body = body }) valid found
    (FunctionIsWithin-same_names (lengths old) entry.function body (HandlesAreValid-entry_point old valid position entry found) same) items others
