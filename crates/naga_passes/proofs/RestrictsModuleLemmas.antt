-- A valid module is valid after it was restricted, and after restricting stopped in it.
use Rattle.std.proofs.Common.{◌≡◌, ◌∙◌, sym, ap, subst, refl, inl, inr, ℕ, zero, suc, List, [], ◌∷◌, length}
use Rattle.std.proofs.lemmas.Slice.Zip.{AllZip-long}
use Rattle.std.specs.List.{AllZip}
use Rattle.std.specs.Option.{option_map}
use Rattle.std.specs.Prelude.{slice_get}
use Rattle.naga_arena.specs.declared.span.Span.{Span}
use Rattle.naga_ir.specs.declared.module.EntryPoint as entry_point
use Rattle.naga_ir.specs.declared.module.Function as function
use Rattle.naga_ir.specs.declared.module.Module as the_module
use Rattle.naga_flow.specs.declared.bodies.BodyOwner.{BodyOwner}
use Rattle.naga_flow.specs.declared.bodies.BodyOwner.TheVariants as owner
use Rattle.naga_valid.specs.Functions.{FunctionIsWithin}
use Rattle.naga_valid.specs.Limits.{AreWithin}
use Rattle.naga_valid.specs.Places.{lengths, limits_at, limits_found, references_found, references_in, references_in_part, references_of_entry_point}
use Rattle.naga_valid.specs.Valid.{HandlesAreValid}
use Rattle.naga_valid.specs.declared.place.Part.{Part}
use Rattle.naga_valid.specs.declared.place.Place.{Place}
use Rattle.naga_valid.specs.declared.place.Place.TheVariants.{«Type», GlobalExpression, Function, EntryPoint, EntryPointFunction, DiagnosticFilter}
use Rattle.naga_valid.proofs.HandlesAreValidLemmas.{HandlesAreValid-with_functions}
use Rattle.naga_compact.proofs.AllZipLemmas.{AllZip-at, AllZip-at_map}
use Rattle.naga_proc.proofs.Bodies.AllZipLemmas.{AllZip-itself, AllZip-weaker}
use Rattle.naga_bounds.specs.Modules.{typed_in}
use Rattle.naga_bounds.specs.Restricted.{Restricts}
use Rattle.naga_bounds.specs.RestrictedModules.{AreChangedTo, IsRestrictError, IsRestrictedTo, RestrictsElement, RestrictsEntry, RestrictsIn, RestrictsModule, counts_in}
use Rattle.naga_bounds.specs.declared.restrict_error.Obstacle.{Obstacle}
use Rattle.naga_bounds.specs.declared.restrict_error.RestrictError.{RestrictError}
use Rattle.naga_bounds.proofs.ClampedIsWithinLemmas.{FunctionIsWithin-clamped}
use Rattle.naga_passes.proofs.OperandsPrecedeLemmas.{OperandsPrecede-within}

-- ---- functions

-- the new function is within limits if the old one is
abbrev KeepsWithin : the_module.Module → (old new : function.Function) → Type 0
KeepsWithin whole old new =
    (functions : ℕ) → FunctionIsWithin (record (lengths whole) { functions = functions }) old → FunctionIsWithin (record (lengths whole) { functions = functions }) new

abbrev KeepsElement : the_module.Module → (before after : function.Function × Span) → Type 0
KeepsElement whole before after = KeepsWithin whole before.0 after.0

abbrev KeepsEntry : the_module.Module → (before after : entry_point.EntryPoint) → Type 0
KeepsEntry whole before after =
    (after ≡ record before { function = after.function }) × KeepsWithin whole before.function after.function

KeepsWithin-restricted : (whole : the_module.Module) (old new : function.Function) → RestrictsIn whole old new → KeepsWithin whole old new
KeepsWithin-restricted whole old new restricted functions within = by restricted.restricts
  where
    by : Restricts (counts_in whole) (typed_in whole old) old new → FunctionIsWithin (record (lengths whole) { functions = functions }) new
    by (inl same) = subst (FunctionIsWithin (record (lengths whole) { functions = functions })) (sym same.1) within
    by (inr clamped) = FunctionIsWithin-clamped whole old new (OperandsPrecede-within whole functions old within) clamped functions within

-- ---- modules

module _ (old new : the_module.Module) (outside : new ≡ record old { functions = new.functions; entry_points = new.entry_points })
    (functions : AllZip (KeepsElement old) old.functions new.functions) (entry_points : AllZip (KeepsEntry old) old.entry_points.items new.entry_points.items)
    (valid : HandlesAreValid old) where
  abbrev restricted : the_module.Module
  restricted = record old { functions = new.functions; entry_points = new.entry_points }

  -- what holds for the old number of functions holds for the new one
  moved : (P : ℕ → Type 0) → P (length old.functions) → P (length new.functions)
  moved P holds = subst P (sym (AllZip-long (KeepsElement old) old.functions new.functions functions)) holds

  -- what all parts of the function with the handle contain
  functions-within : (handle : ℕ) (inner : Part) → AreWithin (limits_at restricted (Function handle inner)) (references_in restricted (Function handle inner))
  functions-within handle =
      AllZip-at_map (KeepsElement old) (λ pair. pair.0)
      (λ found. (inner : Part) → AreWithin (limits_found (record (lengths old) { functions = handle }) inner found) (references_found (λ declared. references_in_part declared inner) found))
      (λ before after is. is handle)
      old.functions new.functions functions handle (λ inner. valid.references (Function handle inner))

  -- the same of the function of the entry point at the position
  entry_functions-within : (position : ℕ) (inner : Part) → AreWithin (limits_found (lengths old) inner (option_map (λ entry. entry.function) (slice_get new.entry_points.items position))) (references_in restricted (EntryPointFunction position inner))
  entry_functions-within position =
      AllZip-at (KeepsEntry old)
      (λ found. (inner : Part) → AreWithin (limits_found (lengths old) inner (option_map (λ entry. entry.function) found)) (references_found (λ entry. references_in_part entry.function inner) found))
      (λ before after is. is.1 (length old.functions))
      old.entry_points.items new.entry_points.items entry_points position (λ inner. valid.references (EntryPointFunction position inner))

  entry_points-within : (position : ℕ) → AreWithin (lengths old) (references_in restricted (EntryPoint position))
  entry_points-within position =
      AllZip-at (KeepsEntry old) (λ found. AreWithin (lengths old) (references_found references_of_entry_point found))
      (λ before after is. subst (λ entry. AreWithin (lengths old) (references_of_entry_point entry)) (sym is.0))
      old.entry_points.items new.entry_points.items entry_points position (valid.references (EntryPoint position))

  references-restricted : (place : Place) → AreWithin (limits_at restricted place) (references_in restricted place)
  references-restricted («Type» ty) =
      moved (λ n. AreWithin (record (lengths old) { functions = n; types = ty }) (references_in old («Type» ty))) (valid.references («Type» ty))
  references-restricted (GlobalExpression expression) =
      moved (λ n. AreWithin (record (lengths old) { functions = n; expressions = expression }) (references_in old (GlobalExpression expression))) (valid.references (GlobalExpression expression))
  references-restricted (DiagnosticFilter filter) =
      moved (λ n. AreWithin (record (lengths old) { functions = n; diagnostic_filters = filter }) (references_in old (DiagnosticFilter filter))) (valid.references (DiagnosticFilter filter))
  references-restricted (Function handle inner) = functions-within handle inner
  references-restricted (EntryPoint position) =
      moved (λ n. AreWithin (record (lengths old) { functions = n }) (references_in restricted (EntryPoint position))) (entry_points-within position)
  references-restricted (EntryPointFunction position inner) =
      moved (λ n. AreWithin (limits_found (record (lengths old) { functions = n }) inner (option_map (λ entry. entry.function) (slice_get new.entry_points.items position))) (references_in restricted (EntryPointFunction position inner))) (entry_functions-within position inner)
  references-restricted place = moved (λ n. AreWithin (record (lengths old) { functions = n }) (references_in old place)) (valid.references place)

  HandlesAreValid-kept : HandlesAreValid new
  HandlesAreValid-kept = subst HandlesAreValid (sym outside) (HandlesAreValid-with_functions old new valid references-restricted)

module _ (old : the_module.Module) where
  of-elements : (before after : List (function.Function × Span)) → AllZip (RestrictsElement old) before after → AllZip (KeepsElement old) before after
  of-elements before after zip =
      AllZip-weaker (RestrictsElement old) (KeepsElement old) (λ one other is. KeepsWithin-restricted old one.0 other.0 is.0) before after zip

  of-entry : (before after : entry_point.EntryPoint) → RestrictsEntry old before after → KeepsEntry old before after
  of-entry before after is = (is.0, KeepsWithin-restricted old before.function after.function is.1)

  of-entries : (before after : List entry_point.EntryPoint) → AllZip (RestrictsEntry old) before after → AllZip (KeepsEntry old) before after
  of-entries before after zip = AllZip-weaker (RestrictsEntry old) (KeepsEntry old) of-entry before after zip

  same-entry : (entry : entry_point.EntryPoint) → KeepsEntry old entry entry
  same-entry entry = (refl, λ functions within. within)

pub HandlesAreValid-restricted : (old new : the_module.Module) → RestrictsModule old new → HandlesAreValid old → HandlesAreValid new
HandlesAreValid-restricted old new restricts =
    HandlesAreValid-kept old new restricts.outside (of-elements old old.functions new.functions restricts.functions)
    (of-entries old old.entry_points.items new.entry_points.items restricts.entry_points)

-- ---- errors

-- elements that are related or the same
AllZip-first : {A : Type 0} (Related Kept : (old new : A) → Type 0) → ((x y : A) → Related x y → Kept x y) → ((x : A) → Kept x x)
    → (count : ℕ) (old new : List A) → AreChangedTo Related count old new → AllZip Kept old new
AllZip-first Related Kept keeps itself zero old new changed =
    subst (AllZip Kept old) (sym changed.rest) (AllZip-itself Kept itself old)
AllZip-first Related Kept keeps itself (suc count) [] [] changed = tt
AllZip-first Related Kept keeps itself (suc count) [] (y ∷ new) changed = absurd changed.first
AllZip-first Related Kept keeps itself (suc count) (x ∷ old) [] changed = absurd changed.first
AllZip-first Related Kept keeps itself (suc count) (x ∷ old) (y ∷ new) changed =
    (keeps x y changed.first.0, AllZip-first Related Kept keeps itself count old new (record { first = changed.first.1; rest = changed.rest }))

HandlesAreValid-stopped : (old new : the_module.Module) (of : BodyOwner) (found : Obstacle) → IsRestrictedTo old new of found → HandlesAreValid old → HandlesAreValid new
HandlesAreValid-stopped old new (owner.Function handle) found stopped =
    let same : new.entry_points ≡ old.entry_points = ap (λ (whole : the_module.Module). whole.entry_points) stopped.2 in
    let outside : new ≡ record old { functions = new.functions; entry_points = new.entry_points } =
    stopped.2 ∙ (λ i. record old { functions = new.functions; entry_points = sym same i }) in
    HandlesAreValid-kept old new outside
    (AllZip-first (RestrictsElement old) (KeepsElement old) (λ one other is. KeepsWithin-restricted old one.0 other.0 is.0) (λ one functions within. within) handle old.functions new.functions stopped.1)
    (subst (λ (entries : List entry_point.EntryPoint). AllZip (KeepsEntry old) old.entry_points.items entries) (λ i. (sym same i).items) (AllZip-itself (KeepsEntry old) (same-entry old) old.entry_points.items))
HandlesAreValid-stopped old new (owner.EntryPoint position) found stopped =
    HandlesAreValid-kept old new stopped.3 (of-elements old old.functions new.functions stopped.1)
    (AllZip-first (RestrictsEntry old) (KeepsEntry old) (of-entry old) (same-entry old) position old.entry_points.items new.entry_points.items stopped.2)

pub HandlesAreValid-restrict_error : (old new : the_module.Module) (error : RestrictError) → IsRestrictError old new error → HandlesAreValid old → HandlesAreValid new
HandlesAreValid-restrict_error old new error stopped = HandlesAreValid-stopped old new error.owner error.obstacle stopped
