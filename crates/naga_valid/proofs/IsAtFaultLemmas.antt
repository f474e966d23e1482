-- An error of the check of handles refutes that the handles are valid.
use Rattle.std.proofs.Common.{◌≡◌, arith, refl, ℕ, ◌<◌, ◌≤◌, List, length, Option, Some, None}
use Rattle.std.specs.Prelude.{slice_get}
use Rattle.std.specs.List.{Contains}
use Rattle.std.specs.Option.{option_map}
use Rattle.std.proofs.lemmas.List.Elements.{All-contains}
use Rattle.std.proofs.lemmas.List.{length-map}
use Rattle.std.proofs.lemmas.Option.{slice_get_within}
use Rattle.naga_arena.specs.Arena.{value_at, values}
use Rattle.naga_arena.specs.declared.span.Span.{Span}
use Rattle.naga_ir.specs.declared.module.EntryPoint as entry_point
use Rattle.naga_ir.specs.declared.module.Function as function
use Rattle.naga_ir.specs.declared.module.Module as the_module
use Rattle.naga_valid.specs.Declarations.{references_of_filter, references_of_type}
use Rattle.naga_valid.specs.Expressions.{references_of_expression}
use Rattle.naga_valid.specs.Faults.{IsAtFault, arenas_at, arenas_found}
use Rattle.naga_valid.specs.Limits.{IsWithin}
use Rattle.naga_valid.specs.Places.{lengths, limits_at, limits_found, limits_inside, references_found, references_in, references_in_part}
use Rattle.naga_valid.specs.Valid.{HandlesAreValid, IsAfterInit, IsConstant}
use Rattle.naga_valid.specs.declared.invalid_handle.InvalidHandle.{InvalidHandle}
use Rattle.naga_valid.specs.declared.invalid_handle.InvalidHandle.TheVariants.{BadHandle, BadRange, ForwardDependency, NotConstant, InitDependency, SizeDependency, OverrideDependency}
use Rattle.naga_valid.specs.declared.limits.Limits.{Limits}
use Rattle.naga_valid.specs.declared.place.Part.{Part}
use Rattle.naga_valid.specs.declared.place.Part.TheVariants as part
use Rattle.naga_valid.specs.declared.place.Place.{Place}
use Rattle.naga_valid.specs.declared.place.Place.TheVariants as place
use Rattle.naga_valid.specs.declared.reference.Reference.{Reference}
use Rattle.naga_valid.specs.declared.reference.Reference.TheVariants as reference
use Rattle.naga_valid.proofs.SizePrecedesLemmas.{SizePrecedes-no_init, SizePrecedes-no_type}

-- ---- wider limits

module _ (limits : Limits) (few many : ℕ) (fewer : few ≤ many) where
  IsWithin-types : (to : Reference) → IsWithin (record limits { types = few }) to → IsWithin (record limits { types = many }) to
  IsWithin-types (reference.«Type» handle) within = omega (arith, fewer, within)
  IsWithin-types _ within = within

  IsWithin-expressions : (to : Reference) → IsWithin (record limits { expressions = few }) to → IsWithin (record limits { expressions = many }) to
  IsWithin-expressions (reference.Expression handle) within = omega (arith, fewer, within)
  IsWithin-expressions (reference.Expressions first past) within = (within.0, omega (arith, fewer, within.1))
  IsWithin-expressions _ within = within

  IsWithin-functions : (to : Reference) → IsWithin (record limits { functions = few }) to → IsWithin (record limits { functions = many }) to
  IsWithin-functions (reference.Function handle) within = omega (arith, fewer, within)
  IsWithin-functions _ within = within

  IsWithin-filters : (to : Reference) → IsWithin (record limits { diagnostic_filters = few }) to → IsWithin (record limits { diagnostic_filters = many }) to
  IsWithin-filters (reference.DiagnosticFilter handle) within = omega (arith, fewer, within)
  IsWithin-filters _ within = within

-- ---- what contains a reference is there

-- nothing contains no reference
nothing_found : {X : Type 0} (references : X → List Reference) (to : Reference) → Contains (references_found references None) to → ⊥
nothing_found references to inside = omega (arith, inside.1)

present : {X : Type 0} (references : X → List Reference) (arena : List (X × Span)) (handle : ℕ) (to : Reference) → Contains (references_found references (value_at arena handle)) to → handle ≤ length arena
present {X} references arena handle to inside = by_element (value_at arena handle) refl inside
  where
    by_element : (found : Option X) → value_at arena handle ≡ found → Contains (references_found references found) to → handle ≤ length arena
    by_element None is none = absurd (nothing_found references to none)
    by_element (Some element) is some =
        let within : handle < length (values arena) = slice_get_within (values arena) handle element is in
        omega (arith, within, length-map arena (λ pair. pair.0))

-- ---- what is within the limits of a place is in its arena

module _ (to : Reference) where
  IsWithin-inside : (limits : Limits) (declared : function.Function) (inner : Part) → Contains (references_in_part declared inner) to → IsWithin (limits_found limits inner (Some declared)) to → IsWithin (limits_inside limits declared) to
  IsWithin-inside limits declared (part.Expression handle) inside within =
      IsWithin-expressions (limits_inside limits declared) handle (length declared.expressions) (present references_of_expression declared.expressions handle to inside) to within
  IsWithin-inside limits declared part.Arguments inside within = within
  IsWithin-inside limits declared part.Result inside within = within
  IsWithin-inside limits declared (part.LocalVariable handle) inside within = within
  IsWithin-inside limits declared part.NamedExpressions inside within = within
  IsWithin-inside limits declared part.Body inside within = within
  IsWithin-inside limits declared part.DiagnosticFilterLeaf inside within = within

  module _ (whole : the_module.Module) where
    IsWithin-function : (handle : ℕ) (inner : Part) (found : Option function.Function) → handle ≤ length whole.functions → Contains (references_found (λ declared. references_in_part declared inner) found) to → IsWithin (limits_found (record (lengths whole) { functions = handle }) inner found) to → IsWithin (arenas_found (lengths whole) found) to
    IsWithin-function handle inner None fewer inside within = absurd (nothing_found (λ declared. references_in_part declared inner) to inside)
    IsWithin-function handle inner (Some declared) fewer inside within =
        IsWithin-functions (limits_inside (lengths whole) declared) handle (length whole.functions) fewer to
        (IsWithin-inside (record (lengths whole) { functions = handle }) declared inner inside within)

    IsWithin-entry_point : (inner : Part) (found : Option entry_point.EntryPoint) → Contains (references_found (λ entry. references_in_part entry.function inner) found) to → IsWithin (limits_found (lengths whole) inner (option_map (λ entry. entry.function) found)) to → IsWithin (arenas_found (lengths whole) (option_map (λ entry. entry.function) found)) to
    IsWithin-entry_point inner None inside within = absurd (nothing_found (λ (entry : entry_point.EntryPoint). references_in_part entry.function inner) to inside)
    IsWithin-entry_point inner (Some entry) inside within = IsWithin-inside (lengths whole) entry.function inner inside within

    IsWithin-arenas : (at : Place) → Contains (references_in whole at) to → IsWithin (limits_at whole at) to → IsWithin (arenas_at whole at) to
    IsWithin-arenas (place.«Type» handle) inside within =
        IsWithin-types (lengths whole) handle (length whole.types) (present references_of_type whole.types handle to inside) to within
    IsWithin-arenas (place.GlobalExpression handle) inside within =
        IsWithin-expressions (lengths whole) handle (length whole.global_expressions) (present references_of_expression whole.global_expressions handle to inside) to within
    IsWithin-arenas (place.Function handle inner) inside within =
        IsWithin-function handle inner (value_at whole.functions handle) (present (λ declared. references_in_part declared inner) whole.functions handle to inside) inside within
    IsWithin-arenas (place.EntryPointFunction position inner) inside within =
        IsWithin-entry_point inner (slice_get whole.entry_points.items position) inside within
    IsWithin-arenas (place.DiagnosticFilter handle) inside within =
        IsWithin-filters (lengths whole) handle (length whole.diagnostic_filters) (present references_of_filter whole.diagnostic_filters handle to inside) to within
    IsWithin-arenas _ inside within = within

-- ---- errors

module _ (whole : the_module.Module) where
  -- the reference is within the limits of its place
  within_limits : (at : Place) (to : Reference) → HandlesAreValid whole → Contains (references_in whole at) to → IsWithin (limits_at whole at) to
  within_limits at to valid inside = All-contains (IsWithin (limits_at whole at)) (references_in whole at) to (valid.references at) inside

  -- the reference of a global expression is constant, and comes after its init
  in_order : (expression : ℕ) (to : Reference) → HandlesAreValid whole → Contains (references_in whole (place.GlobalExpression expression)) to → IsConstant to × IsAfterInit whole expression to
  in_order expression to valid inside =
      All-contains (λ other. IsConstant other × IsAfterInit whole expression other) (references_in whole (place.GlobalExpression expression)) to (valid.expressions expression) inside

  pub IsAtFault-invalid : (error : InvalidHandle) → IsAtFault whole error → HandlesAreValid whole → ⊥
  IsAtFault-invalid (BadHandle handle at) fault valid = fault.1 (IsWithin-arenas handle whole at fault.0 (within_limits at handle valid fault.0))
  IsAtFault-invalid (BadRange first past at) fault valid =
      fault.1 (IsWithin-arenas (reference.Expressions first past) whole at fault.0 (within_limits at (reference.Expressions first past) valid fault.0))
  IsAtFault-invalid (ForwardDependency handle at) fault valid = fault.2 (within_limits at handle valid fault.0)
  IsAtFault-invalid (NotConstant handle (place.GlobalExpression expression)) fault valid = fault.2 (in_order expression handle valid fault.1).0
  IsAtFault-invalid (NotConstant handle _) fault valid = absurd fault.0
  IsAtFault-invalid (InitDependency expression handle init) fault valid =
      let before : init < expression = (in_order expression handle valid fault.0).1 init fault.1 in
      omega (arith, before, fault.2)
  IsAtFault-invalid (SizeDependency ty expression depends_on) fault valid =
      SizePrecedes-no_init whole ty fault.0 expression depends_on fault.1 fault.2 fault.3 fault.4 fault.5 fault.6 (valid.sizes ty)
  IsAtFault-invalid (OverrideDependency ty size depends_on) fault valid =
      SizePrecedes-no_type whole ty size fault.0 depends_on fault.1 fault.2 (valid.sizes ty)
