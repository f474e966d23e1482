-- The filters of a valid module: each parent precedes its node, and the innermost filters are in the arena.
use Rattle.std.proofs.Common.{◌≡◌, ℕ, ◌<◌, length, Some}
use Rattle.std.specs.Prelude.{slice_get}
use Rattle.std.specs.Option.{ForSome}
use Rattle.std.proofs.lemmas.Option.{option_and_then_some}
use Rattle.naga_arena.specs.Arena.{value_at, values}
use Rattle.naga_kinds.specs.Search.{ParentsPrecede}
use Rattle.naga_ir.specs.declared.module.EntryPoint as entry_point
use Rattle.naga_ir.specs.declared.module.Function as function
use Rattle.naga_ir.specs.declared.module.Module as the_module
use Rattle.naga_valid.specs.Declarations.{references_of_filter}
use Rattle.naga_valid.specs.Places.{lengths, limits_inside}
use Rattle.naga_valid.specs.Valid.{HandlesAreValid}
use Rattle.naga_valid.specs.declared.limits.Limits.{Limits}
use Rattle.naga_valid.specs.declared.reference.Reference.TheVariants as reference
use Rattle.naga_valid.specs.declared.place.Part.TheVariants as part
use Rattle.naga_valid.specs.declared.place.Place.TheVariants as place
use Rattle.naga_valid.proofs.EachIsWithinLemmas.{EachIsWithin-at}
use Rattle.naga_valid.proofs.HandlesAreValidLemmas.{HandlesAreValid-entry_point, HandlesAreValid-filters, HandlesAreValid-function}
use Rattle.naga_valid.proofs.IsWithinLemmas.{IsWithin-found}

module _ (whole : the_module.Module) (valid : HandlesAreValid whole) where
  filter_limits : ℕ → Limits
  filter_limits index = record (lengths whole) { diagnostic_filters = index }

  pub ParentsPrecede-valid : ParentsPrecede whole.diagnostic_filters
  unfolding filter_limits
  ParentsPrecede-valid = λ here later is.
      option_and_then_some (λ node. node.parent) (value_at whole.diagnostic_filters here) later is (λ node found parent.
      IsWithin-found (filter_limits here) reference.DiagnosticFilter node.parent
      (EachIsWithin-at references_of_filter filter_limits (values whole.diagnostic_filters) (HandlesAreValid-filters whole valid) here node found) later parent)

  pub leaf-valid : ForSome whole.diagnostic_filter_leaf (λ leaf. leaf < length whole.diagnostic_filters)
  leaf-valid =
      IsWithin-found (lengths whole) reference.DiagnosticFilter whole.diagnostic_filter_leaf (valid.references place.DiagnosticFilterLeaf)

  pub leaf-function : (handle : ℕ) (declared : function.Function) → value_at whole.functions handle ≡ Some declared → ForSome declared.diagnostic_filter_leaf (λ leaf. leaf < length whole.diagnostic_filters)
  leaf-function handle declared found =
      IsWithin-found (limits_inside (record (lengths whole) { functions = handle }) declared) reference.DiagnosticFilter declared.diagnostic_filter_leaf
      (HandlesAreValid-function whole valid handle declared found part.DiagnosticFilterLeaf)

  pub leaf-entry_point : (position : ℕ) (entry : entry_point.EntryPoint) → slice_get whole.entry_points.items position ≡ Some entry → ForSome entry.function.diagnostic_filter_leaf (λ leaf. leaf < length whole.diagnostic_filters)
  leaf-entry_point position entry found =
      IsWithin-found (limits_inside (lengths whole) entry.function) reference.DiagnosticFilter entry.function.diagnostic_filter_leaf
      (HandlesAreValid-entry_point whole valid position entry found part.DiagnosticFilterLeaf)
