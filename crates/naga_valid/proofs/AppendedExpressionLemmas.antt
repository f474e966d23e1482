-- Valid modules to which a global expression is appended.
use Rattle.std.proofs.Common.{◌≡◌, sym, subst, refl, ℕ, ◌<◌, ◌≤◌, List, [], ◌∷◌, ◌++◌, length, length-append, Option, Some, None, arith}
use Rattle.std.specs.Prelude.{All, slice_get}
use Rattle.std.specs.Option.{ForSome, option_map}
use Rattle.std.proofs.lemmas.List.Elements.{All-weaker}
use Rattle.naga_arena.specs.Arena.{value_at}
use Rattle.naga_arena.specs.declared.span.Span.{Span}
use Rattle.naga_arena.proofs.ValueAtLemmas.{slice_get-map-push}
use Rattle.naga_ir.specs.declared.expression.Expression.{Expression}
use Rattle.naga_ir.specs.declared.module.Function as function
use Rattle.naga_ir.specs.declared.module.Module as the_module
use Rattle.naga_valid.specs.Expressions.{references_of_expression}
use Rattle.naga_valid.specs.Limits.{AreWithin, IsWithin}
use Rattle.naga_valid.specs.Places.{lengths, limits_at, limits_found, limits_inside, references_found, references_in}
use Rattle.naga_valid.specs.Valid.{HandlesAreValid, IsAfterInit, IsBeforeType, IsConstant, IsConstantExpression, RefersBefore, init_of_reference, init_of_size, size_of_type}
use Rattle.naga_valid.specs.declared.limits.Limits.{Limits}
use Rattle.naga_valid.specs.declared.reference.Reference.{Reference}
use Rattle.naga_valid.specs.declared.reference.Reference.TheVariants as reference
use Rattle.naga_valid.specs.declared.place.Part.{Part}
use Rattle.naga_valid.specs.declared.place.Part.TheVariants as part
use Rattle.naga_valid.specs.declared.place.Place.{Place}
use Rattle.naga_valid.specs.declared.place.Place.TheVariants.{«Type», GlobalExpression, Function, EntryPointFunction, DiagnosticFilter}
use Rattle.naga_valid.proofs.ForSomeLemmas.{ForSome-and_then}
use Rattle.naga_valid.proofs.HandlesOfDeclarationsLemmas.{init-of_reference}
use Rattle.naga_valid.proofs.SliceGetLemmas.{slice_get-each_map_push}
use Rattle.naga_valid.proofs.TypeOfReferenceLemmas.{IsAfterInit-same, IsBeforeType-same}

-- ---- more global expressions

-- the limits with this limit of global expressions
abbrev up_to : Limits → ℕ → Limits
up_to limits count = record limits { global_expressions = count }

module _ (few many : ℕ) (fewer : few ≤ many) where
  IsWithin-wider : (limits : Limits) (handle : Reference) → IsWithin (up_to limits few) handle → IsWithin (up_to limits many) handle
  IsWithin-wider limits (reference.GlobalExpression handle) within = omega (arith, fewer, within)
  IsWithin-wider limits _ within = within

  AreWithin-wider : (limits : Limits) (references : List Reference) → AreWithin (up_to limits few) references → AreWithin (up_to limits many) references
  AreWithin-wider limits references within =
      All-weaker (IsWithin (up_to limits few)) (IsWithin (up_to limits many)) (IsWithin-wider limits) references within

  AreWithin-wider_found : (limits : Limits) (inner : Part) (found : Option function.Function) (references : List Reference) → AreWithin (limits_found (up_to limits few) inner found) references → AreWithin (limits_found (up_to limits many) inner found) references
  AreWithin-wider_found limits inner None references within = AreWithin-wider limits references within
  AreWithin-wider_found limits (part.Expression handle) (Some declared) references within =
      AreWithin-wider (record (limits_inside limits declared) { expressions = handle }) references within
  AreWithin-wider_found limits part.Arguments (Some declared) references within = AreWithin-wider (limits_inside limits declared) references within
  AreWithin-wider_found limits part.Result (Some declared) references within = AreWithin-wider (limits_inside limits declared) references within
  AreWithin-wider_found limits (part.LocalVariable handle) (Some declared) references within = AreWithin-wider (limits_inside limits declared) references within
  AreWithin-wider_found limits part.NamedExpressions (Some declared) references within = AreWithin-wider (limits_inside limits declared) references within
  AreWithin-wider_found limits part.Body (Some declared) references within = AreWithin-wider (limits_inside limits declared) references within
  AreWithin-wider_found limits part.DiagnosticFilterLeaf (Some declared) references within = AreWithin-wider (limits_inside limits declared) references within

-- ---- the module

abbrev pub with_global_expression : the_module.Module → Expression → Span → the_module.Module
with_global_expression whole expression span =
    record whole { global_expressions = whole.global_expressions ++ (expression, span) ∷ [] }

module _ (whole : the_module.Module) (valid : HandlesAreValid whole) (expression : Expression) (span : Span) (inside : AreWithin (record (lengths whole) { expressions = length whole.global_expressions }) (references_of_expression expression)) (constant : All IsConstant (references_of_expression expression)) where
  abbrev few : ℕ
  few = length whole.global_expressions

  abbrev many : ℕ
  many = length (whole.global_expressions ++ (expression, span) ∷ [])

  fewer : few ≤ many
  fewer = omega (arith, length-append whole.global_expressions ((expression, span) ∷ []))

  references-appended : (place : Place) → AreWithin (limits_at (with_global_expression whole expression span) place) (references_in (with_global_expression whole expression span) place)
  references-appended («Type» ty) =
      AreWithin-wider few many fewer (record (lengths whole) { types = ty }) (references_in whole («Type» ty)) (valid.references («Type» ty))
  references-appended (DiagnosticFilter filter) =
      AreWithin-wider few many fewer (record (lengths whole) { diagnostic_filters = filter }) (references_in whole (DiagnosticFilter filter)) (valid.references (DiagnosticFilter filter))
  references-appended (GlobalExpression handle) =
      slice_get-each_map_push (λ pair. pair.0) whole.global_expressions (expression, span)
      (λ index found. AreWithin (record (up_to (lengths whole) many) { expressions = index }) (references_found references_of_expression found))
      (λ index. AreWithin-wider few many fewer (record (lengths whole) { expressions = index }) (references_in whole (GlobalExpression index)) (valid.references (GlobalExpression index)))
      (AreWithin-wider few many fewer (record (lengths whole) { expressions = few }) (references_of_expression expression) inside) handle
  references-appended (Function handle inner) =
      AreWithin-wider_found few many fewer (record (lengths whole) { functions = handle }) inner (value_at whole.functions handle) (references_in whole (Function handle inner)) (valid.references (Function handle inner))
  references-appended (EntryPointFunction position inner) =
      AreWithin-wider_found few many fewer (lengths whole) inner (option_map (λ entry. entry.function) (slice_get whole.entry_points.items position)) (references_in whole (EntryPointFunction position inner)) (valid.references (EntryPointFunction position inner))
  references-appended place = AreWithin-wider few many fewer (lengths whole) (references_in whole place) (valid.references place)

  -- what a reference leads to does not change

  abbrev appended : the_module.Module
  appended = with_global_expression whole expression span

  expressions-appended : (handle : ℕ) → IsConstantExpression appended handle
  expressions-appended =
      slice_get-each_map_push (λ pair. pair.0) whole.global_expressions (expression, span)
      (λ index found. All (λ to. IsConstant to × IsAfterInit appended index to) (references_found references_of_expression found))
      (λ index. All-weaker (λ to. IsConstant to × IsAfterInit whole index to) (λ to. IsConstant to × IsAfterInit appended index to)
      (λ to is. (is.0, IsAfterInit-same whole appended refl refl index to is.1)) (references_in whole (GlobalExpression index)) (valid.expressions index))
      (All-weaker IsConstant (λ to. IsConstant to × IsAfterInit appended few to)
      (λ to is. (is, IsAfterInit-same whole appended refl refl few to (init-of_reference whole valid to))) (references_of_expression expression) constant)

  -- the init of an override is an old expression
  init-within : (ty : ℕ) → ForSome (init_of_size whole ty) (λ init. init < few)
  init-within ty =
      ForSome-and_then (λ handle. init_of_reference whole (reference.Override handle)) (size_of_type whole ty) (λ init. init < few)
      (λ handle _. init-of_reference whole valid (reference.Override handle))

  before-appended : (ty init handle : ℕ) → init_of_size whole ty ≡ Some init → handle ≤ init → RefersBefore appended ty handle
  before-appended ty init handle is before =
      let old = init-within ty init is in
      let within : handle < few = omega (arith, old, before) in
      let same = slice_get-map-push (λ pair. pair.0) whole.global_expressions (expression, span) handle within in
      subst (λ found. All (IsBeforeType appended ty) (references_found references_of_expression found)) (sym same)
      (All-weaker (IsBeforeType whole ty) (IsBeforeType appended ty) (IsBeforeType-same whole appended refl refl ty)
      (references_in whole (GlobalExpression handle)) ((valid.sizes ty).init init handle is before))

  pub HandlesAreValid-with_global_expression : HandlesAreValid appended
  HandlesAreValid-with_global_expression = record {
    references = references-appended;
    expressions = expressions-appended;
    sizes = λ ty. record { type = (valid.sizes ty).type; init = before-appended ty };
  }
