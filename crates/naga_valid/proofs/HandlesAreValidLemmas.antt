-- What a valid module ensures of each of its parts.
use Rattle.std.proofs.Common.{◌≡◌, subst, refl, ℕ, Some}
use Rattle.std.specs.Prelude.{slice_get}
use Rattle.std.specs.Option.{option_map}
use Rattle.std.proofs.lemmas.List.Elements.{All-weaker}
use Rattle.naga_arena.specs.Arena.{value_at, values}
use Rattle.naga_ir.specs.Chain.{ChainsPrecede}
use Rattle.naga_ir.specs.declared.module.EntryPoint as entry_point
use Rattle.naga_ir.specs.declared.module.Function as function
use Rattle.naga_ir.specs.declared.module.Module as the_module
use Rattle.naga_valid.specs.Declarations.{references_of_constant, references_of_filter, references_of_global_variable, references_of_override, references_of_type}
use Rattle.naga_valid.specs.Expressions.{references_of_expression}
use Rattle.naga_valid.specs.Limits.{AreWithin}
use Rattle.naga_valid.specs.Places.{lengths, limits_found, limits_in_part, limits_inside, references_found, references_in, references_in_part, references_of_entry_point}
use Rattle.naga_valid.proofs.EachIsWithinLemmas.{EachIsWithin}
use Rattle.naga_valid.specs.Valid.{HandlesAreValid, IsAfterInit, IsBeforeType, IsConstant, ReferencesAreWithin}
use Rattle.naga_valid.specs.declared.limits.Limits.{Limits}
use Rattle.naga_valid.specs.declared.place.Part.{Part}
use Rattle.naga_valid.specs.declared.place.Part.TheVariants as part
use Rattle.naga_valid.specs.declared.place.Place.TheVariants as place
use Rattle.naga_valid.proofs.ReferencesOfExpressionLemmas.{EachIsWithin-ChainsPrecede}
use Rattle.naga_valid.proofs.TypeOfReferenceLemmas.{IsAfterInit-same, IsBeforeType-same}

-- ---- limits

-- the limits for the global expression with this index
abbrev pub global_limits : the_module.Module → ℕ → Limits
global_limits whole index = record (lengths whole) { expressions = index }

-- the limits for the expression with this index in the function with this handle
abbrev pub function_limits : the_module.Module → (handle : ℕ) → function.Function → ℕ → Limits
function_limits whole handle declared index =
    record (limits_inside (record (lengths whole) { functions = handle }) declared) { expressions = index }

-- the limits for the expression with this index in the function of an entry point
abbrev pub entry_limits : the_module.Module → function.Function → ℕ → Limits
entry_limits whole declared index = record (limits_inside (lengths whole) declared) { expressions = index }

module _ (whole : the_module.Module) (valid : HandlesAreValid whole) where
  -- ---- elements

  pub HandlesAreValid-types : EachIsWithin references_of_type (λ index. record (lengths whole) { types = index }) (values whole.types)
  HandlesAreValid-types = λ index. valid.references (place.«Type» index)

  pub HandlesAreValid-constants : EachIsWithin references_of_constant (λ _. lengths whole) (values whole.constants)
  HandlesAreValid-constants = λ index. valid.references (place.Constant index)

  pub HandlesAreValid-overrides : EachIsWithin references_of_override (λ _. lengths whole) (values whole.overrides)
  HandlesAreValid-overrides = λ index. valid.references (place.Override index)

  pub HandlesAreValid-global_variables : EachIsWithin references_of_global_variable (λ _. lengths whole) (values whole.global_variables)
  HandlesAreValid-global_variables = λ index. valid.references (place.GlobalVariable index)

  pub HandlesAreValid-global_expressions : EachIsWithin references_of_expression (global_limits whole) (values whole.global_expressions)
  HandlesAreValid-global_expressions = λ index. valid.references (place.GlobalExpression index)

  pub HandlesAreValid-filters : EachIsWithin references_of_filter (λ index. record (lengths whole) { diagnostic_filters = index }) (values whole.diagnostic_filters)
  HandlesAreValid-filters = λ index. valid.references (place.DiagnosticFilter index)

  pub HandlesAreValid-entry_points : EachIsWithin references_of_entry_point (λ _. lengths whole) whole.entry_points.items
  HandlesAreValid-entry_points = λ index. valid.references (place.EntryPoint index)

  pub HandlesAreValid-ChainsPrecede : ChainsPrecede whole.global_expressions
  HandlesAreValid-ChainsPrecede =
      EachIsWithin-ChainsPrecede whole.global_expressions (global_limits whole) HandlesAreValid-global_expressions (λ _. refl)

  -- ---- the function with a handle

  module _ (handle : ℕ) (declared : function.Function) (found : value_at whole.functions handle ≡ Some declared) where
    pub HandlesAreValid-function : (inner : Part) → AreWithin (limits_in_part (limits_inside (record (lengths whole) { functions = handle }) declared) inner) (references_in_part declared inner)
    HandlesAreValid-function inner =
        subst (λ o. AreWithin (limits_found (record (lengths whole) { functions = handle }) inner o) (references_found (λ d. references_in_part d inner) o)) found (valid.references (place.Function handle inner))

    pub HandlesAreValid-function_expressions : EachIsWithin references_of_expression (function_limits whole handle declared) (values declared.expressions)
    HandlesAreValid-function_expressions = λ index. HandlesAreValid-function (part.Expression index)

    pub HandlesAreValid-function_ChainsPrecede : ChainsPrecede declared.expressions
    HandlesAreValid-function_ChainsPrecede =
        EachIsWithin-ChainsPrecede declared.expressions (function_limits whole handle declared) HandlesAreValid-function_expressions (λ _. refl)

  -- ---- the entry point at a position

  module _ (position : ℕ) (entry : entry_point.EntryPoint) (found : slice_get whole.entry_points.items position ≡ Some entry) where
    pub HandlesAreValid-entry_point : (inner : Part) → AreWithin (limits_in_part (limits_inside (lengths whole) entry.function) inner) (references_in_part entry.function inner)
    HandlesAreValid-entry_point inner =
        subst (λ o. AreWithin (limits_found (lengths whole) inner (option_map (λ e. e.function) o)) (references_found (λ e. references_in_part e.function inner) o)) found (valid.references (place.EntryPointFunction position inner))

    pub HandlesAreValid-entry_expressions : EachIsWithin references_of_expression (entry_limits whole entry.function) (values entry.function.expressions)
    HandlesAreValid-entry_expressions = λ index. HandlesAreValid-entry_point (part.Expression index)

    pub HandlesAreValid-entry_ChainsPrecede : ChainsPrecede entry.function.expressions
    HandlesAreValid-entry_ChainsPrecede =
        EachIsWithin-ChainsPrecede entry.function.expressions (entry_limits whole entry.function) HandlesAreValid-entry_expressions (λ _. refl)

-- ---- other functions

module _ (old new : the_module.Module) where
  -- the old module with the functions and the entry points of the new one
  abbrev pub with_functions_of : the_module.Module
  with_functions_of = record old { functions = new.functions; entry_points = new.entry_points }

  -- only the references depend on the functions
  pub HandlesAreValid-with_functions : HandlesAreValid old → ReferencesAreWithin with_functions_of → HandlesAreValid with_functions_of
  HandlesAreValid-with_functions valid within = record {
    references = within;
    expressions = λ expression.
        All-weaker (λ to. IsConstant to × IsAfterInit old expression to) (λ to. IsConstant to × IsAfterInit with_functions_of expression to)
        (λ to is. (is.0, IsAfterInit-same old with_functions_of refl refl expression to is.1))
        (references_in old (place.GlobalExpression expression)) (valid.expressions expression);
    sizes = λ ty. record {
      type = (valid.sizes ty).type;
      init = λ init expression is before.
          All-weaker (IsBeforeType old ty) (IsBeforeType with_functions_of ty) (IsBeforeType-same old with_functions_of refl refl ty)
          (references_in old (place.GlobalExpression expression)) ((valid.sizes ty).init init expression is before);
    };
  }
