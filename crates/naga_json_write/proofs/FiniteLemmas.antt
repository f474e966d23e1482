-- Literals that have a JSON are finite.
use Rattle.std.proofs.Common.{refl, subst, Bool, List, [], ◌∷◌, map}
use Rattle.std.specs.List.{AllZip, list_all}
use Rattle.std.specs.Prelude.{IsTrue, ◌&&◌}
use Rattle.json.specs.Json.{Json}
use Rattle.naga_arena.specs.Arena.{values}
use Rattle.naga_arena.specs.declared.span.Span.{Span}
use Rattle.naga_json.specs.derived.Literal.{literal_form}
use Rattle.naga_ir.specs.declared.expression.Expression.{Expression}
use Rattle.naga_ir.specs.declared.expression.Expression.TheVariants as expression
use Rattle.naga_ir.specs.declared.literal.Literal.{Literal}
use Rattle.naga_ir.specs.declared.literal.Literal.TheVariants as literal
use Rattle.naga_ir.specs.declared.module.EntryPoint.{EntryPoint}
use Rattle.naga_ir.specs.declared.module.Function.{Function}
use Rattle.naga_ir.specs.declared.module.Module.{Module}
use Rattle.naga_json.specs.Arenas.{arena_value}
use Rattle.naga_json.specs.EntryPoint.{entry_point_form, entry_point_value}
use Rattle.naga_json.specs.derived.Expression.{expression_form}
use Rattle.naga_json.specs.Expression.{value_of}
use Rattle.naga_json.specs.Function.{function_form, function_value}
use Rattle.naga_json.specs.Module.{module_form, module_value}
use Rattle.naga_json_write.specs.Finite.{are_finite, entry_points_are_finite, functions_are_finite, is_finite, is_finite_literal, is_finite_module}
use Rattle.naga_json_write.specs.Lists.{IsArenaJson}
use Rattle.naga_json_write.proofs.ArenasLemmas.{values-arena_value}

both : (a b : Bool) → IsTrue a → IsTrue b → IsTrue (a && b)
both a b first second = rw first second

-- a literal that has a JSON
literal_is_finite : (value : Literal) (j : Json) → literal_form.Writes value j → IsTrue (is_finite_literal value)
literal_is_finite (literal.F64 bits) j writes = writes.1.3
literal_is_finite (literal.F32 bits) j writes = writes.1.3
literal_is_finite (literal.AbstractFloat bits) j writes = writes.1.3
literal_is_finite _ j writes = refl

expression_is_finite : (value : Expression) (j : Json) → expression_form.Writes (value_of value) j → IsTrue (is_finite value)
expression_is_finite (expression.Literal value) j writes = literal_is_finite value writes.0 writes.1
expression_is_finite _ j writes = refl

-- where each value that has a JSON passes a test, so do all values of a list of which each has one
all_pass : {A B : Type 0} (Writes : B → Json → Type 0) (view : A → B) (passes : A → Bool) → ((value : A) (j : Json) → Writes (view value) j → IsTrue (passes value)) → (values : List A) (js : List Json) → AllZip Writes (map view values) js → IsTrue (list_all passes values)
all_pass Writes view passes each [] js all = refl
all_pass Writes view passes each (value ∷ values) [] all = absurd all
all_pass Writes view passes each (value ∷ values) (j ∷ js) all = both (passes value) (list_all passes values) (each value j all.0) (all_pass Writes view passes each values js all.1)

-- the same of the values of an arena
arena_passes : {A B : Type 0} (Writes : B → Json → Type 0) (view : A → B) (passes : A → Bool) → ((value : A) (j : Json) → Writes (view value) j → IsTrue (passes value)) → (arena : List (A × Span)) (j : Json) → IsArenaJson Writes (arena_value view arena) j → IsTrue (list_all passes (values arena))
arena_passes Writes view passes each arena j is =
    all_pass Writes view passes each (values arena) is.0 (subst (λ list. AllZip Writes list is.0) (values-arena_value view arena) is.1)

expressions_are_finite : (expressions : List (Expression × Span)) (j : Json) → IsArenaJson expression_form.Writes (arena_value value_of expressions) j → IsTrue (are_finite expressions)
expressions_are_finite = arena_passes expression_form.Writes value_of is_finite expression_is_finite

function_is_finite : (function : Function) (j : Json) → function_form.Writes (function_value function) j → IsTrue (are_finite function.expressions)
function_is_finite function j writes = expressions_are_finite function.expressions writes.0 writes.1

entry_point_is_finite : (entry : EntryPoint) (j : Json) → entry_point_form.Writes (entry_point_value entry) j → IsTrue (are_finite entry.function.expressions)
entry_point_is_finite entry j writes = function_is_finite entry.function writes.0 writes.1

-- where a module has a JSON, its literals are finite
pub module_is_finite : (whole : Module) (j : Json) → module_form.Writes (module_value whole) j → IsTrue (is_finite_module whole)
module_is_finite whole j writes =
    both (are_finite whole.global_expressions) (functions_are_finite whole.functions && entry_points_are_finite whole.entry_points.items)
    (expressions_are_finite whole.global_expressions writes.0 writes.1)
    (both (functions_are_finite whole.functions) (entry_points_are_finite whole.entry_points.items)
    (arena_passes function_form.Writes function_value (λ function. are_finite function.expressions) function_is_finite whole.functions writes.2.0 writes.2.1)
    (all_pass entry_point_form.Writes entry_point_value (λ entry. are_finite entry.function.expressions) entry_point_is_finite whole.entry_points.items writes.2.2.1.0 writes.2.2.1.1))
