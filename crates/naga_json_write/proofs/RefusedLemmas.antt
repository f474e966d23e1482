-- Values that have no JSON because a part of them has none.
use Rattle.std.proofs.Common.{◌≢◌}
use Rattle.json.specs.Json.{Json}
use Rattle.naga_ir.specs.declared.module.EntryPoint.{EntryPoint}
use Rattle.naga_ir.specs.declared.module.Function.{Function}
use Rattle.naga_ir.specs.declared.module.Module.{Module}
use Rattle.naga_json.specs.EntryPoint.{entry_point_form, entry_point_value}
use Rattle.naga_json.specs.derived.Expression.{expression_form}
use Rattle.naga_json.specs.Form.{arena_form, list_form}
use Rattle.naga_json.specs.Function.{function_form, function_value}
use Rattle.naga_json.specs.Module.{module_form, module_value}
use Rattle.naga_json_write.specs.declared.write_error.TryWriteError.{TryWriteError}
use Rattle.naga_json_write.specs.declared.write_error.TryWriteError.TheVariants.{Memory}

-- a function whose expressions have no JSON
pub no_function : (function : Function) (error : TryWriteError) → (error ≢ Memory → (j : Json) → (arena_form expression_form).Writes (function_value function).expressions j → ⊥) → error ≢ Memory → (j : Json) → function_form.Writes (function_value function) j → ⊥
no_function function error none other j writes = none other writes.0 writes.1

-- an entry point whose function has no JSON
pub no_entry_point : (entry : EntryPoint) (error : TryWriteError) → (error ≢ Memory → (j : Json) → function_form.Writes (function_value entry.function) j → ⊥) → error ≢ Memory → (j : Json) → entry_point_form.Writes (entry_point_value entry) j → ⊥
no_entry_point entry error none other j writes = none other writes.0 writes.1

module _ (whole : Module) (error : TryWriteError) where
  -- a module whose global expressions have no JSON
  pub no_global_expressions : (error ≢ Memory → (j : Json) → (arena_form expression_form).Writes (module_value whole).global_expressions j → ⊥) → error ≢ Memory → (j : Json) → module_form.Writes (module_value whole) j → ⊥
  no_global_expressions none other j writes = none other writes.0 writes.1

  -- a module whose functions have no JSON
  pub no_functions : (error ≢ Memory → (j : Json) → (arena_form function_form).Writes (module_value whole).functions j → ⊥) → error ≢ Memory → (j : Json) → module_form.Writes (module_value whole) j → ⊥
  no_functions none other j writes = none other writes.2.0 writes.2.1

  -- a module whose entry points have no JSON
  pub no_entry_points : (error ≢ Memory → (j : Json) → (list_form entry_point_form).Writes (module_value whole).entry_points j → ⊥) → error ≢ Memory → (j : Json) → module_form.Writes (module_value whole) j → ⊥
  no_entry_points none other j writes = none other writes.2.2.0 writes.2.2.1
