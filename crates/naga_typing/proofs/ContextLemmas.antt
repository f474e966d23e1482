-- What the contexts of functions have in common.
use Rattle.std.proofs.Common.{◌≡◌, ap, refl, ℕ, zero, suc, List, [], ◌∷◌, Option, None, Some}
use Rattle.std.specs.List.{AllZip}
use Rattle.std.specs.Prelude.{option_map, slice_get}
use Rattle.indexmap.specs.IndexMap.{get}
use Rattle.naga_arena.specs.Arena.{value_at}
use Rattle.naga_arena.specs.declared.span.Span.{Span}
use Rattle.naga_kinds.specs.contracts.scalar.PredeclaredTypePartialEq.TheImpl as predeclared_eq
use Rattle.naga_ir.specs.declared.module.Function as function
use Rattle.naga_ir.specs.declared.module.FunctionArgument as argument
use Rattle.naga_ir.specs.declared.module.FunctionResult as outcome
use Rattle.naga_ir.specs.declared.module.LocalVariable as local
use Rattle.naga_ir.specs.declared.module.Module as the_module
use Rattle.naga_compact.specs.Renaming.Functions.{map_values}
use Rattle.naga_typifier.specs.Context.{context_in, context_of, inner_at}
use Rattle.naga_typifier.specs.declared.context.ResolveContext.{ResolveContext}
use Rattle.naga_typing.specs.Functions.{IsContextOf}

-- the context of a function is what the typifier makes of the parts of its module
pub context_of-function : (whole : the_module.Module) (inside : function.Function) (ctx : ResolveContext) → IsContextOf whole inside ctx → context_of ctx ≡ context_in whole inside
context_of-function whole inside ctx is = λ i. record {
  types = inner_at (is.types i);
  constants = λ handle. option_map (λ constant. constant.ty) (value_at (is.constants i) handle);
  overrides = λ handle. option_map (λ override. override.ty) (value_at (is.overrides i) handle);
  globals = λ handle. option_map (λ variable. (variable.space, variable.ty)) (value_at (is.global_vars i) handle);
  locals = λ handle. option_map (λ variable. variable.ty) (value_at (is.local_vars i) handle);
  arguments = λ index. option_map (λ argument. argument.ty) (slice_get (is.arguments i) index);
  results = λ handle. option_map (λ called. option_map (λ result. result.ty) called.result) (value_at (is.functions i) handle);
  ray_intersection = (is.special_types i).ray_intersection;
  ray_vertex_return = (is.special_types i).ray_vertex_return;
  predeclared = get predeclared_eq.ghosts.eq (is.special_types i).predeclared_types;
}

-- ---- a module with other functions

-- the type that a function returns
abbrev pub result_of : Option function.Function → Option (Option ℕ)
result_of = option_map (λ (called : function.Function). option_map (λ (result : outcome.FunctionResult). result.ty) called.result)

-- the type of a local variable
abbrev pub type_of_local : Option local.LocalVariable → Option ℕ
type_of_local = option_map (λ (variable : local.LocalVariable). variable.ty)

-- the context depends only on the types of local variables, on the arguments, and on what functions return
pub context_in-same : (old new : the_module.Module) (before after : function.Function)
    → new ≡ record old { functions = new.functions; entry_points = new.entry_points }
    → ((handle : ℕ) → result_of (value_at new.functions handle) ≡ result_of (value_at old.functions handle))
    → ((handle : ℕ) → type_of_local (value_at after.local_variables handle) ≡ type_of_local (value_at before.local_variables handle))
    → after.arguments ≡ before.arguments
    → context_in new after ≡ context_in old before
context_in-same old new before after outside results locals arguments = λ i. record {
  types = inner_at (outside i).types;
  constants = λ handle. option_map (λ constant. constant.ty) (value_at (outside i).constants handle);
  overrides = λ handle. option_map (λ override. override.ty) (value_at (outside i).overrides handle);
  globals = λ handle. option_map (λ variable. (variable.space, variable.ty)) (value_at (outside i).global_variables handle);
  locals = λ handle. locals handle i;
  arguments = λ index. option_map (λ (a : argument.FunctionArgument). a.ty) (slice_get (arguments i).items index);
  results = λ handle. results handle i;
  ray_intersection = (outside i).special_types.ray_intersection;
  ray_vertex_return = (outside i).special_types.ray_vertex_return;
  predeclared = get predeclared_eq.ghosts.eq (outside i).special_types.predeclared_types;
}

-- functions that are related one by one return the same, if related ones do
pub results-related : (R : (before after : function.Function × Span) → Type 0) → ((before after : function.Function × Span) → R before after → after.0.result ≡ before.0.result) →
    (old new : List (function.Function × Span)) → AllZip R old new → (handle : ℕ) → result_of (value_at new handle) ≡ result_of (value_at old handle)
results-related R same [] [] all handle = refl
results-related R same [] (after ∷ new) all handle = absurd all
results-related R same (before ∷ old) [] all handle = absurd all
results-related R same (before ∷ old) (after ∷ new) all zero = ap (λ result. Some (option_map (λ (result : outcome.FunctionResult). result.ty) result)) (same before after all.0)
results-related R same (before ∷ old) (after ∷ new) all (suc handle) = results-related R same old new all.1 handle

-- ---- arenas whose values are replaced

pub value_at-mapped : {X : Type 0} (f : X → X) (arena : List (X × Span)) (handle : ℕ) → value_at (map_values f arena) handle ≡ option_map f (value_at arena handle)
value_at-mapped f [] handle = refl
value_at-mapped f (entry ∷ arena) zero = refl
value_at-mapped f (entry ∷ arena) (suc handle) = value_at-mapped f arena handle

-- what is read from a value that is replaced
pub read-mapped : {X Y : Type 0} (f : X → X) (g : Y → Y) (read : X → Y) → ((x : X) → read (f x) ≡ g (read x)) → (found : Option X) → option_map read (option_map f found) ≡ option_map g (option_map read found)
read-mapped f g read same None = refl
read-mapped f g read same (Some x) = ap Some (same x)

-- the same where it stays as it is
pub read-kept : {X Y : Type 0} (f : X → X) (read : X → Y) → ((x : X) → read (f x) ≡ read x) → (found : Option X) → option_map read (option_map f found) ≡ option_map read found
read-kept f read same None = refl
read-kept f read same (Some x) = ap Some (same x)
