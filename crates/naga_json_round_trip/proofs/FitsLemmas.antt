-- Lists, arenas and maps fit if each of their values does, and only then.
use Rattle.std.proofs.Common.{◌≡◌, ℕ, ◌<◌, List, [], ◌∷◌, map, All, IfSome, Option, Some, None, nat_eq, arith, sym, subst}
use Rattle.std.proofs.lemmas.List.{length-map}
use Rattle.std.proofs.lemmas.List.Elements.{All-cons, All-head, All-map, All-tail}
use Rattle.std.proofs.lemmas.Map.Made.{keys_of-map_values}
use Rattle.std.proofs.lemmas.Simd.{map-map}
use Rattle.std.specs.List.{IsDistinct}
use Rattle.std.specs.Prelude.{⊤}
use Rattle.indexmap.specs.IndexMap.{IndexMap, IsUnique, keys}
use Rattle.naga_arena.specs.Arena.{values}
use Rattle.naga_arena.specs.Span.{undefined}
use Rattle.naga_arena.specs.declared.span.Span.{Span}
use Rattle.naga_ir.specs.declared.module.EntryPoint.{EntryPoint}
use Rattle.naga_ir.specs.declared.module.Function.{Function}
use Rattle.naga_json.specs.Arenas.{ArenaFits, arena_value, unspanned}
use Rattle.naga_json.specs.Codec.{Codec}
use Rattle.naga_json.specs.EntryPoint.{EntryPointValue, entry_point_form, entry_point_value}
use Rattle.naga_json.specs.Function.{FunctionValue, function_form, function_value}
use Rattle.naga_json.specs.Maps.{map_codec, map_value}
use Rattle.naga_json.specs.Unspanned.{unspanned_entry_point, unspanned_function}
use Rattle.naga_json_round_trip.specs.Module.{EntryPointFits, FunctionFits, ValuesFit}

-- ---- optional values, lists, arenas and maps

pub anything : {A : Type 0} (o : Option A) → IfSome o (λ value. ⊤)
anything None = tt
anything (Some value) = tt

-- what holds of the views of values holds of each value
All-unmap : {A B : Type 0} (P : B → Type 0) (view : A → B) (list : List A) → All P (map view list) → All (λ a. P (view a)) list
All-unmap P view [] each = λ k d within. absurd (omega arith)
All-unmap P view (a ∷ list) each =
    All-cons (λ a. P (view a)) a list (All-head P (view a) (map view list) each) (All-unmap P view list (All-tail P (view a) (map view list) each))

module _ {A B : Type 0} (Fits : B → Type 0) (view : A → B) where
  abbrev without_span : A → B × Span
  without_span a = (view a, undefined)

  -- an arena without spans, of which each value fits
  views-fit : (arena : List (A × Span)) (views : List (B × Span)) → views ≡ map without_span (values arena) → ValuesFit (λ a. Fits (view a)) arena → ArenaFits Fits views
  views-fit arena views are fits = rw are (record {
    size = simp length-map fits.0;
    each = All-map (λ (entry : B × Span). Fits entry.0) without_span (values arena) fits.1;
    spans = simp map-map;
  })

  -- each value of such an arena fits
  views-each : (arena : List (A × Span)) (views : List (B × Span)) → views ≡ map without_span (values arena) → ArenaFits Fits views → ValuesFit (λ a. Fits (view a)) arena
  views-each arena views are fits =
      let same = rw are at fits in
      (simp length-map at same.size, All-unmap (λ (entry : B × Span). Fits entry.0) without_span (values arena) same.each)

  pub arena-fits : (arena : List (A × Span)) → ValuesFit (λ a. Fits (view a)) arena → ArenaFits Fits (unspanned (arena_value view arena))
  arena-fits arena fits = views-fit arena (unspanned (arena_value view arena)) (simp map-map) fits

-- a map of which each element fits
pub map-fits : {V A S : Type 0} (bound : ℕ) (codec : Codec A) (view : V → A) → ((a : A) → codec.Fits a) → (entries : IndexMap ℕ V S) → All (λ key. key < bound) (keys entries) → IsUnique nat_eq entries → (map_codec bound codec).Fits (map_value view entries)
map-fits bound codec view every entries below distinct =
    let same = sym (keys_of-map_values view entries.entries) in
    ((subst (All (λ key. key < bound)) same below, subst (IsDistinct nat_eq) same distinct), λ k d within. every _)

-- ---- functions and entry points

abbrev read_function : Function → FunctionValue
read_function function = unspanned_function (function_value function)

abbrev read_functions : List (Function × Span) → List (FunctionValue × Span)
read_functions functions = map (λ entry. (unspanned_function entry.0, undefined)) (arena_value function_value functions)

pub functions-fit : (functions : List (Function × Span)) → ValuesFit FunctionFits functions → ArenaFits function_form.Fits (read_functions functions)
functions-fit functions fit = views-fit function_form.Fits read_function functions (read_functions functions) (simp map-map) fit

pub functions-each : (functions : List (Function × Span)) → ArenaFits function_form.Fits (read_functions functions) → ValuesFit FunctionFits functions
functions-each functions fit = views-each function_form.Fits read_function functions (read_functions functions) (simp map-map) fit

abbrev read_entry_point : EntryPoint → EntryPointValue
read_entry_point entry = unspanned_entry_point (entry_point_value entry)

pub entry_points-fit : (entries : List EntryPoint) → All EntryPointFits entries → All entry_point_form.Fits (map unspanned_entry_point (map entry_point_value entries))
entry_points-fit entries fit = rw map-map (All-map entry_point_form.Fits read_entry_point entries fit)

pub entry_points-each : (entries : List EntryPoint) → All entry_point_form.Fits (map unspanned_entry_point (map entry_point_value entries)) → All EntryPointFits entries
entry_points-each entries fit = All-unmap entry_point_form.Fits read_entry_point entries (rw map-map at fit)
