-- A module that is compacted is typed if it was.
use Rattle.std.proofs.Common.{◌≡◌, ◌∙◌, ap, subst, sym, refl, ℕ, zero, suc, ◌<◌, List, [], ◌∷◌, length, Option, Some, arith}
use Rattle.std.proofs.lemmas.List.Elements.{All-map}
use Rattle.std.proofs.lemmas.Option.{none-some, same_Some, slice_get-map, slice_get_within}
use Rattle.std.specs.List.{AllZip, Contains}
use Rattle.std.specs.Option.{option_map}
use Rattle.std.specs.Prelude.{All, slice_get}
use Rattle.naga_arena.specs.Arena.{value_at}
use Rattle.naga_arena.specs.declared.span.Span.{Span}
use Rattle.naga_ir.specs.declared.module.EntryPoint as entry_point
use Rattle.naga_ir.specs.declared.module.Function as function
use Rattle.naga_ir.specs.declared.module.FunctionResult as outcome
use Rattle.naga_ir.specs.declared.module.Module as the_module
use Rattle.naga_flow.specs.Bodies.{functions_of, functions_of_entries}
use Rattle.naga_valid.specs.Places.{lengths, references_found}
use Rattle.naga_valid.specs.Valid.{HandlesAreValid}
use Rattle.naga_valid.specs.declared.reference.Reference.TheVariants as reference
use Rattle.naga_valid.proofs.HandlesAreValidLemmas.{HandlesAreValid-entry_point, HandlesAreValid-function}
use Rattle.naga_compact.specs.Kept.{kept_elements}
use Rattle.naga_compact.specs.Module.Compaction.{CompactsFunctions, CompactsModule, HasCompactedFunction, IsCompactedFunction}
use Rattle.naga_compact.specs.Module.References.{references_of_function}
use Rattle.naga_compact.specs.Operands.{OperandsPrecede}
use Rattle.naga_compact.specs.Renaming.Functions.{IsRenamedEntryPoint}
use Rattle.naga_compact.specs.Renaming.Renumbering.{renaming_of}
use Rattle.naga_compact.specs.declared.module.renumbering.ModuleRenumbering.{ModuleRenumbering}
use Rattle.naga_compact.specs.declared.module.roots.KeepUnused.{KeepUnused}
use Rattle.naga_compact.proofs.CompactsFunctionsLemmas.{HandlesAreValid-compacted_functions, IsCompactedEntry}
use Rattle.naga_compact.proofs.KeptElementsLemmas.{IsOrigin, IsOrigin-of, value_at-found}
use Rattle.naga_compact.proofs.OperandsPrecedeLemmas.{OperandsPrecede-entry_points, OperandsPrecede-functions}
use Rattle.naga_compact.proofs.SizePrecedesLemmas.{HandlesAreValid-removed}
use Rattle.naga_typing.specs.TypedModules.{DeclarationsAreTyped, FunctionIsTyped, ModuleIsTyped}
use Rattle.naga_typing.proofs.CompactedIsTypedLemmas.{All-at, All-from_positions, FunctionIsTyped-compacted}
use Rattle.naga_typing.proofs.CompactsFunctionLemmas.{context_in-compacted}
use Rattle.naga_typing.proofs.ContextLemmas.{result_of, results-related}
use Rattle.naga_typing.proofs.FunctionIsTypedLemmas.{DeclarationsAreTyped-same, arguments-related, arguments_of}
use Rattle.naga_typing.proofs.KeepsTypesLemmas.{entry_point-kept}
use Rattle.naga_typing.proofs.RemovedDeclarationsLemmas.{DeclarationsAreTyped-removed}
use Rattle.naga_typing.proofs.RemovedIsTypedLemmas.{FunctionIsTyped-removed}
use Rattle.naga_typing.proofs.RemovesElementsLemmas.{refers}

-- an element of the second list is related to the one of the first list at the same position
AllZip-origin : {A B : Type 0} (R : A → B → Type 0) (xs : List A) (ys : List B) → AllZip R xs ys → (k : ℕ) (y : B) → slice_get ys k ≡ Some y → (x : A) × (slice_get xs k ≡ Some x) × R x y
AllZip-origin R xs [] all zero y found = absurd (none-some y found)
AllZip-origin R xs [] all (suc k) y found = absurd (none-some y found)
AllZip-origin R [] (z ∷ ys) all k y found = absurd all
AllZip-origin R (x ∷ xs) (z ∷ ys) all zero y found = (x, refl, subst (R x) (same_Some z y found) all.0)
AllZip-origin R (x ∷ xs) (z ∷ ys) all (suc k) y found = AllZip-origin R xs ys all.1 k y found

-- ---- where each function is compacted by itself

module _ (old middle : the_module.Module) (compacts : CompactsFunctions old middle) where
  results : (handle : ℕ) → result_of (value_at middle.functions handle) ≡ result_of (value_at old.functions handle)
  results = results-related IsCompactedEntry (λ x y is. is.0.1.result) old.functions middle.functions compacts.functions

  parameters : (handle : ℕ) → arguments_of (value_at middle.functions handle) ≡ arguments_of (value_at old.functions handle)
  parameters = arguments-related IsCompactedEntry (λ x y is. is.0.1.arguments) old.functions middle.functions compacts.functions

  function-between : (before between : function.Function) → IsCompactedFunction before between → OperandsPrecede before.expressions → FunctionIsTyped old before → FunctionIsTyped middle between
  function-between before between is precede typed =
      FunctionIsTyped-compacted before between is.0 is.1 precede old middle
      (context_in-compacted before between is.0 is.1 old middle compacts.outside results)
      (λ i. record {
        parameters = λ handle. parameters handle i;
        result = option_map (λ (result : outcome.FunctionResult). result.ty) (is.1.result i);
        ray_desc = (compacts.outside i).special_types.ray_desc;
      })
      typed

  declarations-between : DeclarationsAreTyped old → DeclarationsAreTyped middle
  declarations-between = DeclarationsAreTyped-same old middle compacts.outside results parameters

-- ---- the whole

module _ (old : the_module.Module) (keep_unused : KeepUnused) (kept : ModuleRenumbering) (new : the_module.Module) (valid : HandlesAreValid old) (compacts : CompactsModule old keep_unused kept new) where
  abbrev middle : the_module.Module
  middle = compacts.middle

  valid_between : HandlesAreValid middle
  valid_between = HandlesAreValid-compacted_functions old middle compacts.functions valid

  valid_after : HandlesAreValid new
  valid_after = HandlesAreValid-removed middle new keep_unused kept compacts.used compacts.removed valid_between

  abbrev PrecedesIn : function.Function × Span → Type 0
  PrecedesIn entry = OperandsPrecede entry.0.expressions

  abbrev PrecedesInEntry : entry_point.EntryPoint → Type 0
  PrecedesInEntry entry = OperandsPrecede entry.function.expressions

  function-typed : All (FunctionIsTyped old) (functions_of old) → (position : ℕ) (after : function.Function × Span) → slice_get new.functions position ≡ Some after → FunctionIsTyped new after.0
  function-typed typed position after at =
      let between = AllZip-origin _ (kept_elements kept.functions middle.functions) new.functions compacts.removed.functions position after at in
      let from : IsOrigin kept.functions middle.functions position between.0 = IsOrigin-of kept.functions middle.functions position between.0 between.1 in
      let before = AllZip-origin IsCompactedEntry old.functions middle.functions compacts.functions.functions from.at between.0 from.found in
      let was : value_at middle.functions from.at ≡ Some between.0.0 = value_at-found middle.functions from.at (Some between.0) from.found in
      let present : from.at < length middle.functions = slice_get_within middle.functions from.at between.0 from.found in
      FunctionIsTyped-removed middle new keep_unused kept compacts.used compacts.removed valid_between between.0.0 after.0 between.2.0
      (λ name inside. refers middle new keep_unused kept compacts.used compacts.removed valid_between (reference.Function from.at) from.so name (subst (λ (v : Option function.Function). Contains (references_found references_of_function v) name) (sym was) inside))
      (record (lengths middle) { functions = from.at }) (omega arith, omega arith, omega arith, omega arith, omega arith, omega (arith, present))
      (HandlesAreValid-function middle valid_between from.at between.0.0 was)
      (All-at PrecedesIn middle.functions from.at between.0 (OperandsPrecede-functions middle valid_between) from.found)
      (All-at PrecedesIn new.functions position after (OperandsPrecede-functions new valid_after) at)
      (function-between old middle compacts.functions before.0.0 between.0.0 before.2.0
      (All-at PrecedesIn old.functions from.at before.0 (OperandsPrecede-functions old valid) before.1)
      (All-at (FunctionIsTyped old) (functions_of old) from.at before.0.0 typed (value_at-found old.functions from.at (Some before.0) before.1)))

  functions-compacted : All (FunctionIsTyped old) (functions_of old) → All (FunctionIsTyped new) (functions_of new)
  functions-compacted typed =
      All-map (FunctionIsTyped new) (λ (entry : function.Function × Span). entry.0) new.functions
      (All-from_positions (λ (entry : function.Function × Span). FunctionIsTyped new entry.0) new.functions (function-typed typed))

  entry_point-typed : All (FunctionIsTyped old) (functions_of_entries old.entry_points.items) → (position : ℕ) (after : entry_point.EntryPoint) → slice_get new.entry_points.items position ≡ Some after → FunctionIsTyped new after.function
  entry_point-typed typed position after at =
      let between = AllZip-origin (IsRenamedEntryPoint (renaming_of kept)) middle.entry_points.items new.entry_points.items compacts.removed.entry_points position after at in
      let before = AllZip-origin HasCompactedFunction old.entry_points.items middle.entry_points.items compacts.functions.entry_points position between.0 between.1 in
      FunctionIsTyped-removed middle new keep_unused kept compacts.used compacts.removed valid_between between.0.function after.function between.2.inside
      (entry_point-kept old keep_unused kept new valid compacts position between.0 between.1)
      (lengths middle) (omega arith, omega arith, omega arith, omega arith, omega arith, omega arith)
      (HandlesAreValid-entry_point middle valid_between position between.0 between.1)
      (All-at PrecedesInEntry middle.entry_points.items position between.0 (OperandsPrecede-entry_points middle valid_between) between.1)
      (All-at PrecedesInEntry new.entry_points.items position after (OperandsPrecede-entry_points new valid_after) at)
      (function-between old middle compacts.functions before.0.function between.0.function before.2.1
      (All-at PrecedesInEntry old.entry_points.items position before.0 (OperandsPrecede-entry_points old valid) before.1)
      (All-at (FunctionIsTyped old) (functions_of_entries old.entry_points.items) position before.0.function typed
      (slice_get-map (λ (entry : entry_point.EntryPoint). entry.function) old.entry_points.items position ∙ ap (option_map (λ (entry : entry_point.EntryPoint). entry.function)) before.1)))

  entry_points-compacted : All (FunctionIsTyped old) (functions_of_entries old.entry_points.items) → All (FunctionIsTyped new) (functions_of_entries new.entry_points.items)
  entry_points-compacted typed =
      All-map (FunctionIsTyped new) (λ (entry : entry_point.EntryPoint). entry.function) new.entry_points.items
      (All-from_positions (λ (entry : entry_point.EntryPoint). FunctionIsTyped new entry.function) new.entry_points.items (entry_point-typed typed))

  pub ModuleIsTyped-compacted : ModuleIsTyped old → ModuleIsTyped new
  ModuleIsTyped-compacted typed = record {
    declarations = DeclarationsAreTyped-removed middle new keep_unused kept compacts.used compacts.removed valid_between valid_after (declarations-between old middle compacts.functions typed.declarations);
    functions = functions-compacted typed.functions;
    entry_points = entry_points-compacted typed.entry_points;
  }
