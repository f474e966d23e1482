-- A module that passes the check of types passes it after it was restricted.
use Rattle.std.proofs.Common.{◌≡◌, ◌∙◌, ap, subst, sym, inl, inr, ℕ, Option, Some}
use Rattle.std.proofs.lemmas.List.Elements.{All-from_recursion}
use Rattle.std.proofs.lemmas.Option.{slice_get-map}
use Rattle.std.specs.Option.{option_map}
use Rattle.std.specs.Prelude.{All, slice_get}
use Rattle.naga_arena.specs.Arena.{value_at}
use Rattle.naga_arena.specs.declared.span.Span.{Span}
use Rattle.naga_ir.specs.declared.module.EntryPoint as entry_point
use Rattle.naga_ir.specs.declared.module.Function as function
use Rattle.naga_ir.specs.declared.module.Module as the_module
use Rattle.naga_flow.specs.Bodies.{functions_of, functions_of_entries}
use Rattle.naga_valid.specs.Valid.{HandlesAreValid}
use Rattle.naga_compact.proofs.KeptElementsLemmas.{value_at-found}
use Rattle.naga_meaning.specs.Functions.{HandlesAreInside}
use Rattle.naga_meaning.proofs.KeepsMeaningsLemmas.{entry-inside, function-inside}
use Rattle.naga_typing.specs.TypedModules.{FunctionIsTyped, ModuleIsTyped}
use Rattle.naga_typing.proofs.CompactedIsTypedLemmas.{All-at}
use Rattle.naga_typing.proofs.ContextLemmas.{result_of, results-related}
use Rattle.naga_typing.proofs.FunctionIsTypedLemmas.{DeclarationsAreTyped-same, FunctionIsTyped-outside, arguments-related, arguments_of}
use Rattle.naga_bounds.specs.Modules.{typed_in}
use Rattle.naga_bounds.specs.Restricted.{Restricts}
use Rattle.naga_bounds.specs.RestrictedModules.{RestrictsElement, RestrictsEntry, RestrictsIn, RestrictsModule, counts_in}
use Rattle.naga_bounds.proofs.ModuleBoundsLemmas.{AllZip-second}
use Rattle.naga_bounds.proofs.RestrictedIsTypedLemmas.{FunctionIsTyped-restricted}

module _ (old new : the_module.Module) (valid : HandlesAreValid old) (restricts : RestrictsModule old new) (typed : ModuleIsTyped old) where
  result-kept : (before after : function.Function) → Restricts (counts_in old) (typed_in old before) before after → after.result ≡ before.result
  result-kept before after (inl fits) = ap (λ (f : function.Function). f.result) fits.1
  result-kept before after (inr clamped) = clamped.changed_to.result

  arguments-kept : (before after : function.Function) → Restricts (counts_in old) (typed_in old before) before after → after.arguments ≡ before.arguments
  arguments-kept before after (inl fits) = ap (λ (f : function.Function). f.arguments) fits.1
  arguments-kept before after (inr clamped) = clamped.changed_to.arguments

  results : (handle : ℕ) → result_of (value_at new.functions handle) ≡ result_of (value_at old.functions handle)
  results = results-related (RestrictsElement old) (λ x y is. result-kept x.0 y.0 is.0.restricts) old.functions new.functions restricts.functions

  parameters : (handle : ℕ) → arguments_of (value_at new.functions handle) ≡ arguments_of (value_at old.functions handle)
  parameters = arguments-related (RestrictsElement old) (λ x y is. arguments-kept x.0 y.0 is.0.restricts) old.functions new.functions restricts.functions

  function-typed : (before after : function.Function) → HandlesAreInside before → FunctionIsTyped old before
      → Restricts (counts_in old) (typed_in old before) before after → FunctionIsTyped new after
  function-typed before after inside was (inl fits) =
      FunctionIsTyped-outside old new restricts.outside results parameters after (subst (FunctionIsTyped old) (sym fits.1) was)
  function-typed before after inside was (inr clamped) =
      FunctionIsTyped-outside old new restricts.outside results parameters after (FunctionIsTyped-restricted old before after inside was clamped)

  functions-typed : All (FunctionIsTyped new) (functions_of new)
  functions-typed =
      All-from_recursion (FunctionIsTyped new) (functions_of new)
      (AllZip-second (RestrictsElement old) (λ (entry : function.Function × Span). entry.0) (FunctionIsTyped new) old.functions new.functions restricts.functions
      (λ k x y before after is.
      function-typed x.0 y.0 (function-inside old valid k x before)
      (All-at (FunctionIsTyped old) (functions_of old) k x.0 typed.functions (value_at-found old.functions k (Some x) before)) is.0.restricts))

  entries-typed : All (FunctionIsTyped new) (functions_of_entries new.entry_points.items)
  entries-typed =
      All-from_recursion (FunctionIsTyped new) (functions_of_entries new.entry_points.items)
      (AllZip-second (RestrictsEntry old) (λ (entry : entry_point.EntryPoint). entry.function) (FunctionIsTyped new) old.entry_points.items new.entry_points.items restricts.entry_points
      (λ k x y before after is.
      function-typed x.function y.function (entry-inside old valid k x before)
      (All-at (FunctionIsTyped old) (functions_of_entries old.entry_points.items) k x.function typed.entry_points
      (slice_get-map (λ (entry : entry_point.EntryPoint). entry.function) old.entry_points.items k ∙ ap (option_map (λ (entry : entry_point.EntryPoint). entry.function)) before)) is.1.restricts))

  pub ModuleIsTyped-restricted : ModuleIsTyped new
  ModuleIsTyped-restricted = record {
    declarations = DeclarationsAreTyped-same old new restricts.outside results parameters typed.declarations;
    functions = functions-typed;
    entry_points = entries-typed;
  }
