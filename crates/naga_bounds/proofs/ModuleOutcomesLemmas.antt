-- What each function of a module computes, with calls, before and after the accesses of the module were clamped.
use Rattle.std.proofs.Common.{◌≡◌, ◌∙◌, ap, subst, sym, refl, inl, inr, ℕ, zero, suc, List, [], ◌∷◌, length, map, Option, Some, None}
use Rattle.std.proofs.lemmas.List.Elements.{All-contains}
use Rattle.std.proofs.lemmas.Option.{get_or_from_slice_get, slice_get-map, slice_get_within}
use Rattle.std.specs.List.{AllZip}
use Rattle.std.specs.Prelude.{◌⊎◌, All, option_and_then, option_map, slice_get}
use Rattle.naga_arena.specs.Arena.{value_at}
use Rattle.naga_arena.specs.declared.span.Span.{Span}
use Rattle.naga_ir.specs.declared.module.EntryPoint as entry_point
use Rattle.naga_ir.specs.declared.module.Function as function
use Rattle.naga_ir.specs.declared.module.Module as the_module
use Rattle.naga_valid.specs.Functions.{FunctionIsWithin}
use Rattle.naga_valid.specs.Places.{lengths}
use Rattle.naga_valid.specs.Valid.{HandlesAreValid}
use Rattle.naga_valid.specs.declared.reference.Reference.{Reference}
use Rattle.naga_valid.proofs.HandlesAreValidLemmas.{HandlesAreValid-entry_point, HandlesAreValid-function}
use Rattle.naga_flow.specs.Bodies.{functions_of, functions_of_entries}
use Rattle.naga_meaning.specs.Calls.{Calls, blank, called}
use Rattle.naga_meaning.specs.Functions.{HandlesAreInside, Meanings, meaning}
use Rattle.naga_meaning.specs.Readings.{read_by}
use Rattle.naga_meaning.specs.Values.{Outcome}
use Rattle.naga_meaning.proofs.KeepsMeaningsLemmas.{entry-inside, function-inside}
use Rattle.naga_typing.specs.TypedCalls.{IsFunctionOf}
use Rattle.naga_bounds.specs.CalledOutcomes.{AreClampedIn, IsClampedIn, StaysInBoundsWithCalls, called_to}
use Rattle.naga_bounds.specs.ModuleOutcomes.{AllInitialValuesFit, ComputesTheSame, IsSizeOf, computes, represented_in}
use Rattle.naga_bounds.specs.Modules.{typed_in}
use Rattle.naga_bounds.specs.Reach.{at_use}
use Rattle.naga_bounds.specs.Respects.{HasElements, HaveShortLengths, RespectsClamps, RespectsIndices}
use Rattle.naga_bounds.specs.RestrictedLaws.{InitialValuesFit, RestrictingKeepsOutcomes}
use Rattle.naga_bounds.specs.RestrictedModules.{RestrictsElement, RestrictsEntry, RestrictsIn, RestrictsModule}
use Rattle.naga_bounds.proofs.CalledOutcomesLemmas.{keeps-at, same-at}
use Rattle.naga_bounds.proofs.RestrictsLemmas.{typed-restricted}

-- ---- lists

element-at : {X : Type 0} (P : X → Type 0) (xs : List X) (k : ℕ) (x : X) → All P xs → slice_get xs k ≡ Some x → P x
element-at P xs k x h found = All-contains P xs x h (k, slice_get_within xs k x found, get_or_from_slice_get xs k x x found)

pub found-map : {X Y : Type 0} (f : X → Y) (xs : List X) (k : ℕ) (x : X) → slice_get xs k ≡ Some x → slice_get (map f xs) k ≡ Some (f x)
found-map f xs k x found = slice_get-map f xs k ∙ ap (option_map f) found

-- what follows for each pair of elements
AllZip-each : {A : Type 0} (R S : A → A → Type 0) (xs ys : List A) → AllZip R xs ys → ((k : ℕ) (x y : A) → slice_get xs k ≡ Some x → R x y → S x y) → AllZip S xs ys
AllZip-each R S [] [] all follows = tt
AllZip-each R S [] (y ∷ ys) all follows = absurd all
AllZip-each R S (x ∷ xs) [] all follows = absurd all
AllZip-each R S (x ∷ xs) (y ∷ ys) all follows = (follows zero x y refl all.0, AllZip-each R S xs ys all.1 (λ k. follows (suc k)))

module _ {Thing Value State : Type 0} (kept : RestrictingKeepsOutcomes Thing Value State) (old new : the_module.Module) (valid : HandlesAreValid old) (restricts : RestrictsModule old new)
    (initial : AllInitialValuesFit old) (look : Reference → Thing) (by : Meanings Thing Value State) (number unsigned_number : Value → Option ℕ)
    (respects : RespectsIndices look by number unsigned_number) (clamps : RespectsClamps look by number unsigned_number)
    (has : HasElements look by number (IsSizeOf old)) (short : HaveShortLengths look by number (IsSizeOf old))
    (place : Thing → Option ℕ) (calls : Calls Thing Value State) (turns depth : ℕ) where
  -- ---- functions

  -- the function stays as it is, or its accesses are clamped
  abbrev Becomes : (before after : function.Function) → Type 0
  Becomes before after = (after ≡ before) ⊎ IsClampedIn old look by number before after

  becomes : (functions : ℕ) (before after : function.Function) → IsFunctionOf old before → FunctionIsWithin (record (lengths old) { functions = functions }) before → HandlesAreInside before →
      InitialValuesFit old before → RestrictsIn old before after → Becomes before after
  becomes functions before after of within inside fit is = elim is.restricts [
    | inl same ↦ inl same.1
    | inr clamped ↦ inr (record {
      functions = functions;
      within = within;
      handles = inside;
      typed = is.typed;
      clamped = clamped;
      initial_values = fit;
      elements = record { counted = has.counted; overridden = λ handle state size. has.overridden handle state (before, of, size) };
      lengths = record { counted = short.counted; overridden = λ handle n state size. short.overridden handle n state (before, of, size) };
    })
  ]

  functions-become : AllZip (λ before after. Becomes before.0 after.0) old.functions new.functions
  functions-become =
      AllZip-each (RestrictsElement old) (λ before after. Becomes before.0 after.0) old.functions new.functions restricts.functions
      (λ handle before after found is.
      let at : value_at old.functions handle ≡ Some before.0 = found-map (λ (entry : function.Function × Span). entry.0) old.functions handle before found in
      becomes handle before.0 after.0 (inl (handle, at)) (HandlesAreValid-function old valid handle before.0 at) (function-inside old valid handle before found)
      (element-at (InitialValuesFit old) (functions_of old) handle before.0 initial.0 at) is.0)

  entries-become : AllZip (λ before after. Becomes before.function after.function) old.entry_points.items new.entry_points.items
  entries-become =
      AllZip-each (RestrictsEntry old) (λ before after. Becomes before.function after.function) old.entry_points.items new.entry_points.items restricts.entry_points
      (λ position before after found is.
      let at : slice_get (functions_of_entries old.entry_points.items) position ≡ Some before.function =
      found-map (λ (entry : entry_point.EntryPoint). entry.function) old.entry_points.items position before found
      in
      becomes (length old.functions) before.function after.function (inr (position, at)) (HandlesAreValid-entry_point old valid position before found) (entry-inside old valid position before found)
      (element-at (InitialValuesFit old) (functions_of_entries old.entry_points.items) position before.function initial.1 at) is.1)

  -- ---- calls

  pairs-at : (xs ys : List (function.Function × Span)) → AllZip (λ before after. Becomes before.0 after.0) xs ys → (handle : ℕ) → AreClampedIn old look by number (value_at xs handle) (value_at ys handle)
  pairs-at [] [] all zero = tt
  pairs-at [] [] all (suc handle) = tt
  pairs-at [] (y ∷ ys) all handle = absurd all
  pairs-at (x ∷ xs) [] all handle = absurd all
  pairs-at (x ∷ xs) (y ∷ ys) all zero = all.0
  pairs-at (x ∷ xs) (y ∷ ys) all (suc handle) = pairs-at xs ys all.1 handle

  pairs : (thing : Thing) → AreClampedIn old look by number (represented_in old place thing) (represented_in new place thing)
  pairs thing = go (place thing)
    where
      go : (handle : Option ℕ) → AreClampedIn old look by number (option_and_then (λ handle. value_at old.functions handle) handle) (option_and_then (λ handle. value_at new.functions handle) handle)
      go None = tt
      go (Some handle) = pairs-at old.functions new.functions functions-become handle

  -- ---- what functions compute

  -- the same, where the types of the new functions are looked up in the old module
  abbrev computed : function.Function → State × Value → Outcome Value State
  computed after start =
      meaning look (called_to old look (represented_in new place) calls by number turns depth) turns (read_by (at_use (typed_in old after)) after) (blank start)

  abbrev Same : (before after : function.Function) → Type 0
  Same before after =
      (start : State × Value) → StaysInBoundsWithCalls old look (represented_in old place) calls by number turns depth before (blank start) →
      computed after start ≡ computes look by number place calls turns depth old before start

  computed-same : (before after : function.Function) → Becomes before after → Same before after
  computed-same before after (inl same) =
      subst (Same before) (sym same)
      (λ start stays. same-at kept old look number unsigned_number calls turns by respects clamps (represented_in old place) (represented_in new place) pairs depth before (blank start) stays)
  computed-same before after (inr pair) =
      λ start stays. keeps-at kept old look number unsigned_number calls turns by respects clamps (represented_in old place) (represented_in new place) pairs depth before after pair
      (blank start) (blank start) (record { state = refl; values = λ x inside. refl }) stays

  -- both modules give the expressions of the new functions the same types
  computes-computed : (after : function.Function) (start : State × Value) → computes look by number place calls turns depth new after start ≡ computed after start
  computes-computed after start =
      let same = typed-restricted old new restricts in
      λ i. meaning look (called look (λ thing. option_map (λ inside. read_by (at_use (same inside i)) inside) (represented_in new place thing)) calls by turns depth) turns
      (read_by (at_use (same after i)) after) (blank start)

  computes-same : (before after : function.Function) → Becomes before after → ComputesTheSame look by number place calls turns depth old new before after
  computes-same before after is start stays = computes-computed after start ∙ computed-same before after is start stays

  pub functions-compute : AllZip (λ before after. ComputesTheSame look by number place calls turns depth old new before.0 after.0) old.functions new.functions
  functions-compute =
      AllZip-each (λ before after. Becomes before.0 after.0) (λ before after. ComputesTheSame look by number place calls turns depth old new before.0 after.0)
      old.functions new.functions functions-become (λ handle before after found is. computes-same before.0 after.0 is)

  pub entries-compute : AllZip (λ before after. ComputesTheSame look by number place calls turns depth old new before.function after.function) old.entry_points.items new.entry_points.items
  entries-compute =
      AllZip-each (λ before after. Becomes before.function after.function) (λ before after. ComputesTheSame look by number place calls turns depth old new before.function after.function)
      old.entry_points.items new.entry_points.items entries-become (λ position before after found is. computes-same before.function after.function is)
