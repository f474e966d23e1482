-- What each function of a module computes, with calls, before and after the accesses of the module were clamped, and
-- that it is in bounds then.
use Rattle.std.specs.Prelude.{◌≡◌, ℕ, All, Option, option_and_then}
use Rattle.std.specs.List.{AllZip}
use Rattle.naga_arena.specs.Arena.{value_at}
use Rattle.naga_ir.specs.View.{tree_of}
use Rattle.naga_ir.specs.declared.module.Function as function
use Rattle.naga_ir.specs.declared.module.Module as the_module
use Rattle.naga_valid.specs.Valid.{HandlesAreValid}
use Rattle.naga_valid.specs.declared.reference.Reference.{Reference}
use Rattle.naga_flow.specs.Bodies.{functions_of, functions_of_entries}
use Rattle.naga_meaning.specs.Calls.{Calls, blank}
use Rattle.naga_meaning.specs.Functions.{Meanings, code_of, initials, meaning}
use Rattle.naga_meaning.specs.Readings.{read_by}
use Rattle.naga_meaning.specs.Values.{Outcome, World, entered}
use Rattle.naga_typing.specs.TypedCalls.{IsFunctionOf}
use Rattle.naga_bounds.specs.CalledOutcomes.{StaysInBoundsWithCalls, called_to}
use Rattle.naga_bounds.specs.Calls.{CallsKeepLengths}
use Rattle.naga_bounds.specs.Laws.{IsSizeIn}
use Rattle.naga_bounds.specs.Modules.{typed_in}
use Rattle.naga_bounds.specs.Reach.{at_use}
use Rattle.naga_bounds.specs.Respects.{HasElements, HaveShortLengths, LengthsStay, RespectsClamps, RespectsIndices}
use Rattle.naga_bounds.specs.RestrictedLaws.{InitialValuesFit}
use Rattle.naga_bounds.specs.RestrictedModules.{RestrictsModule}
use Rattle.naga_bounds.specs.Watched.{StaysInBounds}

-- the override is the size of an array that a function of the module accesses
abbrev pub IsSizeOf : the_module.Module → ℕ → Type 0
IsSizeOf whole handle =
    (inside : function.Function) × IsFunctionOf whole inside × IsSizeIn (typed_in whole inside) handle

-- the accesses that the initial values of local variables need fit, in each function and in each entry point
abbrev pub AllInitialValuesFit : the_module.Module → Type 0
AllInitialValuesFit whole =
    All (InitialValuesFit whole) (functions_of whole)
    × All (InitialValuesFit whole) (functions_of_entries whole.entry_points.items)

-- the function of the module that a thing represents, where `place` is the handle of the function that it represents
abbrev pub represented_in : {Thing : Type 0} → the_module.Module → (place : Thing → Option ℕ) → Thing →
    Option function.Function
represented_in whole place thing = option_and_then (λ handle. value_at whole.functions handle) (place thing)

module _ {Thing Value State : Type 0} (look : Reference → Thing) (by : Meanings Thing Value State)
    (number : Value → Option ℕ) (place : Thing → Option ℕ) (calls : Calls Thing Value State) (turns depth : ℕ) where
  -- what a function of the module computes, where calls have the meanings of the functions of the module
  abbrev pub computes : the_module.Module → function.Function → (start : State × Value) → Outcome Value State
  computes whole inside start =
      meaning look (called_to whole look (represented_in whole place) calls by number turns depth) turns
      (read_by (at_use (typed_in whole inside)) inside) (blank start)

  -- From each start from which the function stays in bounds, with all its calls, in the old module, the function after
  -- it computes the same in the new one.
  abbrev pub ComputesTheSame : (old new : the_module.Module) → (before after : function.Function) → Type 0
  ComputesTheSame old new before after =
      (start : State × Value) →
      StaysInBoundsWithCalls old look (represented_in old place) calls by number turns depth before (blank start) →
      computes new after start ≡ computes old before start

  -- from each start, each access of the function is in bounds in this module
  abbrev pub EachAccessIsInBounds : the_module.Module → function.Function → Type 0
  EachAccessIsInBounds whole inside =
      let inner = called_to whole look (represented_in whole place) calls by number turns depth in
      (start : World Value State) →
      StaysInBounds look inner number (typed_in whole inside) turns (tree_of inside.body)
      (entered inner (code_of look (at_use (typed_in whole inside)) inside.expressions) (initials inside.local_variables) start)

-- In a module that was restricted, each function, and that of each entry point, computes what it computed, where calls
-- have the meanings of the functions of the module, down to any depth: from each start from which it stayed in bounds
-- with all its calls, for each interpretation that respects indices and clamps, in which arrays have elements and are
-- not too long.
abbrev pub RestrictedModulesComputeTheSame : (Thing Value State : Type 0) → Type 0
RestrictedModulesComputeTheSame Thing Value State =
    (old new : the_module.Module) → HandlesAreValid old → RestrictsModule old new → AllInitialValuesFit old →
    (look : Reference → Thing) (by : Meanings Thing Value State) (number unsigned_number : Value → Option ℕ) →
    RespectsIndices look by number unsigned_number → RespectsClamps look by number unsigned_number →
    HasElements look by number (IsSizeOf old) → HaveShortLengths look by number (IsSizeOf old) →
    (place : Thing → Option ℕ) (calls : Calls Thing Value State) (turns depth : ℕ) →
    AllZip (λ before after. ComputesTheSame look by number place calls turns depth old new before.0 after.0)
    old.functions new.functions
    × AllZip (λ before after. ComputesTheSame look by number place calls turns depth old new before.function after.function)
    old.entry_points.items new.entry_points.items

-- In a module that was restricted, each access of each function, and of that of each entry point, is in bounds, where
-- calls have the meanings of the functions of the module, down to any depth: for each interpretation that respects
-- indices, in which arrays have elements and keep their lengths, also in calls, from each start, for each bound of
-- turns.
abbrev pub RestrictedModulesStayInBounds : (Thing Value State : Type 0) → Type 0
RestrictedModulesStayInBounds Thing Value State =
    (old new : the_module.Module) → HandlesAreValid old → RestrictsModule old new →
    (look : Reference → Thing) (by : Meanings Thing Value State) (number unsigned_number : Value → Option ℕ) →
    RespectsIndices look by number unsigned_number → HasElements look by number (IsSizeOf new) → LengthsStay look by number →
    (place : Thing → Option ℕ) (calls : Calls Thing Value State) → CallsKeepLengths look by number calls →
    (turns depth : ℕ) →
    All (EachAccessIsInBounds look by number place calls turns depth new) (functions_of new)
    × All (EachAccessIsInBounds look by number place calls turns depth new) (functions_of_entries new.entry_points.items)
