-- Clamping the accesses of all functions keeps the outcomes of executions that are in bounds with all their calls.
use Rattle.std.specs.Prelude.{◌≡◌, ◌⊎◌, ⊤, ℕ, zero, suc, Bool, true, ◌&&◌, List, Option, Some, None, map, option_and_then, option_map}
use Rattle.naga_ir.specs.View.{tree_of}
use Rattle.naga_ir.specs.declared.module.Function as function
use Rattle.naga_ir.specs.declared.module.Module as the_module
use Rattle.naga_valid.specs.Functions.{FunctionIsWithin}
use Rattle.naga_valid.specs.Places.{lengths}
use Rattle.naga_valid.specs.declared.reference.Reference.{Reference}
use Rattle.naga_flow.specs.Results.{emitted_by, used_by}
use Rattle.naga_meaning.specs.Calls.{Calls, blank, called, callee_of}
use Rattle.naga_meaning.specs.Forms.{StatementForm}
use Rattle.naga_meaning.specs.Functions.{HandlesAreInside, Meanings, action_of, code_of, initials, meaning}
use Rattle.naga_meaning.specs.Machine.{Machine, does}
use Rattle.naga_meaning.specs.Readings.{Reading, read_by}
use Rattle.naga_meaning.specs.Values.{World, emit, entered, value}
use Rattle.naga_bounds.specs.Laws.{IsSizeIn}
use Rattle.naga_bounds.specs.Modules.{typed_in}
use Rattle.naga_bounds.specs.Reach.{Typed, at_use}
use Rattle.naga_bounds.specs.Respects.{HasElements, HaveShortLengths, RespectsClamps, RespectsIndices}
use Rattle.naga_bounds.specs.Restricted.{IsClamped}
use Rattle.naga_bounds.specs.RestrictedLaws.{AreSameAt, InitialValuesFit}
use Rattle.naga_bounds.specs.RestrictedModules.{IsTyped, counts_in}
use Rattle.naga_bounds.specs.Watched.{watched}

-- a note on each action: by the action, the values that it uses, and the state
abbrev pub Note : (Thing Value State : Type 0) → Type 0
Note Thing Value State = StatementForm × List (Option Thing) → List Value → State → Bool

module _ {Thing Value State : Type 0} (look : Reference → Thing) (by : Meanings Thing Value State) (number : Value → Option ℕ)
    (fine : Note Thing Value State) where
  -- the note on an action, if there is one
  abbrev pub noted_of : Option (StatementForm × List (Option Thing)) → List Value → State → Bool
  noted_of None values state = true
  noted_of (Some action) values state = fine action values state

  -- the machine of a body that notes whether each access so far was in bounds, and whether each action was fine
  abbrev pub watched_with : Typed → Machine (World Value State × Bool)
  watched_with typed =
      let code = code_of look (at_use typed) typed.arena in
      record (watched look by number typed) {
        perform = λ what noted.
            let next = (watched look by number typed).perform what noted in
            let ready = emit by code (emitted_by what) noted.0 in
            (next.0, next.1 && noted_of (action_of look what) (map (value by code ready) (used_by what)) ready.state);
      }

module _ {Thing Value State : Type 0} (whole : the_module.Module) (look : Reference → Thing) (find : Thing → Option function.Function)
    (calls : Calls Thing Value State) (by : Meanings Thing Value State) (number : Value → Option ℕ) (turns : ℕ) where
  -- the functions, as they are read
  abbrev pub read : Thing → Option Reading
  read thing = option_map (λ inside. read_by (at_use (typed_in whole inside)) inside) (find thing)

  -- calls have the meanings of these functions, down to this depth
  abbrev pub called_to : (depth : ℕ) → Meanings Thing Value State
  called_to depth = called look read calls by turns depth

  -- a body that is entered from this world stays in bounds, where each action is fine
  abbrev pub stays_with : Meanings Thing Value State → Note Thing Value State → function.Function → World Value State → Bool
  stays_with inner fine inside start =
      (does (watched_with look inner number fine (typed_in whole inside)) turns (tree_of inside.body)
      (entered inner (code_of look (at_use (typed_in whole inside)) inside.expressions) (initials inside.local_variables) start, true)).state.1

  -- the function that an action calls, if it calls one, stays in bounds, where each action in it is fine
  abbrev pub callee_stays : Meanings Thing Value State → Note Thing Value State → Option function.Function → Option Thing → List Value → State → Bool
  callee_stays inner fine (Some inside) (Some thing) values state =
      stays_with inner fine inside (blank (calls.begin thing values state))
  callee_stays inner fine _ _ values state = true

  -- what an action calls stays in bounds, with all calls in it, down to this depth
  abbrev pub call_stays : (depth : ℕ) → StatementForm × List (Option Thing) → List Value → State → Bool
  call_stays zero action values state = true
  call_stays (suc depth) action values state =
      callee_stays (called_to depth) (call_stays depth) (option_and_then find (callee_of action)) (callee_of action) values state

  -- each access of the execution of this function is in bounds, and of all calls in it, down to this depth
  abbrev pub StaysInBoundsWithCalls : (depth : ℕ) → function.Function → World Value State → Type 0
  StaysInBoundsWithCalls depth inside start = stays_with (called_to depth) (call_stays depth) inside start ≡ true

-- the second function is the first with its accesses clamped, where the premises of `RestrictingKeepsOutcomes` hold
pub record IsClampedIn {Thing Value State : Type 0} (whole : the_module.Module) (look : Reference → Thing) (by : Meanings Thing Value State)
    (number : Value → Option ℕ) (old new : function.Function) : Type 0 where
  pub functions : ℕ
  pub within : FunctionIsWithin (record (lengths whole) { functions = functions }) old
  pub handles : HandlesAreInside old
  pub typed : IsTyped whole old
  pub clamped : IsClamped (counts_in whole) (typed_in whole old) old new
  pub initial_values : InitialValuesFit whole old
  pub elements : HasElements look by number (IsSizeIn (typed_in whole old))
  pub lengths : HaveShortLengths look by number (IsSizeIn (typed_in whole old))

-- both are functions, of which the second is the first, as it is or with its accesses clamped, or neither is a function
abbrev pub AreClampedIn : {Thing Value State : Type 0} → (whole : the_module.Module) → (look : Reference → Thing) →
    Meanings Thing Value State → (number : Value → Option ℕ) → (old new : Option function.Function) → Type 0
AreClampedIn whole look by number None None = ⊤
AreClampedIn whole look by number (Some old) (Some new) = (new ≡ old) ⊎ IsClampedIn whole look by number old new
AreClampedIn whole look by number _ _ = ⊥

-- An execution of a function that stays in bounds with all its calls, down to this depth, has the same outcome after the
-- accesses of all functions were clamped: for each interpretation that respects indices and clamps, in which arrays have
-- elements and are not too long.
abbrev pub RestrictingKeepsOutcomesWithCalls : (Thing Value State : Type 0) → Type 0
RestrictingKeepsOutcomesWithCalls Thing Value State =
    (whole : the_module.Module) (look : Reference → Thing) (by : Meanings Thing Value State)
    (number unsigned_number : Value → Option ℕ) →
    RespectsIndices look by number unsigned_number → RespectsClamps look by number unsigned_number →
    (find find' : Thing → Option function.Function) → ((thing : Thing) → AreClampedIn whole look by number (find thing) (find' thing)) →
    (calls : Calls Thing Value State) (turns depth : ℕ) (old new : function.Function) →
    (pair : IsClampedIn whole look by number old new) (start start' : World Value State) →
    AreSameAt pair.clamped.changes old start start' → StaysInBoundsWithCalls whole look find calls by number turns depth old start →
    meaning look (called_to whole look find' calls by number turns depth) turns (read_by (at_use (typed_in whole new)) new) start'
    ≡ meaning look (called_to whole look find calls by number turns depth) turns (read_by (at_use (typed_in whole old)) old) start

-- The same for a function that stays as it is, since its accesses fit, while functions that it calls are clamped.
abbrev pub RestrictingKeepsCallers : (Thing Value State : Type 0) → Type 0
RestrictingKeepsCallers Thing Value State =
    (whole : the_module.Module) (look : Reference → Thing) (by : Meanings Thing Value State)
    (number unsigned_number : Value → Option ℕ) →
    RespectsIndices look by number unsigned_number → RespectsClamps look by number unsigned_number →
    (find find' : Thing → Option function.Function) → ((thing : Thing) → AreClampedIn whole look by number (find thing) (find' thing)) →
    (calls : Calls Thing Value State) (turns depth : ℕ) (inside : function.Function) (start : World Value State) →
    StaysInBoundsWithCalls whole look find calls by number turns depth inside start →
    meaning look (called_to whole look find' calls by number turns depth) turns (read_by (at_use (typed_in whole inside)) inside) start
    ≡ meaning look (called_to whole look find calls by number turns depth) turns (read_by (at_use (typed_in whole inside)) inside) start
