-- Calls by the meanings of the functions that are called, up to a depth.
--
-- Of the end of a function its caller sees the outcome, where falling off the end is a return without a value. So a
-- function may be closed without a change for its callers. A function that is killed or cut off ends the run of its
-- caller in the same way.
use Rattle.std.specs.Prelude.{◌≡◌, ⊤, ℕ, zero, suc, List, ◌∷◌, Option, Some, None, option_and_then}
use Rattle.naga_runs.specs.declared.run.Ending.{Ending}
use Rattle.naga_runs.specs.declared.run.Ending.TheVariants.{Kill, Cut}
use Rattle.naga_valid.specs.declared.reference.Reference.{Reference}
use Rattle.naga_meaning.specs.Closing.{closed_outcome}
use Rattle.naga_meaning.specs.Forms.{StatementForm, of_call}
use Rattle.naga_meaning.specs.Functions.{Meanings, meaning}
use Rattle.naga_meaning.specs.Machine.{Stop, killed, cut_off}
use Rattle.naga_meaning.specs.Readings.{Reading}
use Rattle.naga_meaning.specs.Values.{Outcome, World}

-- what the handle of the function that an action calls represents
abbrev pub callee_of : {Thing : Type 0} → StatementForm × List (Option Thing) → Option Thing
callee_of (of_call has_result, called ∷ rest) = called
callee_of _ = None

-- the world in which no expression has been evaluated: each has the same value
abbrev pub blank : {Value State : Type 0} → State × Value → World Value State
blank start = record { state = start.0; values = λ handle. start.1 }

-- how a function that ends in this way ends the run of its caller, if it does
abbrev pub stop_of : Ending → Option Stop
stop_of Kill = Some killed
stop_of Cut = Some cut_off
stop_of _ = None

-- how a call begins and ends
pub record Calls (Thing Value State : Type 0) : Type 0 where
  -- the state when the function is entered, and the value of what is not evaluated there, by the function, the values
  -- of the arguments, and the state of the caller
  pub begin : Thing → List Value → State → State × Value
  -- the caller's new state and the result of the call, by what the caller sees of the function's end, and the caller's
  -- state before
  pub finish : Outcome Value State → State → State × Value

module _ {Thing Value State : Type 0} (look : Reference → Thing) (find : Thing → Option Reading)
    (calls : Calls Thing Value State) (by : Meanings Thing Value State) (turns : ℕ) where
  -- what the caller sees of the end of this function, if calls in the function are done by `inner`
  abbrev pub seen : (inner : Meanings Thing Value State) → (function : Reading) → (thing : Thing) → List Value → State →
      Outcome Value State
  seen inner function thing values state =
      closed_outcome (meaning look inner turns function (blank (calls.begin thing values state)))

  -- what a statement does that calls this function; a statement that calls no function does what `by` says
  abbrev pub perform_by : (inner : Meanings Thing Value State) → (function : Option Reading) → (thing : Option Thing) →
      StatementForm × List (Option Thing) → List Value → State → State × Value
  perform_by inner (Some function) (Some thing) action values state =
      calls.finish (seen inner function thing values state) state
  perform_by inner _ _ action values state = by.perform action values state

  -- how such a statement ends the run, if it does
  abbrev pub stop_by : (inner : Meanings Thing Value State) → (function : Option Reading) → (thing : Option Thing) →
      StatementForm × List (Option Thing) → List Value → State → Option Stop
  stop_by inner (Some function) (Some thing) action values state =
      stop_of (seen inner function thing values state).ending
  stop_by inner _ _ action values state = by.stop action values state

  -- the interpretation in which calls have the meanings of the functions, down to this depth; below it, they are what
  -- `by` says
  abbrev pub called : (depth : ℕ) → Meanings Thing Value State
  called zero = by
  called (suc depth) = record {
    compute = by.compute;
    perform = λ action values state.
        perform_by (called depth) (option_and_then find (callee_of action)) (callee_of action) action values state;
    stop = λ action values state.
        stop_by (called depth) (option_and_then find (callee_of action)) (callee_of action) action values state;
    decide = by.decide;
    choose = by.choose;
    enter = by.enter;
  }

module _ {Thing : Type 0} (Value State : Type 0) (look look' : Reference → Thing) where
  -- both are functions with the same meaning, whatever operators and statements do, or neither is a function
  abbrev pub MeanTheSame : Option Reading → Option Reading → Type 0
  MeanTheSame None None = ⊤
  MeanTheSame (Some old) (Some new) =
      (by : Meanings Thing Value State) (turns : ℕ) (start : State × Value) →
      meaning look' by turns new (blank start) ≡ meaning look by turns old (blank start)
  MeanTheSame _ _ = ⊥

  -- both are functions of whose ends a caller sees the same, or neither is a function
  abbrev pub MeanTheSameToCallers : Option Reading → Option Reading → Type 0
  MeanTheSameToCallers None None = ⊤
  MeanTheSameToCallers (Some old) (Some new) =
      (by : Meanings Thing Value State) (turns : ℕ) (start : State × Value) →
      closed_outcome (meaning look' by turns new (blank start))
      ≡ closed_outcome (meaning look by turns old (blank start))
  MeanTheSameToCallers _ _ = ⊥
