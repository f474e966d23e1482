-- Calls that keep the lengths of arrays.
use Rattle.std.specs.Prelude.{◌≡◌, ℕ, Bool, [], List, Option}
use Rattle.naga_ir.specs.View.{tree_of}
use Rattle.naga_ir.specs.declared.expression.Expression.{Expression}
use Rattle.naga_ir.specs.declared.module.Function as function
use Rattle.naga_ir.specs.declared.module.Module as the_module
use Rattle.naga_valid.specs.declared.reference.Reference.{Reference}
use Rattle.naga_flow.specs.Readings.{emitted_in}
use Rattle.naga_flow.specs.Uses.{UsesKnown}
use Rattle.naga_compact.specs.Operands.{OperandsPrecede}
use Rattle.naga_meaning.specs.Calls.{Calls, called}
use Rattle.naga_meaning.specs.Functions.{Meanings, code_of, initials}
use Rattle.naga_meaning.specs.Readings.{Reading}
use Rattle.naga_meaning.specs.Values.{Outcome, World, entered}
use Rattle.naga_bounds.specs.Laws.{IsSizeIn}
use Rattle.naga_bounds.specs.Modules.{AccessesFitIn, typed_in}
use Rattle.naga_bounds.specs.Reach.{at_use, is_fixed_access}
use Rattle.naga_bounds.specs.Respects.{HasElements, IsSteady, LengthsStay, RespectsIndices, applied, array_length}
use Rattle.naga_bounds.specs.Watched.{StaysInBounds}

module _ {Thing Value State : Type 0} (look : Reference → Thing) (by : Meanings Thing Value State) (number : Value → Option ℕ) where
  -- arrays are as long in the second state as in the first
  abbrev pub HasLengthsOf : (before after : State) → Type 0
  HasLengthsOf before after =
      (array : Value) → number (array_length look by array after) ≡ number (array_length look by array before)

  -- what is ready when a function is entered, and what an access by a constant index gives, is the same in both states
  abbrev pub HasReadyOf : (before after : State) → Type 0
  HasReadyOf before after =
      (operator : Expression) (operands : List Value) → IsSteady operator →
      applied look by operator operands after ≡ applied look by operator operands before

  -- What calls must respect, so that no function changes how long arrays are for its callers. In what a call leaves, what is
  -- ready is that of the caller.
  pub record CallsKeepLengths (calls : Calls Thing Value State) : Type 0 where
    -- the initial values of local variables change no length
    pub enters : (initial_values : List (Option Value)) (state : State) → HasLengthsOf state (by.enter initial_values state)
    -- if the function that is called leaves the lengths with which it began, its caller has its own after the call
    pub lengths : (thing : Thing) (values : List Value) (state : State) (left : Outcome Value State) →
        HasLengthsOf (calls.begin thing values state).0 left.state → HasLengthsOf state (calls.finish left state).0
    -- what is ready for the caller stays so, if the function leaves the lengths with which it began
    pub ready : (thing : Thing) (values : List Value) (state : State) (left : Outcome Value State) →
        HasLengthsOf (calls.begin thing values state).0 left.state → HasReadyOf state (calls.finish left state).0

-- Where no statement but a call changes the length of an array, and calls keep lengths, a call changes none either, whatever
-- functions are called, down to any depth.
abbrev pub CalledLengthsStay : (Thing Value State : Type 0) → Type 0
CalledLengthsStay Thing Value State =
    (look : Reference → Thing) (by : Meanings Thing Value State) (number : Value → Option ℕ) → LengthsStay look by number →
    (calls : Calls Thing Value State) → CallsKeepLengths look by number calls →
    (find : Thing → Option Reading) (turns depth : ℕ) → LengthsStay look (called look find calls by turns depth) number

-- A function whose accesses fit stays in bounds, where calls have the meanings of the functions that are called, down to any
-- depth. If the accesses of each function of a module fit, none is out of bounds in any call.
abbrev pub FittingStaysInBoundsWithCalls : (Thing Value State : Type 0) → Type 0
FittingStaysInBoundsWithCalls Thing Value State =
    (whole : the_module.Module) (inside : function.Function) → AccessesFitIn whole inside →
    OperandsPrecede inside.expressions →
    (fixed : ℕ → Bool) → ((handle : ℕ) → fixed handle ≡ is_fixed_access (typed_in whole inside) handle) →
    UsesKnown (emitted_in fixed inside.expressions) [] (tree_of inside.body) →
    (look : Reference → Thing) (by : Meanings Thing Value State) (number unsigned_number : Value → Option ℕ) →
    RespectsIndices look by number unsigned_number → HasElements look by number (IsSizeIn (typed_in whole inside)) →
    LengthsStay look by number →
    (calls : Calls Thing Value State) → CallsKeepLengths look by number calls →
    (find : Thing → Option Reading) (called_turns depth turns : ℕ) (start : World Value State) →
    StaysInBounds look (called look find calls by called_turns depth) number (typed_in whole inside) turns (tree_of inside.body)
    (entered (called look find calls by called_turns depth)
    (code_of look (at_use (typed_in whole inside)) inside.expressions) (initials inside.local_variables) start)
