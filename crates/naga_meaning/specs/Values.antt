-- What bodies compute, by an interpretation of operators and statements. An interpretation is any functions of the
-- right types: what is proved holds for all of them, so also for what a driver does, if this is one of them.
--
-- The state is all that a value or a statement may depend on besides operands: memory, and also an oracle. An oracle
-- is what the other invocations do, and what textures and counters yield, as one value that is read step by step. So
-- derivatives, subgroup operations and atomics that other invocations take part in are covered.
use Rattle.std.specs.Prelude.{ℕ, zero, suc, Bool, List, [], ◌∷◌, map, Option, Some, None, option_map, if◌then◌else◌, nat_eq}
use Rattle.naga_kinds.specs.declared.switch.SwitchValue.{SwitchValue}
use Rattle.naga_ir.specs.Tree.{Tree}
use Rattle.naga_ir.specs.declared.statement.Statement.{Statement}
use Rattle.naga_runs.specs.declared.run.Ending.{Ending}
use Rattle.naga_runs.specs.declared.run.Ending.TheVariants.{Return}
use Rattle.naga_compact.specs.Mapping.Runs.{map_ending}
use Rattle.naga_meaning.specs.Machine.{Machine, Done, Stop, does}

-- What operators and statements do. A shape is an expression without the handles of its operands, and an action is a
-- statement without its handles.
pub record Interpretation (Shape Action Value State : Type 0) : Type 0 where
  -- the value of an expression, by its shape, the values of its operands in order, and the state
  pub compute : Shape → List Value → State → Value
  -- the new state and the result of a statement, by its action, the values that it uses in order, and the state
  pub perform : Action → List Value → State → State × Value
  -- how the statement ends the run, if it does, by the same
  pub stop : Action → List Value → State → Option Stop
  -- the answer of a value, as a condition: 0 means no and any other number yes
  pub decide : Value → ℕ
  -- The position of the case that a switch enters, by the value of its selector and the values of its cases. A number
  -- that is no position enters the first default, or no case if there is none.
  pub choose : Value → List SwitchValue → ℕ
  -- the state in which a body begins, by the initial values of the local variables, and the state before
  pub enter : List (Option Value) → State → State

-- the expressions of a function
pub record Code (Shape : Type 0) : Type 0 where
  pub shape : ℕ → Shape
  pub operands : ℕ → List ℕ
  -- The expression is evaluated where it is used. All others have the value of the `Emit` or of the statement that
  -- evaluated them last.
  pub at_use : ℕ → Bool

-- the parts of a statement: the expressions that it evaluates one after another, those that it uses then, the
-- expression whose value is its result, and its action, unless it only evaluates
pub record Parts (Action : Type 0) : Type 0 where
  pub emits : Statement → List ℕ
  pub uses : Statement → List ℕ
  pub result : Statement → Option ℕ
  pub action : Statement → Option Action

-- the state, and the value of each expression that has been evaluated; the other values are arbitrary
pub record World (Value State : Type 0) : Type 0 where
  pub state : State
  pub values : ℕ → Value

-- the same world, except that the expression has this value
abbrev pub put : {Value State : Type 0} → (handle : ℕ) → Value → World Value State → World Value State
put handle value world = record world { values = λ other. if nat_eq other handle then value else world.values other }

-- the same world, except that the expression, if there is one, has this value
abbrev pub put_result : {Value State : Type 0} → Option ℕ → Value → World Value State → World Value State
put_result None value world = world
put_result (Some handle) value world = put handle value world

-- what is left in the end: the state, how the body ended, whether a normal ending came out of a last switch, and the
-- value that was returned
pub record Outcome (Value State : Type 0) : Type 0 where
  pub state : State
  pub ending : Ending
  pub slipped : Bool
  pub returned : Option Value

-- the handle of the value that is returned
abbrev pub result_of_ending : Ending → Option ℕ
result_of_ending (Return value) = value
result_of_ending _ = None

module _ {Shape Action Value State : Type 0} (by : Interpretation Shape Action Value State) (code : Code Shape) where
  -- the value of an expression where it is used, if at most this many expressions are evaluated there one inside
  -- another
  abbrev pub value_within : (steps : ℕ) → World Value State → ℕ → Value
  value_within zero world handle = world.values handle
  value_within (suc steps) world handle =
      if code.at_use handle
      then by.compute (code.shape handle) (map (value_within steps world) (code.operands handle)) world.state
      else world.values handle

  -- The value of an expression where it is used. Operands come before the expression, so its handle bounds the steps.
  abbrev pub value : World Value State → ℕ → Value
  value world handle = value_within (suc handle) world handle

  -- the value of a constant expression, of which nothing need be evaluated before, in this many steps
  abbrev pub constant_within : (steps : ℕ) → World Value State → ℕ → Value
  constant_within zero world handle = world.values handle
  constant_within (suc steps) world handle =
      by.compute (code.shape handle) (map (constant_within steps world) (code.operands handle)) world.state

  -- the value of a constant expression
  abbrev pub constant : World Value State → ℕ → Value
  constant world handle = constant_within (suc handle) world handle

  -- the world in which a body begins whose local variables have these initial values
  abbrev pub entered : List (Option ℕ) → World Value State → World Value State
  entered inits world = record world { state = by.enter (map (option_map (constant world)) inits) world.state }

  -- the value of an expression where an `Emit` evaluates it
  abbrev pub emitted_value : World Value State → ℕ → Value
  emitted_value world handle = by.compute (code.shape handle) (map (value world) (code.operands handle)) world.state

  -- the world after these expressions are evaluated in this order
  abbrev pub emit : List ℕ → World Value State → World Value State
  emit [] world = world
  emit (handle ∷ rest) world = emit rest (put handle (emitted_value world handle) world)

  -- the world after this action, which uses these values, with its result; the same world if there is no action
  abbrev pub acted : Option Action → (uses : List ℕ) → (result : Option ℕ) → World Value State → World Value State
  acted None uses result world = world
  acted (Some action) uses result world =
      let after = by.perform action (map (value world) uses) world.state in
      put_result result after.1 (record world { state = after.0 })

  -- how this action, which uses these values, ends the run, if it does; none is ended if there is no action
  abbrev pub stopped : Option Action → (uses : List ℕ) → World Value State → Option Stop
  stopped None uses world = None
  stopped (Some action) uses world = by.stop action (map (value world) uses) world.state

  -- the outcome of a body that has left this
  abbrev pub outcome_of : Done (World Value State) → Outcome Value State
  outcome_of left = record {
    state = left.state.state;
    ending = map_ending (λ handle. 0) left.ending;
    slipped = left.slipped;
    returned = option_map (value left.state) (result_of_ending left.ending);
  }

module _ {Shape Action Value State : Type 0} (parts : Parts Action) (by : Interpretation Shape Action Value State) (code : Code Shape) where
  -- the world after the action of a statement
  abbrev pub act : Statement → World Value State → World Value State
  act what world = acted by code (parts.action what) (parts.uses what) (parts.result what) world

  -- how a statement ends the run, if it does, in the world after what it emits
  abbrev pub ends : Statement → World Value State → Option Stop
  ends what world = stopped by code (parts.action what) (parts.uses what) world

  -- the machine whose states are worlds: a statement first evaluates what it emits, and then acts
  abbrev pub machine : Machine (World Value State)
  machine = record {
    perform = λ what world. act what (emit by code (parts.emits what) world);
    stop = λ what world. ends what (emit by code (parts.emits what) world);
    answer = λ handle world. by.decide (value by code world handle);
    choice = λ handle values world. by.choose (value by code world handle) values;
  }

  -- the outcome of a body, where each loop makes at most `turns` turns each time it is entered
  abbrev pub outcome : (turns : ℕ) → Tree → World Value State → Outcome Value State
  outcome turns body world = outcome_of by code (does machine turns body world)
