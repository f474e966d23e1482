-- What a run does, in order.
use Rattle.std.specs.Prelude.{◌≡◌, ℕ, List, [], ◌∷◌, ◌++◌, Option, Some}
use Rattle.naga_kinds.specs.declared.switch.SwitchValue.{SwitchValue}
use Rattle.naga_ir.specs.Tree.{Tree, Node, Jump, return, Cases}
use Rattle.naga_ir.specs.declared.statement.Statement.{Statement}
use Rattle.naga_runs.specs.Runs.{Run, Asks, not_asked, unanswered, says_no, says_yes, values, BlockRuns, nothing, goes_on, stops, StatementRuns, meets, jumps, enters, undecided, rejects, accepts, unselected, selects, loops, CasesRun, past, falls, broken, ends, passed_on, LoopRuns, no_turn, again, left, over, TurnRuns, in_body, in_continuing, whole}
use Rattle.naga_flow.specs.Results.{evaluated_by}
use Rattle.naga_flow.specs.Uses.{Expressions, MayUse, PlainUsesKnown}

pub data Event : Type 0 where
  -- the run met a plain statement
  met : (what : Statement) → Event
  -- the run came to a condition or a break condition, whether or not there was an answer for it
  branched : (handle : ℕ) → Event
  -- the run came to a switch on this selector whose cases have these values, whether or not there was an answer for it
  selected : (handle : ℕ) → (values : List SwitchValue) → Event
  -- the run returned this value
  returned : (handle : ℕ) → Event

abbrev pub events_of_jump : Jump → List Event
events_of_jump (return (Some handle)) = returned handle ∷ []
events_of_jump to = []

abbrev pub events_of_asking : {break_if : Option ℕ} {answers : List ℕ} {run : Run} → Asks break_if answers run → List Event
events_of_asking not_asked = []
events_of_asking (unanswered {condition = condition}) = branched condition ∷ []
events_of_asking (says_no {condition = condition}) = branched condition ∷ []
events_of_asking (says_yes {condition = condition}) = branched condition ∷ []

abbrev mutual
  -- the events of a run, in order
  pub events : {turns : ℕ} {block : Tree} {answers : List ℕ} {run : Run} → BlockRuns turns block answers run → List Event
  events nothing = []
  events (goes_on d e k) = events d ++ events_of_statement k
  events (stops d e) = events d

  -- the same for a run of a statement
  pub events_of_statement : {turns : ℕ} {node : Node} {answers : List ℕ} {run : Run} → StatementRuns turns node answers run → List Event
  events_of_statement (meets {what = what}) = met what ∷ []
  events_of_statement (jumps {to = to}) = events_of_jump to
  events_of_statement (enters d) = events d
  events_of_statement (undecided {condition = condition}) = branched condition ∷ []
  events_of_statement (rejects {condition = condition} d) = branched condition ∷ events d
  events_of_statement (accepts {condition = condition} d) = branched condition ∷ events d
  events_of_statement (unselected {selector = selector} {cases = cases}) = selected selector (values cases) ∷ []
  events_of_statement (selects {selector = selector} {cases = cases} d) = selected selector (values cases) ∷ events_of_cases d
  events_of_statement (loops d) = events_of_loop d

  -- the same for a run of the cases of a switch
  pub events_of_cases : {turns : ℕ} {cases : Cases} {answers : List ℕ} {run : Run} → CasesRun turns cases answers run → List Event
  events_of_cases past = []
  events_of_cases (falls d e k) = events d ++ events_of_cases k
  events_of_cases (broken d e) = events d
  events_of_cases (ends d e) = events d
  events_of_cases (passed_on d e k) = events d

  -- the same for a run of a loop
  pub events_of_loop : {turns others : ℕ} {body continuing : Tree} {break_if : Option ℕ} {answers : List ℕ} {run : Run} →
      LoopRuns turns others body continuing break_if answers run → List Event
  events_of_loop no_turn = []
  events_of_loop (again d e k) = events_of_turn d ++ events_of_loop k
  events_of_loop (left d e) = events_of_turn d
  events_of_loop (over d e k) = events_of_turn d

  -- the same for a run of a turn of a loop
  pub events_of_turn : {turns : ℕ} {body continuing : Tree} {break_if : Option ℕ} {answers : List ℕ} {run : Run} →
      TurnRuns turns body continuing break_if answers run → List Event
  events_of_turn (in_body d e) = events d
  events_of_turn (in_continuing d e k h) = events d ++ events k
  events_of_turn (whole d e k h t) = events d ++ (events k ++ events_of_asking t)

-- the plain statements that were met, in order
abbrev pub met_in : List Event → List Statement
met_in [] = []
met_in (met what ∷ rest) = what ∷ met_in rest
met_in (_ ∷ rest) = met_in rest

-- ---- evaluation

-- the expressions that the event evaluates
abbrev pub evaluated_at : Event → List ℕ
evaluated_at (met what) = evaluated_by what
evaluated_at _ = []

-- the expressions that these events evaluate
abbrev pub evaluated_in : List Event → List ℕ
evaluated_in [] = []
evaluated_in (event ∷ rest) = evaluated_at event ++ evaluated_in rest

-- what the event uses has a value, if these expressions have been evaluated before
abbrev pub EventUsesKnown : Expressions → (known : List ℕ) → Event → Type 0
EventUsesKnown expressions known (met what) = PlainUsesKnown expressions known what
EventUsesKnown expressions known (branched handle) = MayUse expressions known handle
EventUsesKnown expressions known (selected handle values) = MayUse expressions known handle
EventUsesKnown expressions known (returned handle) = MayUse expressions known handle

-- each event uses only expressions that are ready when the function is entered, or that an earlier event has evaluated
abbrev pub UsesOnlyEvaluated : Expressions → List Event → Type 0
UsesOnlyEvaluated expressions events =
    (before after : List Event) (event : Event) → events ≡ before ++ event ∷ after →
    EventUsesKnown expressions (evaluated_in before) event
