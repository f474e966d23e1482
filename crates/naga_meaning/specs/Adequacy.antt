-- What a block does on a machine is one of its runs, or the beginning of one: the run for the answers that the machine
-- gives. So what is proved of runs holds of meanings.
use Rattle.std.specs.Prelude.{◌≡◌, ◌⊎◌, ⊤, ℕ, false, List, [], ◌∷◌, ◌++◌, length, Option, Some, None}
use Rattle.naga_ir.specs.Tree.{Tree}
use Rattle.naga_ir.specs.declared.statement.Statement.{Statement}
use Rattle.naga_runs.specs.Runs.{BlockRuns, Run}
use Rattle.naga_flow.specs.Events.{Event, met, branched, selected, returned, events}
use Rattle.naga_meaning.specs.Machine.{Machine, Done, Stop, done, ending_after}

module _ {State : Type 0} (machine : Machine State) where
  -- the state after these events
  abbrev pub after : List Event → State → State
  after [] state = state
  after (met what ∷ rest) state = after rest (machine.perform what state)
  after (branched handle ∷ rest) state = after rest state
  after (selected handle values ∷ rest) state = after rest state
  after (returned handle ∷ rest) state = after rest state

  -- the answers that the machine gives at these events: at a switch, the position that it chooses
  abbrev pub answers_at : List Event → State → List ℕ
  answers_at [] state = []
  answers_at (met what ∷ rest) state = answers_at rest (machine.perform what state)
  answers_at (branched handle ∷ rest) state = machine.answer handle state ∷ answers_at rest state
  answers_at (selected handle values ∷ rest) state = machine.choice handle values state ∷ answers_at rest state
  answers_at (returned handle ∷ rest) state = answers_at rest state

  -- no statement ends a run
  abbrev pub NeverStops : Type 0
  NeverStops = (what : Statement) (state : State) → machine.stop what state ≡ None

  -- There is a run that reads exactly the answers that the machine gives at the run's events, after which the machine
  -- is in this state, and that ends like this, whatever answers follow. `Fits` are the runs of a part of a body, and
  -- `events_in` their events.
  pub record Follows (Fits : List ℕ → Run → Type 0) (events_in : (answers : List ℕ) (run : Run) → Fits answers run → List Event) (start : State) (left : Done State) : Type 0 where
    pub happened : List Event
    pub run : Run
    pub fits : (rest : List ℕ) → (d : Fits (answers_at happened start ++ rest) run) × (events_in (answers_at happened start ++ rest) run d ≡ happened)
    pub used : run.used ≡ length (answers_at happened start)
    pub ending : run.ending ≡ left.ending
    pub slipped : run.slipped ≡ left.slipped
    pub state : left.state ≡ after happened start

  -- the events of a run of a block
  abbrev pub events_of_run : (turns : ℕ) (block : Tree) (answers : List ℕ) (run : Run) → BlockRuns turns block answers run → List Event
  events_of_run turns block answers run d = events d

  -- there is a run of the block that reads the machine's answers and leaves this
  abbrev pub IsARun : (turns : ℕ) → Tree → (start : State) → (left : Done State) → Type 0
  IsARun turns block = Follows (BlockRuns turns block) (events_of_run turns block)

  -- what is left by a statement that leaves this state: it ends the run, or this is left by what follows
  abbrev pub ended_by : Option Stop → State → Done State → Done State
  ended_by None state later = later
  ended_by (Some how) state later = done (ending_after (Some how)) state

  -- what is left by these events of a run that ends like this, up to the first statement that ends it
  abbrev pub left_after : List Event → Run → State → Done State
  left_after [] run state = record { state = state; ending = run.ending; slipped = run.slipped }
  left_after (met what ∷ rest) run state =
      let next = machine.perform what state in ended_by (machine.stop what state) next (left_after rest run next)
  left_after (branched handle ∷ rest) run state = left_after rest run state
  left_after (selected handle values ∷ rest) run state = left_after rest run state
  left_after (returned handle ∷ rest) run state = left_after rest run state

  -- no statement among these events ends the run
  abbrev pub NoneStops : List Event → State → Type 0
  NoneStops [] state = ⊤
  NoneStops (met what ∷ rest) state = (machine.stop what state ≡ None) × NoneStops rest (machine.perform what state)
  NoneStops (branched handle ∷ rest) state = NoneStops rest state
  NoneStops (selected handle values ∷ rest) state = NoneStops rest state
  NoneStops (returned handle ∷ rest) state = NoneStops rest state

  -- the last of these events is the only statement that ends the run, and this is how
  pub record StopsLast (happened : List Event) (start : State) (left : Done State) : Type 0 where
    pub before : List Event
    pub what : Statement
    pub how : Stop
    pub last : happened ≡ before ++ met what ∷ []
    pub none_before : NoneStops before start
    pub stop : machine.stop what (after before start) ≡ Some how
    pub ending : left.ending ≡ ending_after (Some how)
    pub slipped : left.slipped ≡ false

  -- this happened in the run, no statement ends it, and it ends like this
  pub record EndsByItself (happened : List Event) (run : Run) (start : State) (left : Done State) : Type 0 where
    pub none : NoneStops happened start
    pub ending : left.ending ≡ run.ending
    pub slipped : left.slipped ≡ run.slipped

  -- What was done is a beginning of a run: a run of the block that reads the machine's answers begins with what
  -- happened, which leads to this state. Either nothing came later, and the run ended by itself, or the last that
  -- happened is a statement that ended it.
  pub record IsABeginning (turns : ℕ) (block : Tree) (start : State) (left : Done State) : Type 0 where
    pub happened : List Event
    pub later : List Event
    pub run : Run
    pub fits : (d : BlockRuns turns block (answers_at (happened ++ later) start) run) × (events d ≡ happened ++ later)
    pub state : left.state ≡ after happened start
    pub ended : ((later ≡ []) × EndsByItself happened run start left) ⊎ StopsLast happened start left
