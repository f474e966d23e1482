-- What a block does on a machine. The machine has a state. Plain statements change it, and conditions are answered from
-- it: 0 means no and any other number yes. A switch enters the case at the position that the machine chooses from the
-- state, the selector and the values of the cases. Each loop makes at most a given number of turns each time it is
-- entered, and is cut off after them. A plain statement may end the run, as a call does if the function that is called
-- kills the invocation.
use Rattle.std.specs.Prelude.{⊤, ℕ, zero, suc, Bool, true, false, List, Option, Some, None}
use Rattle.naga_kinds.specs.declared.switch.SwitchValue.{SwitchValue}
use Rattle.naga_ir.specs.Tree.{Tree, empty, push, Node, plain, nested, branch, switch, loop, jump, Jump, return, Cases, no_cases, case}
use Rattle.naga_ir.specs.declared.statement.Statement.{Statement}
use Rattle.naga_runs.specs.Runs.{ending_of, entered, values}
use Rattle.naga_runs.specs.declared.run.Ending.{Ending}
use Rattle.naga_runs.specs.declared.run.Ending.TheVariants.{Normal, Break, Continue, Kill, Cut}

-- how a plain statement ends the run: the invocation is killed, or the run is cut off
pub data Stop : Type 0 where
  killed : Stop
  cut_off : Stop

-- how statements change a state, which of them end the run, how conditions are answered, and which cases are entered
pub record Machine (State : Type 0) : Type 0 where
  -- the state after a plain statement
  pub perform : Statement → State → State
  -- how the run ends after a plain statement that is performed in this state, if it does
  pub stop : Statement → State → Option Stop
  -- the answer of the expression with this handle, as a condition
  pub answer : ℕ → State → ℕ
  -- The position of the case that a switch enters, by the handle of its selector and the values of its cases. A number
  -- that is no position enters the first default, or no case if there is none.
  pub choice : ℕ → List SwitchValue → State → ℕ

-- what is left when a block ends: the state, how the block ended, and whether a normal ending came out of a switch,
-- as in a run
pub record Done (State : Type 0) : Type 0 where
  pub state : State
  pub ending : Ending
  pub slipped : Bool

-- the block ended in this way, not out of a switch
abbrev pub done : {State : Type 0} → Ending → State → Done State
done ending state = record { state = state; ending = ending; slipped = false }

-- how a plain statement ends: normally, unless it ends the run
abbrev pub ending_after : Option Stop → Ending
ending_after None = Normal
ending_after (Some killed) = Kill
ending_after (Some cut_off) = Cut

-- what follows a part of a statement: the next part, nothing, or what is after the loop or the switch
pub data Way : Type 0 where
  goes_on : Way
  stays : Way
  leaves : (slipped : Bool) → Way

-- a block goes on after a statement that ends normally
abbrev pub in_block : Ending → Way
in_block Normal = goes_on
in_block _ = stays

-- a turn of a loop goes on after a part that ends normally or by a continue
abbrev pub in_turn : Ending → Way
in_turn Normal = goes_on
in_turn Continue = goes_on
in_turn _ = stays

-- a loop goes on after a turn that ends normally, and is left after one that breaks
abbrev pub in_loop : Ending → Way
in_loop Normal = goes_on
in_loop Break = leaves false
in_loop _ = stays

-- a switch goes on after a case that falls through, if the case ends normally, and is left after one that breaks
abbrev pub in_case : (falls_through : Bool) → Ending → Way
in_case true Normal = goes_on
in_case falls_through Break = leaves true
in_case _ _ = stays

-- the first part, and then what follows it
abbrev pub by_way : {State : Type 0} → Way → Done State → (State → Done State) → Done State
by_way goes_on first next = next first.state
by_way stays first next = first
by_way (leaves slipped) first next = record { state = first.state; ending = Normal; slipped = slipped }

-- the first part, and then what follows a part with its ending
abbrev pub then_by : {State : Type 0} → (Ending → Way) → Done State → (State → Done State) → Done State
then_by way first next = by_way (way first.ending) first next

-- the second, unless the answer is 0
abbrev pub choose : {A : Type 0} → (answer : ℕ) → (at_no at_yes : A) → A
choose zero at_no at_yes = at_no
choose (suc answer) at_no at_yes = at_yes

-- a loop that may make this number of turns more
abbrev pub turns_of : {State : Type 0} → ℕ → (State → Done State) → State → Done State
turns_of zero turn state = done Cut state
turns_of (suc others) turn state = then_by in_loop (turn state) (turns_of others turn)

module _ {State : Type 0} (machine : Machine State) where
  -- the end of a turn: it breaks if there is a break condition and its answer is yes
  abbrev pub breaks_if : Option ℕ → State → Done State
  breaks_if None state = done Normal state
  breaks_if (Some condition) state = done (choose (machine.answer condition state) Normal Break) state

  -- a turn of a loop: the body, the continuing block, and the break condition
  abbrev pub turn_of : (body continuing : State → Done State) → Option ℕ → State → Done State
  turn_of body continuing break_if state =
      then_by in_turn (body state) (λ middle. then_by in_turn (continuing middle) (breaks_if break_if))

  abbrev mutual
    -- what a block does from this state, where each loop makes at most `turns` turns each time it is entered
    pub does : (turns : ℕ) → Tree → State → Done State
    does turns empty state = done Normal state
    does turns (push front last span) state = then_by in_block (does turns front state) (node_does turns last)

    -- the same for a statement
    pub node_does : (turns : ℕ) → Node → State → Done State
    node_does turns (plain what) state = done (ending_after (machine.stop what state)) (machine.perform what state)
    node_does turns (nested inner) state = does turns inner state
    node_does turns (branch condition accept reject) state =
        choose (machine.answer condition state) (does turns reject) (does turns accept) state
    node_does turns (switch selector cases) state =
        cases_do turns cases (entered (values cases) (machine.choice selector (values cases) state)) state
    node_does turns (loop body continuing break_if) state =
        turns_of turns (turn_of (does turns body) (does turns continuing) break_if) state
    node_does turns (jump to) state = done (ending_of to) state

    -- the same for the cases of a switch from this position on
    pub cases_do : (turns : ℕ) → Cases → (position : ℕ) → State → Done State
    cases_do turns no_cases position state = record { state = state; ending = Normal; slipped = true }
    cases_do turns (case value body falls_through others) zero state =
        then_by (in_case falls_through) (does turns body state) (cases_do turns others 0)
    cases_do turns (case value body falls_through others) (suc position) state = cases_do turns others position state

-- the handle, if there is one, is in `Q`
abbrev pub IfAny : (Q : ℕ → Type 0) → Option ℕ → Type 0
IfAny Q None = ⊤
IfAny Q (Some handle) = Q handle

-- each plain statement of a block is in `P`, and each condition, selector and returned value is in `Q`
module _ (P : Statement → Type 0) (Q : ℕ → Type 0) where
  -- the value that is returned, if there is one, is in `Q`
  abbrev pub JumpIsIn : Jump → Type 0
  JumpIsIn (return value) = IfAny Q value
  JumpIsIn to = ⊤

  abbrev mutual
    -- each plain statement of the block is in `P`, and each condition, selector and returned value is in `Q`
    pub IsIn : Tree → Type 0
    IsIn empty = ⊤
    IsIn (push front last span) = IsIn front × NodeIsIn last

    -- the same for a statement
    pub NodeIsIn : Node → Type 0
    NodeIsIn (plain what) = P what
    NodeIsIn (nested inner) = IsIn inner
    NodeIsIn (branch condition accept reject) = Q condition × IsIn accept × IsIn reject
    NodeIsIn (switch selector cases) = Q selector × CasesAreIn cases
    NodeIsIn (loop body continuing break_if) = IsIn body × IsIn continuing × IfAny Q break_if
    NodeIsIn (jump to) = JumpIsIn to

    -- the same for the cases of a switch
    pub CasesAreIn : Cases → Type 0
    CasesAreIn no_cases = ⊤
    CasesAreIn (case value body falls_through others) = IsIn body × CasesAreIn others
