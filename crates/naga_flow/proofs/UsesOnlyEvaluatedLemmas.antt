-- The events of a run of a block in which each expression is evaluated before its value is used.
use Rattle.std.proofs.Common.{◌≡◌, ℕ, zero, suc, List, [], ◌++◌, Option, Some, None, ap, subst, option_to_list}
use Rattle.std.proofs.lemmas.List.Elements.{All-head}
use Rattle.naga_ir.specs.Tree.{Tree, Node, Jump, break, continue, kill, return, Cases, no_cases, case}
use Rattle.naga_runs.specs.Runs.{Run, GoesOn, from, Asks, not_asked, unanswered, says_no, says_yes, BlockRuns, nothing, goes_on, stops, StatementRuns, meets, jumps, enters, rejects, accepts, selects, loops, CasesRun, past, falls, broken, ends, passed_on, LoopRuns, no_turn, again, left, over, TurnRuns, in_body, in_continuing, whole, undecided, unselected}
use Rattle.naga_flow.specs.Uses.{CasesUseKnown, Expressions, JumpUsesKnown, MayUse, MayUseEach, NodeUsesKnown, UsesKnown, after_body, certain, values_of, where_reached}
use Rattle.naga_flow.specs.Events.{events, events_of_statement, events_of_cases, events_of_loop, events_of_turn, events_of_jump, events_of_asking, evaluated_in}
use Rattle.naga_flow.proofs.EventsLemmas.{EventsUseKnown, EventsUseKnown-append}
use Rattle.naga_flow.specs.Tracking.{Includes}
use Rattle.naga_flow.proofs.IncludesLemmas.{Includes-joined, Includes-right}
use Rattle.naga_flow.proofs.UsesKnownLemmas.{MayUse-more, PlainUsesKnown-more}
use Rattle.naga_flow.proofs.CertainLemmas.{BlockRuns-evaluates, BlockRuns-certain, BlockRuns-may_go_on}

module _ (expressions : Expressions) where
  CasesUseKnown-from : (known : List ℕ) (k : ℕ) (cases : Cases) → CasesUseKnown expressions known cases → CasesUseKnown expressions known (from k cases)
  CasesUseKnown-from known zero cases h = h
  CasesUseKnown-from known (suc k) no_cases h = h
  CasesUseKnown-from known (suc k) (case value body falls_through others) h = CasesUseKnown-from known k others h.1

  jump-uses : (known had : List ℕ) (to : Jump) → Includes had known → JumpUsesKnown expressions known to → EventsUseKnown expressions had (events_of_jump to)
  jump-uses known had break more h = tt
  jump-uses known had continue more h = tt
  jump-uses known had kill more h = tt
  jump-uses known had (return None) more h = tt
  jump-uses known had (return (Some value)) more h =
      (MayUse-more expressions more value (All-head (MayUse expressions known) value [] h), tt)

  Asks-uses : {break_if : Option ℕ} {answers : List ℕ} {run : Run} (known had : List ℕ) (d : Asks break_if answers run) → Includes had known →
      MayUseEach expressions known (option_to_list break_if) → EventsUseKnown expressions had (events_of_asking d)
  Asks-uses known had not_asked more h = tt
  Asks-uses known had (unanswered {condition = c}) more h = (MayUse-more expressions more c (All-head (MayUse expressions known) c [] h), tt)
  Asks-uses known had (says_no {condition = c}) more h = (MayUse-more expressions more c (All-head (MayUse expressions known) c [] h), tt)
  Asks-uses known had (says_yes {condition = c}) more h = (MayUse-more expressions more c (All-head (MayUse expressions known) c [] h), tt)

  -- a run after which the loop goes on shows that control may reach what follows the body
  reached : {n : ℕ} {b : Tree} {answers : List ℕ} {run : Run} (d : BlockRuns n b answers run) → GoesOn run.ending → after_body b expressions ≡ expressions
  reached {b = b} d e = ap (λ t. where_reached t expressions) (BlockRuns-may_go_on d e)

  mutual
    pub BlockRuns-uses : {n : ℕ} {b : Tree} {answers : List ℕ} {run : Run} (known had : List ℕ) (d : BlockRuns n b answers run) → Includes had known →
        UsesKnown expressions known b → EventsUseKnown expressions had (events d)
    BlockRuns-uses known had nothing more h = tt
    BlockRuns-uses known had (goes_on {front = front} d e k) more h =
        let then_more = Includes-joined (values_of front) (evaluated_in (events d)) known had (BlockRuns-evaluates d e) more in
        EventsUseKnown-append expressions had (events d) (events_of_statement k) (BlockRuns-uses known had d more h.0)
        (StatementRuns-uses (values_of front ++ known) (evaluated_in (events d) ++ had) k then_more h.1)
    BlockRuns-uses known had (stops d e) more h = BlockRuns-uses known had d more h.0

    StatementRuns-uses : {n : ℕ} {s : Node} {answers : List ℕ} {run : Run} (known had : List ℕ) (d : StatementRuns n s answers run) → Includes had known →
        NodeUsesKnown expressions known s → EventsUseKnown expressions had (events_of_statement d)
    StatementRuns-uses known had (meets {what = what}) more h = (PlainUsesKnown-more expressions more what h, tt)
    StatementRuns-uses known had (jumps {to = to}) more h = jump-uses known had to more h
    StatementRuns-uses known had (enters d) more h = BlockRuns-uses known had d more h
    StatementRuns-uses known had (undecided {condition = c}) more h = (MayUse-more expressions more c h.0, tt)
    StatementRuns-uses known had (rejects {condition = c} d) more h = (MayUse-more expressions more c h.0, BlockRuns-uses known had d more h.2)
    StatementRuns-uses known had (accepts {condition = c} d) more h = (MayUse-more expressions more c h.0, BlockRuns-uses known had d more h.1)
    StatementRuns-uses known had (unselected {selector = c}) more h = (MayUse-more expressions more c h.0, tt)
    StatementRuns-uses known had (selects {selector = c} {cases = cases} d) more h =
        (MayUse-more expressions more c h.0, CasesRun-uses known had d more (CasesUseKnown-from known _ cases h.1))
    StatementRuns-uses known had (loops d) more h = LoopRuns-uses known had d more h.0 h.1 h.2

    CasesRun-uses : {n : ℕ} {cases : Cases} {answers : List ℕ} {run : Run} (known had : List ℕ) (d : CasesRun n cases answers run) → Includes had known →
        CasesUseKnown expressions known cases → EventsUseKnown expressions had (events_of_cases d)
    CasesRun-uses known had past more h = tt
    CasesRun-uses known had (falls d e k) more h =
        EventsUseKnown-append expressions had (events d) (events_of_cases k) (BlockRuns-uses known had d more h.0)
        (CasesRun-uses known (evaluated_in (events d) ++ had) k (Includes-right (evaluated_in (events d)) had more) h.1)
    CasesRun-uses known had (broken d e) more h = BlockRuns-uses known had d more h.0
    CasesRun-uses known had (ends d e) more h = BlockRuns-uses known had d more h.0
    CasesRun-uses known had (passed_on d e k) more h = BlockRuns-uses known had d more h.0

    LoopRuns-uses : {n others : ℕ} {b c : Tree} {break_if : Option ℕ} {answers : List ℕ} {run : Run} (known had : List ℕ)
        (d : LoopRuns n others b c break_if answers run) → Includes had known → UsesKnown expressions known b →
        UsesKnown (after_body b expressions) (values_of (certain b) ++ known) c →
        MayUseEach (after_body b expressions) (values_of (certain c) ++ (values_of (certain b) ++ known)) (option_to_list break_if) →
        EventsUseKnown expressions had (events_of_loop d)
    LoopRuns-uses known had no_turn more h k l = tt
    LoopRuns-uses known had (again d e t) more h k l =
        EventsUseKnown-append expressions had (events_of_turn d) (events_of_loop t) (TurnRuns-uses known had d more h k l)
        (LoopRuns-uses known (evaluated_in (events_of_turn d) ++ had) t (Includes-right (evaluated_in (events_of_turn d)) had more) h k l)
    LoopRuns-uses known had (left d e) more h k l = TurnRuns-uses known had d more h k l
    LoopRuns-uses known had (over d e t) more h k l = TurnRuns-uses known had d more h k l

    TurnRuns-uses : {n : ℕ} {b c : Tree} {break_if : Option ℕ} {answers : List ℕ} {run : Run} (known had : List ℕ)
        (d : TurnRuns n b c break_if answers run) → Includes had known → UsesKnown expressions known b →
        UsesKnown (after_body b expressions) (values_of (certain b) ++ known) c →
        MayUseEach (after_body b expressions) (values_of (certain c) ++ (values_of (certain b) ++ known)) (option_to_list break_if) →
        EventsUseKnown expressions had (events_of_turn d)
    TurnRuns-uses known had (in_body d e) more h k l = BlockRuns-uses known had d more h
    TurnRuns-uses known had (in_continuing {body = b} {continuing = c} d e t u) more h k l =
        let joined = Includes-joined (values_of (certain b)) (evaluated_in (events d)) known had (BlockRuns-certain d e) more in
        EventsUseKnown-append expressions had (events d) (events t) (BlockRuns-uses known had d more h)
        (BlockRuns-uses (values_of (certain b) ++ known) (evaluated_in (events d) ++ had) t joined (subst (λ ex. UsesKnown ex (values_of (certain b) ++ known) c) (reached d e) k))
    TurnRuns-uses known had (whole {body = b} {continuing = c} {break_if = break_if} d e t u asks) more h k l =
        let joined = Includes-joined (values_of (certain b)) (evaluated_in (events d)) known had (BlockRuns-certain d e) more in
        let after_continuing =
        Includes-joined (values_of (certain c)) (evaluated_in (events t)) (values_of (certain b) ++ known) (evaluated_in (events d) ++ had) (BlockRuns-certain t u) joined
        in
        EventsUseKnown-append expressions had (events d) (events t ++ events_of_asking asks) (BlockRuns-uses known had d more h)
        (EventsUseKnown-append expressions (evaluated_in (events d) ++ had) (events t) (events_of_asking asks)
        (BlockRuns-uses (values_of (certain b) ++ known) (evaluated_in (events d) ++ had) t joined (subst (λ ex. UsesKnown ex (values_of (certain b) ++ known) c) (reached d e) k))
        (Asks-uses (values_of (certain c) ++ (values_of (certain b) ++ known)) (evaluated_in (events t) ++ (evaluated_in (events d) ++ had)) asks after_continuing
        (subst (λ ex. MayUseEach ex (values_of (certain c) ++ (values_of (certain b) ++ known)) (option_to_list break_if)) (reached d e) l)))
