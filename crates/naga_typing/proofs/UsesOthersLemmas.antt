-- No statement that a run meets uses its own result, where nothing is evaluated again in its scope.
use Rattle.std.proofs.Common.{◌≡◌, ap, subst, refl, ℕ, zero, suc, List, [], ◌++◌, Option, Some, None, option_to_list}
use Rattle.std.proofs.lemmas.List.Elements.{All-contains}
use Rattle.std.specs.List.{AllByRecursion, Contains}
use Rattle.std.specs.Prelude.{⊤, IfSome}
use Rattle.naga_ir.specs.Tree.{Tree, Node, Jump, break, continue, kill, return, Cases, no_cases, case}
use Rattle.naga_ir.specs.declared.statement.Statement.{Statement, Atomic, WorkGroupUniformLoad, Call, RayQuery, SubgroupBallot, SubgroupGather, SubgroupCollectiveOperation}
use Rattle.naga_runs.specs.Runs.{Run, GoesOn, from, Asks, not_asked, unanswered, says_no, says_yes, BlockRuns, nothing, goes_on, stops, StatementRuns, meets, jumps, enters, undecided, rejects, accepts, unselected, selects, loops}
use Rattle.naga_runs.specs.Runs.{CasesRun, past, falls, broken, ends, passed_on, LoopRuns, no_turn, again, left, over, TurnRuns, in_body, in_continuing, whole}
use Rattle.naga_flow.specs.Events.{Event, met, events, events_of_asking, events_of_cases, events_of_jump, events_of_loop, events_of_statement, events_of_turn}
use Rattle.naga_flow.specs.Results.{emitted_by, evaluated_by, result_of, used_by}
use Rattle.naga_flow.specs.Scopes.{AreNew, CasesEvaluatedOnce, EvaluatedOnce, NodeEvaluatedOnce}
use Rattle.naga_flow.specs.Tracking.{Includes}
use Rattle.naga_flow.specs.Uses.{CasesUseKnown, Expressions, MayUse, NodeUsesKnown, PlainUsesKnown, UsesKnown, after_body, certain, values_of, where_reached}
use Rattle.naga_flow.proofs.CertainLemmas.{BlockRuns-may_go_on, certain-Includes}
use Rattle.naga_flow.proofs.IncludesLemmas.{Includes-itself, Includes-joined}
use Rattle.naga_typing.specs.TypedValues.{UsesOthers}
use Rattle.naga_typing.proofs.EventsLemmas.{all-joined}

-- what a statement has as its result is new
result-new : (scope emitted : List ℕ) (result : Option ℕ) (r : ℕ) → emitted ≡ [] → result ≡ Some r → AreNew scope (emitted ++ option_to_list result) → ¬ Contains scope r
result-new scope emitted result r none is new = (subst (AreNew scope) ((λ i. none i ++ option_to_list (is i))) new).0

-- a statement with a result emits nothing
emits-nothing : (what : Statement) (r : ℕ) → result_of what ≡ Some r → emitted_by what ≡ []
emits-nothing (Atomic pointer fun value result) r is = refl
emits-nothing (WorkGroupUniformLoad pointer result) r is = refl
emits-nothing (Call function arguments result) r is = refl
emits-nothing (RayQuery query fun) r is = refl
emits-nothing (SubgroupBallot result predicate) r is = refl
emits-nothing (SubgroupGather mode argument result) r is = refl
emits-nothing (SubgroupCollectiveOperation op collective_op argument result) r is = refl
emits-nothing _ r is = absurd (cc)

-- the event meets a statement that does not use its own result, if it meets one
abbrev pub MetUsesOthers : Event → Type 0
MetUsesOthers (met what) = UsesOthers what
MetUsesOthers event = ⊤

-- `reads` tells that the result of a statement has been evaluated where it may be used
module _ (expressions : Expressions)
    (itself : (known : List ℕ) (what : Statement) (r : ℕ) → PlainUsesKnown expressions known what → result_of what ≡ Some r → MayUse expressions known r → Contains known r) where
  abbrev Others : List Event → Type 0
  Others = AllByRecursion MetUsesOthers

  plain-others : (known scope : List ℕ) (what : Statement) → Includes scope known → PlainUsesKnown expressions known what → AreNew scope (evaluated_by what) → UsesOthers what
  plain-others known scope what more uses new = go (result_of what) refl
    where
      go : (found : Option ℕ) → result_of what ≡ found → IfSome found (λ result. ¬ Contains (used_by what) result)
      go None is = tt
      go (Some r) is = λ inside.
          result-new scope (emitted_by what) (result_of what) r (emits-nothing what r is) is new
          (more.each r (itself known what r uses is (All-contains (MayUse expressions known) (used_by what) r uses.used inside)))

  jump-others : (to : Jump) → Others (events_of_jump to)
  jump-others break = tt
  jump-others continue = tt
  jump-others kill = tt
  jump-others (return None) = tt
  jump-others (return (Some value)) = (tt, tt)

  asks-others : {break_if : Option ℕ} {answers : List ℕ} {run : Run} (d : Asks break_if answers run) → Others (events_of_asking d)
  asks-others not_asked = tt
  asks-others unanswered = (tt, tt)
  asks-others says_no = (tt, tt)
  asks-others says_yes = (tt, tt)

  reached : {n : ℕ} {b : Tree} {answers : List ℕ} {run : Run} (d : BlockRuns n b answers run) → GoesOn run.ending → after_body b expressions ≡ expressions
  reached {b = b} d e = ap (λ t. where_reached t expressions) (BlockRuns-may_go_on d e)

  cases-from : (known scope : List ℕ) (k : ℕ) (cases : Cases) → CasesUseKnown expressions known cases × CasesEvaluatedOnce scope cases
      → CasesUseKnown expressions known (from k cases) × CasesEvaluatedOnce scope (from k cases)
  cases-from known scope zero cases h = h
  cases-from known scope (suc k) no_cases h = h
  cases-from known scope (suc k) (case value body falls_through others) h = cases-from known scope k others (h.0.1, h.1.1)

  mutual
    pub block-others : {n : ℕ} {b : Tree} {answers : List ℕ} {run : Run} (known scope : List ℕ) (d : BlockRuns n b answers run) → Includes scope known →
        UsesKnown expressions known b → EvaluatedOnce scope b → Others (events d)
    block-others known scope nothing more h once = tt
    block-others known scope (goes_on {front = front} d e k) more h once =
        all-joined MetUsesOthers (events d) (events_of_statement k) (block-others known scope d more h.0 once.0)
        (node-others (values_of front ++ known) (values_of front ++ scope) k (Includes-joined (values_of front) (values_of front) known scope Includes-itself more) h.1 once.1)
    block-others known scope (stops d e) more h once = block-others known scope d more h.0 once.0

    node-others : {n : ℕ} {s : Node} {answers : List ℕ} {run : Run} (known scope : List ℕ) (d : StatementRuns n s answers run) → Includes scope known →
        NodeUsesKnown expressions known s → NodeEvaluatedOnce scope s → Others (events_of_statement d)
    node-others known scope (meets {what = what}) more h once = (plain-others known scope what more h once, tt)
    node-others known scope (jumps {to = to}) more h once = jump-others to
    node-others known scope (enters d) more h once = block-others known scope d more h once
    node-others known scope undecided more h once = (tt, tt)
    node-others known scope (rejects d) more h once = (tt, block-others known scope d more h.2 once.1)
    node-others known scope (accepts d) more h once = (tt, block-others known scope d more h.1 once.0)
    node-others known scope unselected more h once = (tt, tt)
    node-others known scope (selects {cases = cases} d) more h once =
        let rest = cases-from known scope _ cases (h.1, once) in (tt, cases-others known scope d more rest.0 rest.1)
    node-others known scope (loops d) more h once = loop-others known scope d more h.0 h.1 once.0 once.1

    cases-others : {n : ℕ} {cases : Cases} {answers : List ℕ} {run : Run} (known scope : List ℕ) (d : CasesRun n cases answers run) → Includes scope known →
        CasesUseKnown expressions known cases → CasesEvaluatedOnce scope cases → Others (events_of_cases d)
    cases-others known scope past more h once = tt
    cases-others known scope (falls d e k) more h once =
        all-joined MetUsesOthers (events d) (events_of_cases k) (block-others known scope d more h.0 once.0) (cases-others known scope k more h.1 once.1)
    cases-others known scope (broken d e) more h once = block-others known scope d more h.0 once.0
    cases-others known scope (ends d e) more h once = block-others known scope d more h.0 once.0
    cases-others known scope (passed_on d e k) more h once = block-others known scope d more h.0 once.0

    loop-others : {n others : ℕ} {b c : Tree} {break_if : Option ℕ} {answers : List ℕ} {run : Run} (known scope : List ℕ)
        (d : LoopRuns n others b c break_if answers run) → Includes scope known → UsesKnown expressions known b →
        UsesKnown (after_body b expressions) (values_of (certain b) ++ known) c → EvaluatedOnce scope b → EvaluatedOnce (values_of b ++ scope) c → Others (events_of_loop d)
    loop-others known scope no_turn more h k once then_once = tt
    loop-others known scope (again d e t) more h k once then_once =
        all-joined MetUsesOthers (events_of_turn d) (events_of_loop t) (turn-others known scope d more h k once then_once) (loop-others known scope t more h k once then_once)
    loop-others known scope (left d e) more h k once then_once = turn-others known scope d more h k once then_once
    loop-others known scope (over d e t) more h k once then_once = turn-others known scope d more h k once then_once

    turn-others : {n : ℕ} {b c : Tree} {break_if : Option ℕ} {answers : List ℕ} {run : Run} (known scope : List ℕ)
        (d : TurnRuns n b c break_if answers run) → Includes scope known → UsesKnown expressions known b →
        UsesKnown (after_body b expressions) (values_of (certain b) ++ known) c → EvaluatedOnce scope b → EvaluatedOnce (values_of b ++ scope) c → Others (events_of_turn d)
    turn-others known scope (in_body d e) more h k once then_once = block-others known scope d more h once
    turn-others known scope (in_continuing {body = b} {continuing = c} d e t u) more h k once then_once =
        all-joined MetUsesOthers (events d) (events t) (block-others known scope d more h once)
        (block-others (values_of (certain b) ++ known) (values_of b ++ scope) t (Includes-joined (values_of (certain b)) (values_of b) known scope (certain-Includes b) more)
        (subst (λ ex. UsesKnown ex (values_of (certain b) ++ known) c) (reached d e) k) then_once)
    turn-others known scope (whole {body = b} {continuing = c} d e t u asks) more h k once then_once =
        all-joined MetUsesOthers (events d) (events t ++ events_of_asking asks) (block-others known scope d more h once)
        (all-joined MetUsesOthers (events t) (events_of_asking asks)
        (block-others (values_of (certain b) ++ known) (values_of b ++ scope) t (Includes-joined (values_of (certain b)) (values_of b) known scope (certain-Includes b) more)
        (subst (λ ex. UsesKnown ex (values_of (certain b) ++ known) c) (reached d e) k) then_once)
        (asks-others asks))
