-- The events of a run beside its trace, and what is known at each event.
use Rattle.std.proofs.Common.{◌≡◌, ℕ, subst, List, [], ◌∷◌, ◌++◌, Option, Some, None, refl, sym, ◌∙◌, ap, append_assoc}
use Rattle.naga_ir.specs.Tree.{Tree, Node, Jump, break, continue, kill, return, Cases}
use Rattle.naga_runs.specs.Runs.{Run, Asks, not_asked, unanswered, says_no, says_yes, BlockRuns, nothing, goes_on, stops, StatementRuns, meets, jumps, enters, rejects, accepts, selects, loops, CasesRun, past, falls, broken, ends, passed_on, LoopRuns, no_turn, again, left, over, TurnRuns, in_body, in_continuing, whole, undecided, unselected}
use Rattle.naga_flow.specs.Events.{Event, met, branched, selected, returned, EventUsesKnown, UsesOnlyEvaluated, evaluated_at, evaluated_in, met_in, events, events_of_statement, events_of_cases, events_of_loop, events_of_turn, events_of_jump, events_of_asking}
use Rattle.naga_flow.specs.Uses.{Expressions}
use Rattle.naga_flow.specs.Tracking.{Includes}
use Rattle.naga_flow.proofs.IncludesLemmas.{Includes-both, Includes-itself, Includes-joined, Includes-nothing, Includes-shifted, Includes-shifted_back}
use Rattle.naga_flow.proofs.UsesKnownLemmas.{MayUse-more, PlainUsesKnown-more}

-- ---- what is known at each event

module _ (expressions : Expressions) where
  pub EventUsesKnown-more : {known more : List ℕ} → Includes more known → (event : Event) → EventUsesKnown expressions known event → EventUsesKnown expressions more event
  EventUsesKnown-more h (met what) k = PlainUsesKnown-more expressions h what k
  EventUsesKnown-more h (branched handle) k = MayUse-more expressions h handle k
  EventUsesKnown-more h (selected handle values) k = MayUse-more expressions h handle k
  EventUsesKnown-more h (returned handle) k = MayUse-more expressions h handle k

  -- what each event uses is known before it, if these have been evaluated before the first
  abbrev pub EventsUseKnown : (known : List ℕ) → List Event → Type 0
  EventsUseKnown known [] = Unit {0}
  EventsUseKnown known (event ∷ rest) = EventUsesKnown expressions known event × EventsUseKnown (evaluated_at event ++ known) rest

  pub EventsUseKnown-more : (known more : List ℕ) → Includes more known → (events : List Event) → EventsUseKnown known events → EventsUseKnown more events
  EventsUseKnown-more known more h [] k = k
  EventsUseKnown-more known more h (event ∷ rest) k =
      let added = Includes-joined (evaluated_at event) (evaluated_at event) known more Includes-itself h in
      (EventUsesKnown-more h event k.0, EventsUseKnown-more (evaluated_at event ++ known) (evaluated_at event ++ more) added rest k.1)

  pub EventsUseKnown-append : (known : List ℕ) (xs ys : List Event) → EventsUseKnown known xs → EventsUseKnown (evaluated_in xs ++ known) ys → EventsUseKnown known (xs ++ ys)
  EventsUseKnown-append known [] ys h k = k
  EventsUseKnown-append known (x ∷ xs) ys h k =
      (h.0, EventsUseKnown-append (evaluated_at x ++ known) xs ys h.1 (EventsUseKnown-more _ _ (Includes-shifted (evaluated_at x) (evaluated_in xs) known) ys k))

  EventsUseKnown-at : (known : List ℕ) (before after : List Event) (event : Event) → EventsUseKnown known (before ++ event ∷ after) →
      EventUsesKnown expressions (evaluated_in before ++ known) event
  EventsUseKnown-at known [] after event h = h.0
  EventsUseKnown-at known (x ∷ before) after event h =
      EventUsesKnown-more (Includes-shifted_back (evaluated_at x) (evaluated_in before) known) event (EventsUseKnown-at (evaluated_at x ++ known) before after event h.1)

  pub EventsUseKnown-each : (events : List Event) → EventsUseKnown [] events → UsesOnlyEvaluated expressions events
  EventsUseKnown-each events h before after event is =
      EventUsesKnown-more (Includes-both (evaluated_in before) [] Includes-itself Includes-nothing) event
      (EventsUseKnown-at [] before after event (subst (EventsUseKnown []) is h))

pub evaluated_in-append : (xs ys : List Event) → evaluated_in (xs ++ ys) ≡ evaluated_in xs ++ evaluated_in ys
evaluated_in-append [] ys = refl
evaluated_in-append (x ∷ xs) ys = ap (λ zs. evaluated_at x ++ zs) (evaluated_in-append xs ys) ∙ sym (append_assoc (evaluated_at x) (evaluated_in xs) (evaluated_in ys))

-- ---- the trace

met_in-append : (xs ys : List Event) → met_in (xs ++ ys) ≡ met_in xs ++ met_in ys
met_in-append [] ys = refl
met_in-append (met what ∷ xs) ys = ap (λ zs. what ∷ zs) (met_in-append xs ys)
met_in-append (branched handle ∷ xs) ys = met_in-append xs ys
met_in-append (selected handle values ∷ xs) ys = met_in-append xs ys
met_in-append (returned handle ∷ xs) ys = met_in-append xs ys

-- two runs, one after the other
met_in-joined : (xs ys : List Event) (first second : Run) → met_in xs ≡ first.trace → met_in ys ≡ second.trace → met_in (xs ++ ys) ≡ first.trace ++ second.trace
met_in-joined xs ys first second h k = met_in-append xs ys ∙ (λ i. h i ++ k i)

Asks-met_in : {break_if : Option ℕ} {answers : List ℕ} {run : Run} (d : Asks break_if answers run) → met_in (events_of_asking d) ≡ run.trace
Asks-met_in not_asked = refl
Asks-met_in unanswered = refl
Asks-met_in says_no = refl
Asks-met_in says_yes = refl

events_of_jump-met_in : (to : Jump) → met_in (events_of_jump to) ≡ []
events_of_jump-met_in break = refl
events_of_jump-met_in continue = refl
events_of_jump-met_in kill = refl
events_of_jump-met_in (return None) = refl
events_of_jump-met_in (return (Some value)) = refl

mutual
  pub BlockRuns-met_in : {n : ℕ} {b : Tree} {answers : List ℕ} {run : Run} (d : BlockRuns n b answers run) → met_in (events d) ≡ run.trace
  BlockRuns-met_in nothing = refl
  BlockRuns-met_in (goes_on {first = first} {second = second} d e k) = met_in-joined (events d) (events_of_statement k) first second (BlockRuns-met_in d) (StatementRuns-met_in k)
  BlockRuns-met_in (stops d e) = BlockRuns-met_in d

  StatementRuns-met_in : {n : ℕ} {s : Node} {answers : List ℕ} {run : Run} (d : StatementRuns n s answers run) → met_in (events_of_statement d) ≡ run.trace
  StatementRuns-met_in meets = refl
  StatementRuns-met_in (jumps {to = to}) = events_of_jump-met_in to
  StatementRuns-met_in (enters d) = BlockRuns-met_in d
  StatementRuns-met_in undecided = refl
  StatementRuns-met_in (rejects d) = BlockRuns-met_in d
  StatementRuns-met_in (accepts d) = BlockRuns-met_in d
  StatementRuns-met_in unselected = refl
  StatementRuns-met_in (selects d) = CasesRun-met_in d
  StatementRuns-met_in (loops d) = LoopRuns-met_in d

  CasesRun-met_in : {n : ℕ} {cases : Cases} {answers : List ℕ} {run : Run} (d : CasesRun n cases answers run) → met_in (events_of_cases d) ≡ run.trace
  CasesRun-met_in past = refl
  CasesRun-met_in (falls {first = first} {second = second} d e k) = met_in-joined (events d) (events_of_cases k) first second (BlockRuns-met_in d) (CasesRun-met_in k)
  CasesRun-met_in (broken d e) = BlockRuns-met_in d
  CasesRun-met_in (ends d e) = BlockRuns-met_in d
  CasesRun-met_in (passed_on d e k) = BlockRuns-met_in d

  LoopRuns-met_in : {n others : ℕ} {b c : Tree} {break_if : Option ℕ} {answers : List ℕ} {run : Run} (d : LoopRuns n others b c break_if answers run) → met_in (events_of_loop d) ≡ run.trace
  LoopRuns-met_in no_turn = refl
  LoopRuns-met_in (again {first = first} {second = second} d e k) = met_in-joined (events_of_turn d) (events_of_loop k) first second (TurnRuns-met_in d) (LoopRuns-met_in k)
  LoopRuns-met_in (left d e) = TurnRuns-met_in d
  LoopRuns-met_in (over d e k) = TurnRuns-met_in d

  TurnRuns-met_in : {n : ℕ} {b c : Tree} {break_if : Option ℕ} {answers : List ℕ} {run : Run} (d : TurnRuns n b c break_if answers run) → met_in (events_of_turn d) ≡ run.trace
  TurnRuns-met_in (in_body d e) = BlockRuns-met_in d
  TurnRuns-met_in (in_continuing {first = first} {second = second} d e k h) = met_in-joined (events d) (events k) first second (BlockRuns-met_in d) (BlockRuns-met_in k)
  TurnRuns-met_in (whole {first = first} {second = second} {third = third} d e k h t) =
      met_in-append (events d) (events k ++ events_of_asking t)
      ∙ (λ i. BlockRuns-met_in d i ++ met_in-joined (events k) (events_of_asking t) second third (BlockRuns-met_in k) (Asks-met_in t) i)
