-- What a block does on a machine is one of its runs.
use Rattle.std.proofs.Common.{◌≡◌, ◌∙◌, sym, ap, subst, refl, inl, inr, ℕ, zero, suc, ◌+◌, Bool, true, false, List, [], ◌∷◌, ◌++◌, drop, length, Option, Some, None, append_assoc}
use Rattle.std.proofs.lemmas.List.{drop_at, length-append}
use Rattle.naga_arena.specs.declared.span.Span.{Span}
use Rattle.naga_kinds.specs.declared.switch.SwitchValue.{SwitchValue}
use Rattle.naga_ir.specs.Tree.{Tree, empty, push, Node, plain, nested, branch, switch, loop, jump, Cases, no_cases, case, break, continue, kill, return}
use Rattle.naga_runs.specs.Runs.{Run, quiet, meeting, answered, joined, GoesOn, values, entered, from, Asks, not_asked, says_no, says_yes}
use Rattle.naga_runs.specs.Runs.{BlockRuns, nothing, goes_on, stops, StatementRuns, meets, jumps, enters, rejects, accepts, selects, loops}
use Rattle.naga_runs.specs.Runs.{CasesRun, past, falls, broken, ends, passed_on, LoopRuns, no_turn, again, left, over, TurnRuns, in_body, in_continuing, whole}
use Rattle.naga_runs.specs.declared.run.Ending.{Ending}
use Rattle.naga_runs.specs.declared.run.Ending.TheVariants.{Normal, Break, Continue, Return, Kill, Cut}
use Rattle.naga_flow.specs.Events.{Event, met, branched, selected, returned, events, events_of_statement, events_of_cases, events_of_loop, events_of_turn, events_of_asking}
use Rattle.naga_meaning.specs.Adequacy.{NeverStops, after, answers_at, Follows, IsARun}
use Rattle.naga_meaning.specs.Machine.{Machine, Done, done, ending_after, in_block, in_turn, in_case, by_way, then_by, choose, turns_of, breaks_if, turn_of, does, node_does, cases_do, in_loop}

-- the runs of a continuing block and of the break condition after it
data RestRuns (n : ℕ) (continuing : Tree) (break_if : Option ℕ) (answers : List ℕ) : Run → Type 0 where
  stops_there : {run : Run} → BlockRuns n continuing answers run → (GoesOn run.ending → ⊥) → RestRuns n continuing break_if answers run
  asks_then : {first second : Run} → BlockRuns n continuing answers first → GoesOn first.ending → Asks break_if (drop first.used answers) second →
      RestRuns n continuing break_if answers (joined first second)

abbrev of_rest : (n : ℕ) (continuing : Tree) (break_if : Option ℕ) (answers : List ℕ) (run : Run) → RestRuns n continuing break_if answers run → List Event
of_rest n continuing break_if answers run (stops_there d e) = events d
of_rest n continuing break_if answers run (asks_then d e t) = events d ++ events_of_asking t

turn-joined : {n : ℕ} {body continuing : Tree} {break_if : Option ℕ} {answers : List ℕ} {first second : Run} → (x : BlockRuns n body answers first) → GoesOn first.ending →
    (y : RestRuns n continuing break_if (drop first.used answers) second) →
    (d : TurnRuns n body continuing break_if answers (joined first second)) × (events_of_turn d ≡ events x ++ of_rest n continuing break_if (drop first.used answers) second y)
turn-joined x e (stops_there d k) = (in_continuing x e d k, refl)
turn-joined x e (asks_then d k t) = (whole x e d k t, refl)

module _ {State : Type 0} (machine : Machine State) where
  pub after-append : (xs ys : List Event) (state : State) → after machine (xs ++ ys) state ≡ after machine ys (after machine xs state)
  after-append [] ys state = refl
  after-append (met what ∷ xs) ys state = after-append xs ys (machine.perform what state)
  after-append (branched handle ∷ xs) ys state = after-append xs ys state
  after-append (selected handle vs ∷ xs) ys state = after-append xs ys state
  after-append (returned handle ∷ xs) ys state = after-append xs ys state

  pub answers_at-append : (xs ys : List Event) (state : State) → answers_at machine (xs ++ ys) state ≡ answers_at machine xs state ++ answers_at machine ys (after machine xs state)
  answers_at-append [] ys state = refl
  answers_at-append (met what ∷ xs) ys state = answers_at-append xs ys (machine.perform what state)
  answers_at-append (branched handle ∷ xs) ys state = ap (λ rest. machine.answer handle state ∷ rest) (answers_at-append xs ys state)
  answers_at-append (selected handle vs ∷ xs) ys state = ap (λ rest. machine.choice handle vs state ∷ rest) (answers_at-append xs ys state)
  answers_at-append (returned handle ∷ xs) ys state = answers_at-append xs ys state

  -- the runs of a part of a body
  abbrev RunsOfPart : Type 1
  RunsOfPart = List ℕ → Run → Type 0

  -- the events of each of them
  abbrev EventsIn : RunsOfPart → Type 0
  EventsIn Fits = (answers : List ℕ) (run : Run) → Fits answers run → List Event

  -- a run, and these are its events
  abbrev HasEvents : (Fits : RunsOfPart) → EventsIn Fits → List ℕ → Run → List Event → Type 0
  HasEvents Fits events_in answers run happened = (d : Fits answers run) × (events_in answers run d ≡ happened)

  -- nothing happens
  quietly : (Fits : RunsOfPart) (events_in : EventsIn Fits) (e : Ending) (slipped : Bool) (state : State) →
      ((answers : List ℕ) → HasEvents Fits events_in answers (record { trace = []; ending = e; used = 0; slipped = slipped }) []) →
      Follows machine Fits events_in state (record { state = state; ending = e; slipped = slipped })
  quietly Fits events_in e slipped state rule = record {
    happened = [];
    run = record { trace = []; ending = e; used = 0; slipped = slipped };
    fits = λ rest. rule rest;
    used = refl;
    ending = refl;
    slipped = refl;
    state = refl;
  }

  -- one part after another
  in_order : (F G H : RunsOfPart) (f : EventsIn F) (g : EventsIn G) (h : EventsIn H) (state : State) (one two : Done State) (p : Follows machine F f state one) (q : Follows machine G g one.state two) →
      ((a : List ℕ) (x : F a p.run) (y : G (drop p.run.used a) q.run) → HasEvents H h a (joined p.run q.run) (f a p.run x ++ g (drop p.run.used a) q.run y)) →
      Follows machine H h state two
  in_order F G H f g h state one two p q rule =
      let first : List ℕ = answers_at machine p.happened state in
      let second : List ℕ = answers_at machine q.happened one.state in
      let both : first ++ second ≡ answers_at machine (p.happened ++ q.happened) state =
      ap (λ s. first ++ answers_at machine q.happened s) p.state ∙ sym (answers_at-append p.happened q.happened state)
      in
      record {
        happened = p.happened ++ q.happened;
        run = joined p.run q.run;
        fits = λ rest.
            let x : HasEvents F f (first ++ (second ++ rest)) p.run p.happened = p.fits (second ++ rest) in
            let y : HasEvents G g (drop p.run.used (first ++ (second ++ rest))) q.run q.happened =
            subst (λ a. HasEvents G g a q.run q.happened) (sym (drop_at first (second ++ rest) p.run.used (sym p.used))) (q.fits rest)
            in
            let w : HasEvents H h (first ++ (second ++ rest)) (joined p.run q.run) (f (first ++ (second ++ rest)) p.run x.0 ++ g (drop p.run.used (first ++ (second ++ rest))) q.run y.0) = rule (first ++ (second ++ rest)) x.0 y.0 in
            subst (λ a. HasEvents H h a (joined p.run q.run) (p.happened ++ q.happened)) (sym (append_assoc first second rest) ∙ ap (λ b. b ++ rest) both)
            (w.0, w.1 ∙ (λ i. x.1 i ++ y.1 i));
        used = (λ i. p.used i + q.used i) ∙ sym (length-append first second) ∙ ap length both;
        ending = q.ending;
        slipped = q.slipped;
        state = q.state ∙ ap (after machine q.happened) p.state ∙ sym (after-append p.happened q.happened state);
      }

  -- a part that is the whole, perhaps with another ending
  alone : (F H : RunsOfPart) (f : EventsIn F) (h : EventsIn H) (state : State) (one : Done State) (p : Follows machine F f state one) (e : Ending) (slipped : Bool) →
      ((a : List ℕ) (x : F a p.run) → HasEvents H h a (record p.run { ending = e; slipped = slipped }) (f a p.run x)) →
      Follows machine H h state (record { state = one.state; ending = e; slipped = slipped })
  alone F H f h state one p e slipped rule = record {
    happened = p.happened;
    run = record p.run { ending = e; slipped = slipped };
    fits = λ rest.
        let x = p.fits rest in
        let w = rule (answers_at machine p.happened state ++ rest) x.0 in
        (w.0, w.1 ∙ x.1);
    used = p.used;
    ending = refl;
    slipped = refl;
    state = p.state;
  }

  itself : (F H : RunsOfPart) (f : EventsIn F) (h : EventsIn H) (state : State) (one : Done State) (p : Follows machine F f state one) →
      ((a : List ℕ) (x : F a p.run) → HasEvents H h a p.run (f a p.run x)) → Follows machine H h state one
  itself F H f h state one p rule = record {
    happened = p.happened;
    run = p.run;
    fits = λ rest.
        let x = p.fits rest in
        let w = rule (answers_at machine p.happened state ++ rest) x.0 in
        (w.0, w.1 ∙ x.1);
    used = p.used;
    ending = p.ending;
    slipped = p.slipped;
    state = p.state;
  }

  -- an answer, and then a part
  asked_first : (F H : RunsOfPart) (f : EventsIn F) (h : EventsIn H) (state : State) (one : Done State) (handle x : ℕ) → machine.answer handle state ≡ x → (p : Follows machine F f state one) →
      ((a : List ℕ) (y : F a p.run) → HasEvents H h (x ∷ a) (answered p.run) (branched handle ∷ f a p.run y)) → Follows machine H h state one
  asked_first F H f h state one handle x is p rule = record {
    happened = branched handle ∷ p.happened;
    run = answered p.run;
    fits = λ rest.
        let a : List ℕ = answers_at machine p.happened state ++ rest in
        let y = p.fits rest in
        let w = rule a y.0 in
        subst (λ z. HasEvents H h (z ∷ a) (answered p.run) (branched handle ∷ p.happened)) (sym is) (w.0, w.1 ∙ ap (λ ys. branched handle ∷ ys) y.1);
    used = ap suc p.used;
    ending = p.ending;
    slipped = p.slipped;
    state = p.state;
  }

  -- ---- the events of each part

  abbrev of_block : (n : ℕ) (block : Tree) → EventsIn (BlockRuns n block)
  of_block n block answers run d = events d

  abbrev of_node : (n : ℕ) (node : Node) → EventsIn (StatementRuns n node)
  of_node n node answers run d = events_of_statement d

  abbrev of_cases : (n : ℕ) (cases : Cases) → EventsIn (CasesRun n cases)
  of_cases n cases answers run d = events_of_cases d

  abbrev of_loop : (n k : ℕ) (body continuing : Tree) (break_if : Option ℕ) → EventsIn (LoopRuns n k body continuing break_if)
  of_loop n k body continuing break_if answers run d = events_of_loop d

  abbrev of_turn : (n : ℕ) (body continuing : Tree) (break_if : Option ℕ) → EventsIn (TurnRuns n body continuing break_if)
  of_turn n body continuing break_if answers run d = events_of_turn d

  abbrev of_asking : (break_if : Option ℕ) → EventsIn (Asks break_if)
  of_asking break_if answers run d = events_of_asking d

  -- ---- parts of blocks

  block-then : (n : ℕ) (front : Tree) (last : Node) (span : Span) (state : State) (one : Done State) → Follows machine (BlockRuns n front) (of_block n front) state one →
      ((s : State) → Follows machine (StatementRuns n last) (of_node n last) s (node_does machine n last s)) → (e : Ending) → one.ending ≡ e →
      Follows machine (BlockRuns n (push front last span)) (of_block n (push front last span)) state (by_way (in_block e) one (node_does machine n last))
  block-then n front last span state one p next Normal is =
      in_order (BlockRuns n front) (StatementRuns n last) (BlockRuns n (push front last span)) (of_block n front) (of_node n last) (of_block n (push front last span)) state one (node_does machine n last one.state) p (next one.state)
      (λ a x y. (goes_on x (p.ending ∙ is) y, refl))
  block-then n front last span state one p next _ is =
      itself (BlockRuns n front) (BlockRuns n (push front last span)) (of_block n front) (of_block n (push front last span)) state one p
      (λ a x. (stops x (λ q. let clash = sym q ∙ p.ending ∙ is in cc), refl))

  case-then : (n : ℕ) (value : SwitchValue) (body : Tree) (others : Cases) (state : State) (one : Done State) → Follows machine (BlockRuns n body) (of_block n body) state one →
      ((s : State) → Follows machine (CasesRun n others) (of_cases n others) s (cases_do machine n others 0 s)) → (through : Bool) (e : Ending) → one.ending ≡ e →
      Follows machine (CasesRun n (case value body through others)) (of_cases n (case value body through others)) state (by_way (in_case through e) one (cases_do machine n others 0))
  case-then n value body others state one p next true Normal is =
      in_order (BlockRuns n body) (CasesRun n others) (CasesRun n (case value body true others)) (of_block n body) (of_cases n others) (of_cases n (case value body true others)) state one (cases_do machine n others 0 one.state) p (next one.state)
      (λ a x y. (falls x (p.ending ∙ is) y, refl))
  case-then n value body others state one p next true Break is =
      alone (BlockRuns n body) (CasesRun n (case value body true others)) (of_block n body) (of_cases n (case value body true others)) state one p Normal true
      (λ a x. (broken x (p.ending ∙ is), refl))
  case-then n value body others state one p next true _ is =
      itself (BlockRuns n body) (CasesRun n (case value body true others)) (of_block n body) (of_cases n (case value body true others)) state one p
      (λ a x. (passed_on x (λ q. let clash = sym q ∙ p.ending ∙ is in cc) (λ q. let clash = sym q ∙ p.ending ∙ is in cc), refl))
  case-then n value body others state one p next false Break is =
      alone (BlockRuns n body) (CasesRun n (case value body false others)) (of_block n body) (of_cases n (case value body false others)) state one p Normal true
      (λ a x. (broken x (p.ending ∙ is), refl))
  case-then n value body others state one p next false _ is =
      itself (BlockRuns n body) (CasesRun n (case value body false others)) (of_block n body) (of_cases n (case value body false others)) state one p
      (λ a x. (ends x (λ q. let clash = sym q ∙ p.ending ∙ is in cc), refl))

  loop-then : (n k : ℕ) (body continuing : Tree) (break_if : Option ℕ) (turn : State → Done State) (state : State) (one : Done State) →
      Follows machine (TurnRuns n body continuing break_if) (of_turn n body continuing break_if) state one →
      ((s : State) → Follows machine (LoopRuns n k body continuing break_if) (of_loop n k body continuing break_if) s (turns_of k turn s)) → (e : Ending) → one.ending ≡ e →
      Follows machine (LoopRuns n (suc k) body continuing break_if) (of_loop n (suc k) body continuing break_if) state (by_way (in_loop e) one (turns_of k turn))
  loop-then n k body continuing break_if turn state one p next Normal is =
      in_order (TurnRuns n body continuing break_if) (LoopRuns n k body continuing break_if) (LoopRuns n (suc k) body continuing break_if) (of_turn n body continuing break_if) (of_loop n k body continuing break_if) (of_loop n (suc k) body continuing break_if)
      state one (turns_of k turn one.state) p (next one.state) (λ a x y. (again x (p.ending ∙ is) y, refl))
  loop-then n k body continuing break_if turn state one p next Break is =
      alone (TurnRuns n body continuing break_if) (LoopRuns n (suc k) body continuing break_if) (of_turn n body continuing break_if) (of_loop n (suc k) body continuing break_if) state one p Normal false
      (λ a x. (left x (p.ending ∙ is), refl))
  loop-then n k body continuing break_if turn state one p next _ is =
      itself (TurnRuns n body continuing break_if) (LoopRuns n (suc k) body continuing break_if) (of_turn n body continuing break_if) (of_loop n (suc k) body continuing break_if) state one p
      (λ a x. (over x (λ q. let clash = sym q ∙ p.ending ∙ is in cc) (λ q. let clash = sym q ∙ p.ending ∙ is in cc), refl))

  -- an answer alone
  answer_only : (H : RunsOfPart) (h : EventsIn H) (handle x : ℕ) (e : Ending) (state : State) → machine.answer handle state ≡ x →
      ((a : List ℕ) → HasEvents H h (x ∷ a) (answered (quiet e)) (branched handle ∷ [])) → Follows machine H h state (done e state)
  unfolding quietly
  answer_only H h handle x e state is rule =
      asked_first (λ a run. Unit {0}) H (λ a run d. []) h state (done e state) handle x is
      (quietly (λ a run. Unit {0}) (λ a run d. []) e false state (λ a. (tt, refl))) (λ a y. rule a)

  breaks_if-follows : (break_if : Option ℕ) (state : State) → Follows machine (Asks break_if) (of_asking break_if) state (breaks_if machine break_if state)
  breaks_if-follows None state = quietly (Asks None) (of_asking None) Normal false state (λ a. (not_asked, refl))
  breaks_if-follows (Some condition) state = go (machine.answer condition state) refl
    where
      go : (x : ℕ) → machine.answer condition state ≡ x → Follows machine (Asks (Some condition)) (of_asking (Some condition)) state (done (choose x Normal Break) state)
      go zero is = answer_only (Asks (Some condition)) (of_asking (Some condition)) condition zero Normal state is (λ a. (says_no, refl))
      go (suc x) is = answer_only (Asks (Some condition)) (of_asking (Some condition)) condition (suc x) Break state is (λ a. (says_yes, refl))

  -- ---- turns

  rest-then : (n : ℕ) (continuing : Tree) (break_if : Option ℕ) (state : State) (one : Done State) → Follows machine (BlockRuns n continuing) (of_block n continuing) state one →
      (e : Ending) → one.ending ≡ e → Follows machine (RestRuns n continuing break_if) (of_rest n continuing break_if) state (by_way (in_turn e) one (breaks_if machine break_if))
  rest-then n continuing break_if state one p Normal is =
      in_order (BlockRuns n continuing) (Asks break_if) (RestRuns n continuing break_if) (of_block n continuing) (of_asking break_if) (of_rest n continuing break_if) state one (breaks_if machine break_if one.state) p (breaks_if-follows break_if one.state)
      (λ a x y. (asks_then x (inl (p.ending ∙ is)) y, refl))
  rest-then n continuing break_if state one p Continue is =
      in_order (BlockRuns n continuing) (Asks break_if) (RestRuns n continuing break_if) (of_block n continuing) (of_asking break_if) (of_rest n continuing break_if) state one (breaks_if machine break_if one.state) p (breaks_if-follows break_if one.state)
      (λ a x y. (asks_then x (inr (p.ending ∙ is)) y, refl))
  rest-then n continuing break_if state one p _ is =
      itself (BlockRuns n continuing) (RestRuns n continuing break_if) (of_block n continuing) (of_rest n continuing break_if) state one p
      (λ a x. (stops_there x (λ g. elim g [ inl q ↦ let clash = sym q ∙ p.ending ∙ is in absurd cc | inr q ↦ let clash = sym q ∙ p.ending ∙ is in absurd cc ]), refl))

  turn-then : (n : ℕ) (body continuing : Tree) (break_if : Option ℕ) (state : State) (one : Done State) → Follows machine (BlockRuns n body) (of_block n body) state one →
      (next : State → Done State) → ((s : State) → Follows machine (RestRuns n continuing break_if) (of_rest n continuing break_if) s (next s)) → (e : Ending) → one.ending ≡ e →
      Follows machine (TurnRuns n body continuing break_if) (of_turn n body continuing break_if) state (by_way (in_turn e) one next)
  turn-then n body continuing break_if state one p next q Normal is =
      in_order (BlockRuns n body) (RestRuns n continuing break_if) (TurnRuns n body continuing break_if) (of_block n body) (of_rest n continuing break_if) (of_turn n body continuing break_if) state one (next one.state) p (q one.state)
      (λ a x y. turn-joined x (inl (p.ending ∙ is)) y)
  turn-then n body continuing break_if state one p next q Continue is =
      in_order (BlockRuns n body) (RestRuns n continuing break_if) (TurnRuns n body continuing break_if) (of_block n body) (of_rest n continuing break_if) (of_turn n body continuing break_if) state one (next one.state) p (q one.state)
      (λ a x y. turn-joined x (inr (p.ending ∙ is)) y)
  turn-then n body continuing break_if state one p next q _ is =
      itself (BlockRuns n body) (TurnRuns n body continuing break_if) (of_block n body) (of_turn n body continuing break_if) state one p
      (λ a x. (in_body x (λ g. elim g [ inl q ↦ let clash = sym q ∙ p.ending ∙ is in absurd cc | inr q ↦ let clash = sym q ∙ p.ending ∙ is in absurd cc ]), refl))

  turns-follow : (n k : ℕ) (body continuing : Tree) (break_if : Option ℕ) (turn : State → Done State) →
      ((s : State) → Follows machine (TurnRuns n body continuing break_if) (of_turn n body continuing break_if) s (turn s)) → (state : State) →
      Follows machine (LoopRuns n k body continuing break_if) (of_loop n k body continuing break_if) state (turns_of k turn state)
  turns-follow n zero body continuing break_if turn h state =
      quietly (LoopRuns n zero body continuing break_if) (of_loop n zero body continuing break_if) Cut false state (λ a. (no_turn, refl))
  turns-follow n (suc k) body continuing break_if turn h state =
      let one : Done State = turn state in
      loop-then n k body continuing break_if turn state one (h state) (turns-follow n k body continuing break_if turn h) one.ending refl

  -- ---- blocks

  -- on a machine on which no statement ends a run
  module _ (never : NeverStops machine) where
    mutual
      pub does-follows : (n : ℕ) (block : Tree) (state : State) → Follows machine (BlockRuns n block) (of_block n block) state (does machine n block state)
      does-follows n empty state = quietly (BlockRuns n empty) (of_block n empty) Normal false state (λ a. (nothing, refl))
      does-follows n (push front last span) state =
          let one : Done State = does machine n front state in
          block-then n front last span state one (does-follows n front state) (node-follows n last) one.ending refl

      node-follows : (n : ℕ) (node : Node) (state : State) → Follows machine (StatementRuns n node) (of_node n node) state (node_does machine n node state)
      node-follows n (plain what) state = record {
        happened = met what ∷ [];
        run = meeting what;
        fits = λ rest. (meets, refl);
        used = refl;
        ending = sym (ap ending_after (never what state));
        slipped = refl;
        state = refl;
      }
      node-follows n (nested inner) state =
          itself (BlockRuns n inner) (StatementRuns n (nested inner)) (of_block n inner) (of_node n (nested inner)) state (does machine n inner state) (does-follows n inner state) (λ a x. (enters x, refl))
      node-follows n (branch condition accept reject) state =
          go (machine.answer condition state) refl (does-follows n accept state) (does-follows n reject state)
        where
          go : (x : ℕ) → machine.answer condition state ≡ x → Follows machine (BlockRuns n accept) (of_block n accept) state (does machine n accept state) →
              Follows machine (BlockRuns n reject) (of_block n reject) state (does machine n reject state) →
              Follows machine (StatementRuns n (branch condition accept reject)) (of_node n (branch condition accept reject)) state (choose x (does machine n reject) (does machine n accept) state)
          go zero is at_yes at_no =
              asked_first (BlockRuns n reject) (StatementRuns n (branch condition accept reject)) (of_block n reject) (of_node n (branch condition accept reject)) state (does machine n reject state) condition zero is at_no (λ a y. (rejects y, refl))
          go (suc x) is at_yes at_no =
              asked_first (BlockRuns n accept) (StatementRuns n (branch condition accept reject)) (of_block n accept) (of_node n (branch condition accept reject)) state (does machine n accept state) condition (suc x) is at_yes (λ a y. (accepts y, refl))
      node-follows n (switch selector cases) state =
          let x : ℕ = machine.choice selector (values cases) state in
          let after_all = cases-follow n cases (entered (values cases) x) state in
          record {
            happened = selected selector (values cases) ∷ after_all.happened;
            run = answered after_all.run;
            fits = λ rest. let y = after_all.fits rest in (selects y.0, ap (λ ys. selected selector (values cases) ∷ ys) y.1);
            used = ap suc after_all.used;
            ending = after_all.ending;
            slipped = after_all.slipped;
            state = after_all.state;
          }
      node-follows n (loop body continuing break_if) state =
          let turn : State → Done State = turn_of machine (does machine n body) (does machine n continuing) break_if in
          let turn_follows : (s : State) → Follows machine (TurnRuns n body continuing break_if) (of_turn n body continuing break_if) s (turn s) =
          λ s.
          let one : Done State = does machine n body s in
          turn-then n body continuing break_if s one (does-follows n body s) (λ m. then_by in_turn (does machine n continuing m) (breaks_if machine break_if))
          (λ m. let two : Done State = does machine n continuing m in rest-then n continuing break_if m two (does-follows n continuing m) two.ending refl) one.ending refl
          in
          itself (LoopRuns n n body continuing break_if) (StatementRuns n (loop body continuing break_if)) (of_loop n n body continuing break_if) (of_node n (loop body continuing break_if)) state (turns_of n turn state)
          (turns-follow n n body continuing break_if turn turn_follows state) (λ a x. (loops x, refl))
      node-follows n (jump break) state = quietly (StatementRuns n (jump break)) (of_node n (jump break)) Break false state (λ a. (jumps, refl))
      node-follows n (jump continue) state = quietly (StatementRuns n (jump continue)) (of_node n (jump continue)) Continue false state (λ a. (jumps, refl))
      node-follows n (jump kill) state = quietly (StatementRuns n (jump kill)) (of_node n (jump kill)) Kill false state (λ a. (jumps, refl))
      node-follows n (jump (return None)) state = quietly (StatementRuns n (jump (return None))) (of_node n (jump (return None))) (Return None) false state (λ a. (jumps, refl))
      node-follows n (jump (return (Some handle))) state = record {
        happened = returned handle ∷ [];
        run = quiet (Return (Some handle));
        fits = λ rest. (jumps, refl);
        used = refl;
        ending = refl;
        slipped = refl;
        state = refl;
      }

      cases-follow : (n : ℕ) (cases : Cases) (k : ℕ) (state : State) → Follows machine (CasesRun n (from k cases)) (of_cases n (from k cases)) state (cases_do machine n cases k state)
      cases-follow n no_cases zero state = quietly (CasesRun n no_cases) (of_cases n no_cases) Normal true state (λ a. (past, refl))
      cases-follow n no_cases (suc k) state = quietly (CasesRun n no_cases) (of_cases n no_cases) Normal true state (λ a. (past, refl))
      cases-follow n (case value body through others) zero state =
          let one : Done State = does machine n body state in
          case-then n value body others state one (does-follows n body state) (cases-follow n others 0) through one.ending refl
      cases-follow n (case value body through others) (suc k) state = cases-follow n others k state

    pub does-IsARun : (turns : ℕ) (block : Tree) (state : State) → IsARun machine turns block state (does machine turns block state)
    does-IsARun turns block state = does-follows turns block state
