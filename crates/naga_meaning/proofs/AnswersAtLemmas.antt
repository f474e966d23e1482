-- A run that reads the answers that the machine gives at its events is what the block does on the machine.
use Rattle.std.proofs.Common.{◌≡◌, ◌≢◌, ◌∙◌, sym, ap, refl, inl, inr, ℕ, zero, suc, ◌+◌, Bool, true, false, List, [], ◌∷◌, ◌++◌, drop, length, Option, Some, None, append_assoc}
use Rattle.std.proofs.lemmas.List.{append-nil, drop_at, length-append}
use Rattle.naga_ir.specs.Tree.{Tree, Node, Cases, no_cases, case, break, continue, kill, return}
use Rattle.naga_runs.specs.Runs.{Run, joined, GoesOn, values, entered, from, Asks, not_asked, unanswered, says_no, says_yes}
use Rattle.naga_runs.specs.Runs.{BlockRuns, nothing, goes_on, stops, StatementRuns, meets, jumps, enters, undecided, rejects, accepts, unselected, selects, loops}
use Rattle.naga_runs.specs.Runs.{CasesRun, past, falls, broken, ends, passed_on, LoopRuns, no_turn, again, left, over, TurnRuns, in_body, in_continuing, whole}
use Rattle.naga_runs.specs.declared.run.Ending.{Ending}
use Rattle.naga_runs.specs.declared.run.Ending.TheVariants.{Normal, Break, Continue}
use Rattle.naga_flow.specs.Events.{Event, events, events_of_statement, events_of_cases, events_of_loop, events_of_turn, events_of_asking}
use Rattle.naga_meaning.specs.Adequacy.{NeverStops, after, answers_at}
use Rattle.naga_meaning.specs.Machine.{Machine, Done, done, ending_after, Way, by_way, then_by, choose, turns_of, breaks_if, turn_of, does, node_does, cases_do}
use Rattle.naga_meaning.specs.Machine as way
use Rattle.naga_meaning.proofs.IsARunLemmas.{after-append, answers_at-append}

-- ---- ways

block-stays : (e : Ending) → e ≢ Normal → way.in_block e ≡ way.stays
block-stays Normal h = absurd (h refl)
block-stays _ h = refl

turn-on : (e : Ending) → GoesOn e → way.in_turn e ≡ way.goes_on
turn-on e (inl p) = ap way.in_turn p
turn-on e (inr p) = ap way.in_turn p

turn-stays : (e : Ending) → (GoesOn e → ⊥) → way.in_turn e ≡ way.stays
turn-stays Normal h = absurd (h (inl refl))
turn-stays Continue h = absurd (h (inr refl))
turn-stays _ h = refl

loop-stays : (e : Ending) → e ≢ Break → e ≢ Normal → way.in_loop e ≡ way.stays
loop-stays Normal h k = absurd (k refl)
loop-stays Break h k = absurd (h refl)
loop-stays _ h k = refl

case-broken : (through : Bool) (e : Ending) → e ≡ Break → way.in_case through e ≡ way.leaves true
case-broken true e p = ap (way.in_case true) p
case-broken false e p = ap (way.in_case false) p

case-ends : (e : Ending) → e ≢ Break → way.in_case false e ≡ way.stays
case-ends Break h = absurd (h refl)
case-ends _ h = refl

case-passed_on : (e : Ending) → e ≢ Break → e ≢ Normal → way.in_case true e ≡ way.stays
case-passed_on Break h k = absurd (h refl)
case-passed_on Normal h k = absurd (k refl)
case-passed_on _ h k = refl

-- ---- lists

abbrev first_of : List ℕ → ℕ
first_of [] = 0
first_of (x ∷ xs) = x

abbrev rest_of : List ℕ → List ℕ
rest_of [] = []
rest_of (x ∷ xs) = xs

module _ {State : Type 0} (machine : Machine State) where
  -- what is left by a part that had this run
  abbrev left_by : State → Run → List Event → Done State
  left_by s run happened = record { state = after machine happened s; ending = run.ending; slipped = run.slipped }

  -- this is left by a part that had this run, which read the answers that the machine gave
  record IsLeftBy (s : State) (run : Run) (happened : List Event) (left : Done State) : Type 0 where
    used : run.used ≡ length (answers_at machine happened s)
    same : left ≡ left_by s run happened

  then-on : (w : Ending → Way) (one : Done State) (s : State) (run : Run) (happened : List Event) (next : State → Done State) → one ≡ left_by s run happened → w run.ending ≡ way.goes_on →
      then_by w one next ≡ next (after machine happened s)
  then-on w one s run happened next p q = ap (λ x. then_by w x next) p ∙ ap (λ v. by_way v (left_by s run happened) next) q

  then-stays : (w : Ending → Way) (one : Done State) (s : State) (run : Run) (happened : List Event) (next : State → Done State) → one ≡ left_by s run happened → w run.ending ≡ way.stays →
      then_by w one next ≡ left_by s run happened
  then-stays w one s run happened next p q = ap (λ x. then_by w x next) p ∙ ap (λ v. by_way v (left_by s run happened) next) q

  then-leaves : (w : Ending → Way) (slipped : Bool) (one : Done State) (s : State) (run : Run) (happened : List Event) (next : State → Done State) → one ≡ left_by s run happened → w run.ending ≡ way.leaves slipped →
      then_by w one next ≡ record { state = after machine happened s; ending = Normal; slipped = slipped }
  then-leaves w slipped one s run happened next p q = ap (λ x. then_by w x next) p ∙ ap (λ v. by_way v (left_by s run happened) next) q

  -- ---- one part after another

  before-both : (xs ys : List Event) (s : State) (answers rest : List ℕ) → answers ≡ answers_at machine (xs ++ ys) s ++ rest → answers ≡ answers_at machine xs s ++ (answers_at machine ys (after machine xs s) ++ rest)
  before-both xs ys s answers rest h =
      h ∙ ap (λ a. a ++ rest) (answers_at-append machine xs ys s) ∙ append_assoc (answers_at machine xs s) (answers_at machine ys (after machine xs s)) rest

  after-first : (xs ys : List Event) (s : State) (answers rest : List ℕ) (n : ℕ) → answers ≡ answers_at machine (xs ++ ys) s ++ rest → n ≡ length (answers_at machine xs s) →
      drop n answers ≡ answers_at machine ys (after machine xs s) ++ rest
  after-first xs ys s answers rest n h p =
      ap (drop n) (before-both xs ys s answers rest h) ∙ drop_at (answers_at machine xs s) (answers_at machine ys (after machine xs s) ++ rest) n (sym p)

  left-joined : (xs ys : List Event) (s : State) (first second : Run) (one two : Done State) → first.used ≡ length (answers_at machine xs s) → IsLeftBy (after machine xs s) second ys one → two ≡ one →
      IsLeftBy s (joined first second) (xs ++ ys) two
  left-joined xs ys s first second one two p q is = record {
    used = (λ i. p i + q.used i) ∙ sym (length-append (answers_at machine xs s) (answers_at machine ys (after machine xs s))) ∙ ap length (sym (answers_at-append machine xs ys s));
    same = is ∙ q.same ∙ (λ i. record { state = sym (after-append machine xs ys s) i; ending = second.ending; slipped = second.slipped });
  }

  cases_do-from : (n k : ℕ) (cases : Cases) (s : State) → cases_do machine n (from k cases) 0 s ≡ cases_do machine n cases k s
  cases_do-from n zero cases s = refl
  cases_do-from n (suc k) no_cases s = refl
  cases_do-from n (suc k) (case value body through others) s = cases_do-from n k others s

  asked-left : {break_if : Option ℕ} {answers : List ℕ} {run : Run} (d : Asks break_if answers run) (s : State) (rest : List ℕ) → answers ≡ answers_at machine (events_of_asking d) s ++ rest →
      IsLeftBy s run (events_of_asking d) (breaks_if machine break_if s)
  asked-left not_asked s rest h = record { used = refl; same = refl }
  asked-left unanswered s rest h = absurd (cc)
  asked-left (says_no {condition = condition}) s rest h = record { used = refl; same = ap (λ x. done (choose x Normal Break) s) (sym (ap first_of h)) }
  asked-left (says_yes {condition = condition}) s rest h = record { used = refl; same = ap (λ x. done (choose x Normal Break) s) (sym (ap first_of h)) }

  -- on a machine on which no statement ends a run
  module _ (never : NeverStops machine) where
    mutual
      block-left : {n : ℕ} {b : Tree} {answers : List ℕ} {run : Run} (d : BlockRuns n b answers run) (s : State) (rest : List ℕ) → answers ≡ answers_at machine (events d) s ++ rest →
          IsLeftBy s run (events d) (does machine n b s)
      block-left nothing s rest h = record { used = refl; same = refl }
      block-left {n = n} (goes_on {front = front} {last = last} {answers = answers} {first = first} {second = second} d e k) s rest h =
          let xs = events d in
          let ys = events_of_statement k in
          let p : IsLeftBy s first xs (does machine n front s) = block-left d s _ (before-both xs ys s answers rest h) in
          let q : IsLeftBy (after machine xs s) second ys (node_does machine n last (after machine xs s)) = node-left k (after machine xs s) rest (after-first xs ys s answers rest first.used h p.used) in
          left-joined xs ys s first second (node_does machine n last (after machine xs s)) _ p.used q
          (then-on way.in_block (does machine n front s) s first xs (node_does machine n last) p.same (ap way.in_block e))
      block-left {n = n} (stops {front = front} {last = last} {run = run} d e) s rest h =
          let p : IsLeftBy s run (events d) (does machine n front s) = block-left d s rest h in
          record { used = p.used; same = then-stays way.in_block (does machine n front s) s run (events d) (node_does machine n last) p.same (block-stays run.ending e) }

      node-left : {n : ℕ} {node : Node} {answers : List ℕ} {run : Run} (d : StatementRuns n node answers run) (s : State) (rest : List ℕ) → answers ≡ answers_at machine (events_of_statement d) s ++ rest →
          IsLeftBy s run (events_of_statement d) (node_does machine n node s)
      node-left (meets {what = what}) s rest h = record { used = refl; same = ap (λ stop. done (ending_after stop) (machine.perform what s)) (never what s) }
      node-left (jumps {to = break}) s rest h = record { used = refl; same = refl }
      node-left (jumps {to = continue}) s rest h = record { used = refl; same = refl }
      node-left (jumps {to = kill}) s rest h = record { used = refl; same = refl }
      node-left (jumps {to = return None}) s rest h = record { used = refl; same = refl }
      node-left (jumps {to = return (Some value)}) s rest h = record { used = refl; same = refl }
      node-left (enters d) s rest h = block-left d s rest h
      node-left undecided s rest h = absurd (cc)
      node-left {n = n} (rejects {accept = accept} {reject = reject} {run = run} d) s rest h =
          let p : IsLeftBy s run (events d) (does machine n reject s) = block-left d s rest (ap rest_of h) in
          record { used = ap suc p.used; same = ap (λ x. choose {A = State → Done State} x (does machine n reject) (does machine n accept) s) (sym (ap first_of h)) ∙ p.same }
      node-left {n = n} (accepts {accept = accept} {reject = reject} {run = run} d) s rest h =
          let p : IsLeftBy s run (events d) (does machine n accept s) = block-left d s rest (ap rest_of h) in
          record { used = ap suc p.used; same = ap (λ x. choose {A = State → Done State} x (does machine n reject) (does machine n accept) s) (sym (ap first_of h)) ∙ p.same }
      node-left unselected s rest h = absurd (cc)
      node-left {n = n} (selects {answer = answer} {cases = cases} {run = run} d) s rest h =
          let p : IsLeftBy s run (events_of_cases d) (cases_do machine n (from (entered (values cases) answer) cases) 0 s) = cases-left d s rest (ap rest_of h) in
          record {
            used = ap suc p.used;
            same = ap (λ x. cases_do machine n cases (entered (values cases) x) s) (sym (ap first_of h)) ∙ sym (cases_do-from n (entered (values cases) answer) cases s) ∙ p.same;
          }
      node-left (loops d) s rest h = loop-left d s rest h

      cases-left : {n : ℕ} {cases : Cases} {answers : List ℕ} {run : Run} (d : CasesRun n cases answers run) (s : State) (rest : List ℕ) → answers ≡ answers_at machine (events_of_cases d) s ++ rest →
          IsLeftBy s run (events_of_cases d) (cases_do machine n cases 0 s)
      cases-left past s rest h = record { used = refl; same = refl }
      cases-left {n = n} (falls {body = body} {others = others} {answers = answers} {first = first} {second = second} d e k) s rest h =
          let xs = events d in
          let ys = events_of_cases k in
          let p : IsLeftBy s first xs (does machine n body s) = block-left d s _ (before-both xs ys s answers rest h) in
          let q : IsLeftBy (after machine xs s) second ys (cases_do machine n others 0 (after machine xs s)) = cases-left k (after machine xs s) rest (after-first xs ys s answers rest first.used h p.used) in
          left-joined xs ys s first second (cases_do machine n others 0 (after machine xs s)) _ p.used q
          (then-on (way.in_case true) (does machine n body s) s first xs (cases_do machine n others 0) p.same (ap (way.in_case true) e))
      cases-left {n = n} (broken {body = body} {falls_through = through} {others = others} {run = run} d e) s rest h =
          let p : IsLeftBy s run (events d) (does machine n body s) = block-left d s rest h in
          record { used = p.used; same = then-leaves (way.in_case through) true (does machine n body s) s run (events d) (cases_do machine n others 0) p.same (case-broken through run.ending e) }
      cases-left {n = n} (ends {body = body} {others = others} {run = run} d e) s rest h =
          let p : IsLeftBy s run (events d) (does machine n body s) = block-left d s rest h in
          record { used = p.used; same = then-stays (way.in_case false) (does machine n body s) s run (events d) (cases_do machine n others 0) p.same (case-ends run.ending e) }
      cases-left {n = n} (passed_on {body = body} {others = others} {run = run} d e k) s rest h =
          let p : IsLeftBy s run (events d) (does machine n body s) = block-left d s rest h in
          record { used = p.used; same = then-stays (way.in_case true) (does machine n body s) s run (events d) (cases_do machine n others 0) p.same (case-passed_on run.ending e k) }

      loop-left : {n k : ℕ} {body continuing : Tree} {break_if : Option ℕ} {answers : List ℕ} {run : Run} (d : LoopRuns n k body continuing break_if answers run) (s : State) (rest : List ℕ) →
          answers ≡ answers_at machine (events_of_loop d) s ++ rest →
          IsLeftBy s run (events_of_loop d) (turns_of k (turn_of machine (does machine n body) (does machine n continuing) break_if) s)
      loop-left no_turn s rest h = record { used = refl; same = refl }
      loop-left {n = n} (again {others = k} {body = body} {continuing = continuing} {break_if = break_if} {answers = answers} {first = first} {second = second} d e l) s rest h =
          let xs = events_of_turn d in
          let ys = events_of_loop l in
          let turn : State → Done State = turn_of machine (does machine n body) (does machine n continuing) break_if in
          let p : IsLeftBy s first xs (turn s) = turn-left d s _ (before-both xs ys s answers rest h) in
          let q : IsLeftBy (after machine xs s) second ys (turns_of k turn (after machine xs s)) = loop-left l (after machine xs s) rest (after-first xs ys s answers rest first.used h p.used) in
          left-joined xs ys s first second (turns_of k turn (after machine xs s)) _ p.used q
          (then-on way.in_loop (turn s) s first xs (turns_of k turn) p.same (ap way.in_loop e))
      loop-left {n = n} (left {others = k} {body = body} {continuing = continuing} {break_if = break_if} {run = run} d e) s rest h =
          let turn : State → Done State = turn_of machine (does machine n body) (does machine n continuing) break_if in
          let p : IsLeftBy s run (events_of_turn d) (turn s) = turn-left d s rest h in
          record { used = p.used; same = then-leaves way.in_loop false (turn s) s run (events_of_turn d) (turns_of k turn) p.same (ap way.in_loop e) }
      loop-left {n = n} (over {others = k} {body = body} {continuing = continuing} {break_if = break_if} {run = run} d e l) s rest h =
          let turn : State → Done State = turn_of machine (does machine n body) (does machine n continuing) break_if in
          let p : IsLeftBy s run (events_of_turn d) (turn s) = turn-left d s rest h in
          record { used = p.used; same = then-stays way.in_loop (turn s) s run (events_of_turn d) (turns_of k turn) p.same (loop-stays run.ending e l) }

      turn-left : {n : ℕ} {body continuing : Tree} {break_if : Option ℕ} {answers : List ℕ} {run : Run} (d : TurnRuns n body continuing break_if answers run) (s : State) (rest : List ℕ) →
          answers ≡ answers_at machine (events_of_turn d) s ++ rest →
          IsLeftBy s run (events_of_turn d) (turn_of machine (does machine n body) (does machine n continuing) break_if s)
      turn-left {n = n} (in_body {body = body} {continuing = continuing} {break_if = break_if} {run = run} d e) s rest h =
          let p : IsLeftBy s run (events d) (does machine n body s) = block-left d s rest h in
          record { used = p.used; same = then-stays way.in_turn (does machine n body s) s run (events d) (λ m. then_by way.in_turn (does machine n continuing m) (breaks_if machine break_if)) p.same (turn-stays run.ending e) }
      turn-left {n = n} (in_continuing {body = body} {continuing = continuing} {break_if = break_if} {answers = answers} {first = first} {second = second} d e k l) s rest h =
          let xs = events d in
          let ys = events k in
          let next : State → Done State = λ m. then_by way.in_turn (does machine n continuing m) (breaks_if machine break_if) in
          let middle : State = after machine xs s in
          let p : IsLeftBy s first xs (does machine n body s) = block-left d s _ (before-both xs ys s answers rest h) in
          let q : IsLeftBy middle second ys (does machine n continuing middle) = block-left k middle rest (after-first xs ys s answers rest first.used h p.used) in
          left-joined xs ys s first second (next middle) _ p.used
          (record { used = q.used; same = then-stays way.in_turn (does machine n continuing middle) middle second ys (breaks_if machine break_if) q.same (turn-stays second.ending l) })
          (then-on way.in_turn (does machine n body s) s first xs next p.same (turn-on first.ending e))
      turn-left {n = n} (whole {body = body} {continuing = continuing} {break_if = break_if} {answers = answers} {first = first} {second = second} {third = third} d e k l t) s rest h =
          let xs = events d in
          let ys = events k in
          let zs = events_of_asking t in
          let next : State → Done State = λ m. then_by way.in_turn (does machine n continuing m) (breaks_if machine break_if) in
          let middle : State = after machine xs s in
          let late : State = after machine ys middle in
          let p : IsLeftBy s first xs (does machine n body s) = block-left d s _ (before-both xs (ys ++ zs) s answers rest h) in
          let behind : drop first.used answers ≡ answers_at machine (ys ++ zs) middle ++ rest = after-first xs (ys ++ zs) s answers rest first.used h p.used in
          let q : IsLeftBy middle second ys (does machine n continuing middle) = block-left k middle _ (before-both ys zs middle (drop first.used answers) rest behind) in
          let r : IsLeftBy late third zs (breaks_if machine break_if late) = asked-left t late rest (after-first ys zs middle (drop first.used answers) rest second.used behind q.used) in
          left-joined xs (ys ++ zs) s first (joined second third) (next middle) _ p.used
          (left-joined ys zs middle second third (breaks_if machine break_if late) (next middle) q.used r
          (then-on way.in_turn (does machine n continuing middle) middle second ys (breaks_if machine break_if) q.same (turn-on second.ending l)))
          (then-on way.in_turn (does machine n body s) s first xs next p.same (turn-on first.ending e))

    pub only-run : (turns : ℕ) (block : Tree) (s : State) (answers : List ℕ) (run : Run) (d : BlockRuns turns block answers run) → answers ≡ answers_at machine (events d) s →
        does machine turns block s ≡ record { state = after machine (events d) s; ending = run.ending; slipped = run.slipped }
    only-run turns block s answers run d is = (block-left d s [] (is ∙ sym (append-nil (answers_at machine (events d) s)))).same
