-- What was done is a beginning of a run.
use Rattle.std.proofs.Common.{◌≡◌, ◌∙◌, sym, ap, subst, refl, inl, inr, ℕ, zero, suc, Bool, true, false, List, [], ◌∷◌, ◌++◌, map, Option, Some, None}
use Rattle.std.proofs.lemmas.List.{append-nil}
use Rattle.naga_ir.specs.Tree.{Tree, empty, push, Node, plain, nested, branch, switch, loop, jump, Cases, no_cases, case}
use Rattle.naga_ir.specs.declared.statement.Statement.{Statement}
use Rattle.naga_runs.specs.Runs.{BlockRuns, Run, ending_of, entered, values}
use Rattle.naga_runs.specs.declared.run.Ending.{Ending}
use Rattle.naga_runs.specs.declared.run.Ending.TheVariants.{Normal, Break, Cut}
use Rattle.naga_flow.specs.Events.{Event, met, branched, selected, returned, events}
use Rattle.naga_meaning.specs.Adequacy.{IsABeginning, NeverStops, NoneStops, after, answers_at, left_after, ended_by}
use Rattle.naga_meaning.specs.Machine.{Machine, Done, Stop, killed, cut_off, done, ending_after, Way, goes_on, stays, leaves, in_block, in_turn, in_loop, in_case, by_way, then_by, choose, turns_of, breaks_if, turn_of, does, node_does, cases_do}
use Rattle.naga_meaning.specs.Values.{Code, Interpretation, Parts, World, emit, machine, stopped, value}
use Rattle.naga_meaning.proofs.AnswersAtLemmas.{only-run}
use Rattle.naga_meaning.proofs.IsARunLemmas.{does-IsARun}

-- ---- machines on which no statement ends the run

module _ {Shape Action Value State : Type 0} (parts : Parts Action) (by : Interpretation Shape Action Value State) (code : Code Shape)
    (on : (action : Action) (values : List Value) (state : State) → by.stop action values state ≡ None) where
  stopped-never : (action : Option Action) (uses : List ℕ) (world : World Value State) → stopped by code action uses world ≡ None
  stopped-never None uses world = refl
  stopped-never (Some action) uses world = on action (map (value by code world) uses) world.state

  pub machine-never_stops : NeverStops (machine parts by code)
  machine-never_stops what world = stopped-never (parts.action what) (parts.uses what) (emit by code (parts.emits what) world)

-- ---- ways

-- after a part that ends the run nothing follows
abbrev IsLast : (Ending → Way) → Type 0
IsLast way = (how : Stop) → way (ending_after (Some how)) ≡ stays

block-last : IsLast in_block
block-last killed = refl
block-last cut_off = refl

turn-last : IsLast in_turn
turn-last killed = refl
turn-last cut_off = refl

loop-last : IsLast in_loop
loop-last killed = refl
loop-last cut_off = refl

case-last : (through : Bool) → IsLast (in_case through)
case-last true killed = refl
case-last true cut_off = refl
case-last false killed = refl
case-last false cut_off = refl

module _ {State : Type 0} (machine : Machine State) where
  -- ---- a machine that goes on where the other one stops, and remembers the first stop

  -- where and how a run was ended first, if it was
  abbrev pub Stopped : Type 0
  Stopped = Option (State × Stop)

  abbrev pub remembered : State → Option Stop → Stopped
  remembered state None = None
  remembered state (Some how) = Some (state, how)

  abbrev pub first_of : Stopped → Stopped → Stopped
  first_of None later = later
  first_of (Some stop) later = Some stop

  abbrev watching : Machine (State × Stopped)
  watching = record {
    perform = λ what w. (machine.perform what w.0, first_of w.1 (remembered (machine.perform what w.0) (machine.stop what w.0)));
    stop = λ what w. None;
    answer = λ handle w. machine.answer handle w.0;
    choice = λ handle vs w. machine.choice handle vs w.0;
  }

  -- what is left if the run is ended there, and this if it isn't
  abbrev pub halted : Stopped → Done State → Done State
  halted None left = left
  halted (Some stop) left = done (ending_after (Some stop.1)) stop.0

  abbrev seen : Done (State × Stopped) → Done State
  seen left = halted left.state.1 (record { state = left.state.0; ending = left.ending; slipped = left.slipped })

  -- the one machine leaves what is seen on the other, and a first stop stays the first
  abbrev Sees : Stopped → Done (State × Stopped) → Done State → Type 0
  Sees None left real = seen left ≡ real
  Sees (Some stop) left real = left.state.1 ≡ Some stop

  left-sees : (w : State × Stopped) (e : Ending) (slipped : Bool) → Sees w.1 (record { state = w; ending = e; slipped = slipped }) (record { state = w.0; ending = e; slipped = slipped })
  left-sees (s, None) e slipped = refl
  left-sees (s, Some stop) e slipped = refl

  then-sees : (way : Ending → Way) → IsLast way → (stop : Stopped) (left : Done (State × Stopped)) (real : Done State) → Sees stop left real →
      (next : State × Stopped → Done (State × Stopped)) (next' : State → Done State) → ((w : State × Stopped) → Sees w.1 (next w) (next' w.0)) →
      Sees stop (then_by way left next) (then_by way real next')
  then-sees way last (Some stop) left real h next next' k =
      kept (way left.ending)
    where
      kept : (v : Way) → (by_way v left next).state.1 ≡ Some stop
      kept goes_on = subst (λ o. Sees o (next left.state) (next' left.state.0)) h (k left.state)
      kept stays = h
      kept (leaves slipped) = h
  then-sees way last None left real h next next' k =
      first left.state left.ending left.slipped ∙ ap (λ x. then_by way x next') h
    where
      first : (w : State × Stopped) (e : Ending) (slipped : Bool) →
          let one : Done (State × Stopped) = record { state = w; ending = e; slipped = slipped } in
          seen (then_by way one next) ≡ then_by way (seen one) next'
      first (s, None) e slipped =
          on (way e)
        where
          on : (v : Way) → seen (by_way v (record { state = (s, None); ending = e; slipped = slipped }) next) ≡ by_way v (record { state = s; ending = e; slipped = slipped }) next'
          on goes_on = k (s, None)
          on stays = refl
          on (leaves out) = refl
      first (s, Some stop) e slipped =
          on (way e) ∙ sym (ap (λ v. by_way v (done (ending_after (Some stop.1)) stop.0) next') (last stop.1))
        where
          on : (v : Way) → seen (by_way v (record { state = (s, Some stop); ending = e; slipped = slipped }) next) ≡ done (ending_after (Some stop.1)) stop.0
          on goes_on =
              let two : Done (State × Stopped) = next (s, Some stop) in
              ap (λ o. halted o (record { state = two.state.0; ending = two.ending; slipped = two.slipped })) (k (s, Some stop))
          on stays = refl
          on (leaves out) = refl

  choose-sees : (stop : Stopped) (x : ℕ) (at_no at_yes : State × Stopped → Done (State × Stopped)) (at_no' at_yes' : State → Done State) (w : State × Stopped) →
      Sees stop (at_no w) (at_no' w.0) → Sees stop (at_yes w) (at_yes' w.0) → Sees stop (choose x at_no at_yes w) (choose x at_no' at_yes' w.0)
  choose-sees stop zero at_no at_yes at_no' at_yes' w h k = h
  choose-sees stop (suc x) at_no at_yes at_no' at_yes' w h k = k

  turns-sees : (n : ℕ) (turn : State × Stopped → Done (State × Stopped)) (turn' : State → Done State) → ((w : State × Stopped) → Sees w.1 (turn w) (turn' w.0)) →
      (w : State × Stopped) → Sees w.1 (turns_of n turn w) (turns_of n turn' w.0)
  turns-sees zero turn turn' h w = left-sees w Cut false
  turns-sees (suc n) turn turn' h w = then-sees in_loop loop-last w.1 (turn w) (turn' w.0) (h w) (turns_of n turn) (turns_of n turn') (turns-sees n turn turn' h)

  breaks_if-sees : (break_if : Option ℕ) (w : State × Stopped) → Sees w.1 (breaks_if watching break_if w) (breaks_if machine break_if w.0)
  breaks_if-sees None w = left-sees w Normal false
  breaks_if-sees (Some condition) w = left-sees w (choose (machine.answer condition w.0) Normal Break) false

  turn-sees : (body continuing : State × Stopped → Done (State × Stopped)) (body' continuing' : State → Done State) → ((w : State × Stopped) → Sees w.1 (body w) (body' w.0)) →
      ((w : State × Stopped) → Sees w.1 (continuing w) (continuing' w.0)) → (break_if : Option ℕ) (w : State × Stopped) →
      Sees w.1 (turn_of watching body continuing break_if w) (turn_of machine body' continuing' break_if w.0)
  turn-sees body continuing body' continuing' h k break_if w =
      then-sees in_turn turn-last w.1 (body w) (body' w.0) (h w) (λ m. then_by in_turn (continuing m) (breaks_if watching break_if)) (λ m. then_by in_turn (continuing' m) (breaks_if machine break_if))
      (λ m. then-sees in_turn turn-last m.1 (continuing m) (continuing' m.0) (k m) (breaks_if watching break_if) (breaks_if machine break_if) (breaks_if-sees break_if))

  met-sees : (s : State) (stop : Option Stop) → seen (done Normal (s, remembered s stop)) ≡ done (ending_after stop) s
  met-sees s None = refl
  met-sees s (Some how) = refl

  mutual
    does-sees : (n : ℕ) (block : Tree) (w : State × Stopped) → Sees w.1 (does watching n block w) (does machine n block w.0)
    does-sees n empty w = left-sees w Normal false
    does-sees n (push front last span) w =
        then-sees in_block block-last w.1 (does watching n front w) (does machine n front w.0) (does-sees n front w) (node_does watching n last) (node_does machine n last) (node-sees n last)

    node-sees : (n : ℕ) (node : Node) (w : State × Stopped) → Sees w.1 (node_does watching n node w) (node_does machine n node w.0)
    node-sees n (plain what) (s, None) = met-sees (machine.perform what s) (machine.stop what s)
    node-sees n (plain what) (s, Some stop) = refl
    node-sees n (nested inner) w = does-sees n inner w
    node-sees n (branch condition accept reject) w =
        choose-sees w.1 (machine.answer condition w.0) (does watching n reject) (does watching n accept) (does machine n reject) (does machine n accept) w (does-sees n reject w) (does-sees n accept w)
    node-sees n (switch selector cases) w = cases-see n cases (entered (values cases) (machine.choice selector (values cases) w.0)) w
    node-sees n (loop body continuing break_if) w =
        turns-sees n (turn_of watching (does watching n body) (does watching n continuing) break_if) (turn_of machine (does machine n body) (does machine n continuing) break_if)
        (turn-sees (does watching n body) (does watching n continuing) (does machine n body) (does machine n continuing) (does-sees n body) (does-sees n continuing) break_if) w
    node-sees n (jump to) w = left-sees w (ending_of to) false

    cases-see : (n : ℕ) (cases : Cases) (k : ℕ) (w : State × Stopped) → Sees w.1 (cases_do watching n cases k w) (cases_do machine n cases k w.0)
    cases-see n no_cases k w = left-sees w Normal true
    cases-see n (case value body through others) zero w =
        then-sees (in_case through) (case-last through) w.1 (does watching n body w) (does machine n body w.0) (does-sees n body w) (cases_do watching n others 0) (cases_do machine n others 0) (cases-see n others 0)
    cases-see n (case value body through others) (suc k) w = cases-see n others k w

  -- ---- events

  -- where and how these events end the run first
  abbrev pub first_stop : List Event → State → Stopped
  first_stop [] state = None
  first_stop (met what ∷ rest) state = first_of (remembered (machine.perform what state) (machine.stop what state)) (first_stop rest (machine.perform what state))
  first_stop (branched handle ∷ rest) state = first_stop rest state
  first_stop (selected handle vs ∷ rest) state = first_stop rest state
  first_stop (returned handle ∷ rest) state = first_stop rest state

  first_of-both : (a b c : Stopped) → first_of (first_of a b) c ≡ first_of a (first_of b c)
  first_of-both None b c = refl
  first_of-both (Some stop) b c = refl

  first_of-none : (a : Stopped) → a ≡ first_of a None
  first_of-none None = refl
  first_of-none (Some stop) = refl

  after-watching : (happened : List Event) (s : State) (stop : Stopped) → after watching happened (s, stop) ≡ (after machine happened s, first_of stop (first_stop happened s))
  after-watching [] s stop = λ i. (s, first_of-none stop i)
  after-watching (met what ∷ rest) s stop =
      let next : State = machine.perform what s in
      let here : Stopped = remembered next (machine.stop what s) in
      after-watching rest next (first_of stop here) ∙ (λ i. (after machine rest next, first_of-both stop here (first_stop rest next) i))
  after-watching (branched handle ∷ rest) s stop = after-watching rest s stop
  after-watching (selected handle vs ∷ rest) s stop = after-watching rest s stop
  after-watching (returned handle ∷ rest) s stop = after-watching rest s stop

  answers-watching : (happened : List Event) (w : State × Stopped) → answers_at watching happened w ≡ answers_at machine happened w.0
  answers-watching [] w = refl
  answers-watching (met what ∷ rest) w = answers-watching rest (watching.perform what w)
  answers-watching (branched handle ∷ rest) w = ap (λ xs. machine.answer handle w.0 ∷ xs) (answers-watching rest w)
  answers-watching (selected handle vs ∷ rest) w = ap (λ xs. machine.choice handle vs w.0 ∷ xs) (answers-watching rest w)
  answers-watching (returned handle ∷ rest) w = answers-watching rest w

  -- ---- what is left

  -- a run that reads the answers that the machine gives says what the block does, up to the first stop
  pub does-halted : (turns : ℕ) (block : Tree) (s : State) (answers : List ℕ) (run : Run) (d : BlockRuns turns block answers run) → answers ≡ answers_at machine (events d) s →
      does machine turns block s ≡ halted (first_stop (events d) s) (record { state = after machine (events d) s; ending = run.ending; slipped = run.slipped })
  does-halted turns block s answers run d is =
      sym (does-sees turns block (s, None))
      ∙ ap seen (only-run watching (λ what w. refl) turns block (s, None) answers run d (is ∙ sym (answers-watching (events d) (s, None))))
      ∙ ap (λ w. seen (record { state = w; ending = run.ending; slipped = run.slipped })) (after-watching (events d) s None)

  left-halted : (stop : Option Stop) (s : State) (later : Stopped) (old new : Done State) → halted later old ≡ new → halted (first_of (remembered s stop) later) old ≡ ended_by machine stop s new
  left-halted None s later old new h = h
  left-halted (Some how) s later old new h = refl

  halted-left_after : (happened : List Event) (run : Run) (s : State) →
      halted (first_stop happened s) (record { state = after machine happened s; ending = run.ending; slipped = run.slipped }) ≡ left_after machine happened run s
  halted-left_after [] run s = refl
  halted-left_after (met what ∷ rest) run s =
      let next : State = machine.perform what s in
      left-halted (machine.stop what s) next (first_stop rest next) (record { state = after machine rest next; ending = run.ending; slipped = run.slipped }) (left_after machine rest run next) (halted-left_after rest run next)
  halted-left_after (branched handle ∷ rest) run s = halted-left_after rest run s
  halted-left_after (selected handle vs ∷ rest) run s = halted-left_after rest run s
  halted-left_after (returned handle ∷ rest) run s = halted-left_after rest run s

  pub does-left_after : (turns : ℕ) (block : Tree) (s : State) (answers : List ℕ) (run : Run) (d : BlockRuns turns block answers run) → answers ≡ answers_at machine (events d) s →
      does machine turns block s ≡ left_after machine (events d) run s
  does-left_after turns block s answers run d is = does-halted turns block s answers run d is ∙ halted-left_after (events d) run s

  -- a run that reads the answers that the machine gives
  pub record HasRun (turns : ℕ) (block : Tree) (s : State) : Type 0 where
    pub answers : List ℕ
    pub run : Run
    pub fits : BlockRuns turns block answers run
    pub given : answers ≡ answers_at machine (events fits) s

  pub has_run : (turns : ℕ) (block : Tree) (s : State) → HasRun turns block s
  has_run turns block s =
      let found = does-IsARun watching (λ what w. refl) turns block (s, None) in
      let answers : List ℕ = answers_at watching found.happened (s, None) in
      record {
        answers = answers ++ [];
        run = found.run;
        fits = (found.fits []).0;
        given = append-nil answers ∙ answers-watching found.happened (s, None) ∙ ap (λ happened. answers_at machine happened s) (sym (found.fits []).1);
      }

  -- the first stop among events
  record StopsAt (happened : List Event) (s : State) (stop : State × Stop) : Type 0 where
    before : List Event
    what : Statement
    later : List Event
    parts : happened ≡ (before ++ met what ∷ []) ++ later
    none : NoneStops machine before s
    stops : machine.stop what (after machine before s) ≡ Some stop.1
    state : stop.0 ≡ after machine (before ++ met what ∷ []) s

  abbrev Found : List Event → State → Stopped → Type 0
  Found happened s None = NoneStops machine happened s
  Found happened s (Some stop) = StopsAt happened s stop

  found-later : (event : Event) (rest : List Event) (s : State) → ((before : List Event) → NoneStops machine before (after machine (event ∷ []) s) → NoneStops machine (event ∷ before) s) →
      (stop : Stopped) → Found rest (after machine (event ∷ []) s) stop → Found (event ∷ rest) s stop
  found-later event rest s on None h = on rest h
  found-later event rest s on (Some stop) h = record {
    before = event ∷ h.before;
    what = h.what;
    later = h.later;
    parts = ap (λ xs. event ∷ xs) h.parts;
    none = on h.before h.none;
    stops = at event h.before h.what h.stops;
    state = from event (h.before ++ met h.what ∷ []) h.state;
  }
    where
      at : (event : Event) (before : List Event) (what : Statement) → machine.stop what (after machine before (after machine (event ∷ []) s)) ≡ Some stop.1 → machine.stop what (after machine (event ∷ before) s) ≡ Some stop.1
      at (met first) before what is = is
      at (branched handle) before what is = is
      at (selected handle vs) before what is = is
      at (returned handle) before what is = is

      from : (event : Event) (xs : List Event) → stop.0 ≡ after machine xs (after machine (event ∷ []) s) → stop.0 ≡ after machine (event ∷ xs) s
      from (met first) xs is = is
      from (branched handle) xs is = is
      from (selected handle vs) xs is = is
      from (returned handle) xs is = is

  found-here : (what : Statement) (rest : List Event) (s : State) (stop : Option Stop) → machine.stop what s ≡ stop → (later : Stopped) → Found rest (machine.perform what s) later →
      Found (met what ∷ rest) s (first_of (remembered (machine.perform what s) stop) later)
  found-here what rest s None is later h = found-later (met what) rest s (λ before none. (is, none)) later h
  found-here what rest s (Some how) is later h = record { before = []; what = what; later = rest; parts = refl; none = tt; stops = is; state = refl }

  stop-found : (happened : List Event) (s : State) → Found happened s (first_stop happened s)
  stop-found [] s = tt
  stop-found (met what ∷ rest) s =
      found-here what rest s (machine.stop what s) refl (first_stop rest (machine.perform what s)) (stop-found rest (machine.perform what s))
  stop-found (branched handle ∷ rest) s = found-later (branched handle) rest s (λ before none. none) (first_stop rest s) (stop-found rest s)
  stop-found (selected handle vs ∷ rest) s = found-later (selected handle vs) rest s (λ before none. none) (first_stop rest s) (stop-found rest s)
  stop-found (returned handle ∷ rest) s = found-later (returned handle) rest s (λ before none. none) (first_stop rest s) (stop-found rest s)

  pub does-IsABeginning : (turns : ℕ) (block : Tree) (s : State) → IsABeginning machine turns block s (does machine turns block s)
  does-IsABeginning turns block s =
      let r : HasRun turns block s = has_run turns block s in
      go r (first_stop (events r.fits) s) (stop-found (events r.fits) s) (does-halted turns block s r.answers r.run r.fits r.given)
    where
      placed : (r : HasRun turns block s) (happened : List Event) → events r.fits ≡ happened → (d : BlockRuns turns block (answers_at machine happened s) r.run) × (events d ≡ happened)
      placed r happened is =
          subst (λ answers. (d : BlockRuns turns block answers r.run) × (events d ≡ happened)) (r.given ∙ ap (λ xs. answers_at machine xs s) is) (r.fits, is)

      go : (r : HasRun turns block s) (stop : Stopped) → Found (events r.fits) s stop →
          does machine turns block s ≡ halted stop (record { state = after machine (events r.fits) s; ending = r.run.ending; slipped = r.run.slipped }) →
          IsABeginning machine turns block s (does machine turns block s)
      go r None none is = record {
        happened = events r.fits;
        later = [];
        run = r.run;
        fits = placed r (events r.fits ++ []) (sym (append-nil (events r.fits)));
        state = ap (λ (left : Done State). left.state) is;
        ended = inl (refl, record { none = none; ending = ap (λ (left : Done State). left.ending) is; slipped = ap (λ (left : Done State). left.slipped) is });
      }
      go r (Some stop) found is = record {
        happened = found.before ++ met found.what ∷ [];
        later = found.later;
        run = r.run;
        fits = placed r ((found.before ++ met found.what ∷ []) ++ found.later) found.parts;
        state = ap (λ (left : Done State). left.state) is ∙ found.state;
        ended = inr (record {
          before = found.before;
          what = found.what;
          how = stop.1;
          last = refl;
          none_before = found.none;
          stop = found.stops;
          ending = ap (λ (left : Done State). left.ending) is;
          slipped = ap (λ (left : Done State). left.slipped) is;
        });
      }
