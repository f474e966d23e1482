-- The values of what has not been evaluated do not matter.
use Rattle.std.proofs.Common.{◌≡◌, ◌∙◌, sym, ap, subst, refl, inl, inr, ℕ, Bool, false, List, [], ◌∷◌, ◌++◌, map, Option, Some, None, option_to_list, arith}
use Rattle.std.proofs.lemmas.List.Elements.{All-head, All-tail, Contains-append_cases}
use Rattle.std.specs.List.{Contains}
use Rattle.std.specs.Prelude.{⊤, if◌then◌else◌, option_map}
use Rattle.naga_arena.specs.declared.span.Span.{Span}
use Rattle.naga_ir.specs.Tree.{Tree, Node, Cases, break, continue, kill, return}
use Rattle.naga_ir.specs.declared.expression.Expression.{Expression}
use Rattle.naga_ir.specs.declared.statement.Statement.{Statement, Emit}
use Rattle.naga_valid.specs.declared.reference.Reference.{Reference}
use Rattle.naga_runs.specs.Runs.{Run, Asks, not_asked, unanswered, says_no, says_yes, BlockRuns, nothing, goes_on, stops, StatementRuns, meets, jumps, enters, undecided, rejects, accepts, unselected, selects, loops}
use Rattle.naga_runs.specs.Runs.{CasesRun, past, falls, broken, ends, passed_on, LoopRuns, no_turn, again, left, over, TurnRuns, in_body, in_continuing, whole}
use Rattle.naga_runs.specs.declared.run.Ending.{Ending}
use Rattle.naga_runs.specs.declared.run.Ending.TheVariants.{Return, Kill, Cut}
use Rattle.naga_compact.specs.Mapping.Runs.{map_ending}
use Rattle.naga_flow.specs.Events.{Event, met, branched, selected, returned, events, events_of_asking, events_of_cases, events_of_loop, events_of_statement, events_of_turn, evaluated_at, evaluated_in}
use Rattle.naga_flow.specs.Results.{emitted_by, evaluated_by, result_of, used_by}
use Rattle.naga_flow.specs.Tracking.{Includes}
use Rattle.naga_flow.specs.Uses.{Expressions, expressions_in, MayUse, MayUseEach, OperandsAreKnown, PlainUsesKnown, UsesKnown}
use Rattle.naga_flow.proofs.EventsLemmas.{EventsUseKnown}
use Rattle.naga_flow.proofs.IncludesLemmas.{Contains-one, Includes-both, Includes-itself, Includes-left, Includes-right, Includes-shifted, Includes-shifted_back}
use Rattle.naga_flow.proofs.UsesKnownLemmas.{MayUse-more, MayUseEach-more}
use Rattle.naga_flow.proofs.UsesOnlyEvaluatedLemmas.{BlockRuns-uses}
use Rattle.naga_meaning.specs.Adequacy.{after, answers_at}
use Rattle.naga_meaning.specs.Forms.{ExpressionForm, StatementForm}
use Rattle.naga_meaning.specs.Functions.{Meanings, action_of, code_of, parts}
use Rattle.naga_meaning.proofs.Known.{AgreeOn, ReadsDecide}
use Rattle.naga_meaning.specs.Machine.{Machine, Done, Stop, killed, cut_off, done, ending_after}
use Rattle.naga_meaning.specs.Values.{Code, World, put, put_result, value, emitted_value, emit, acted, machine, outcome, outcome_of, result_of_ending, stopped}
use Rattle.naga_meaning.proofs.IsABeginningLemmas.{HasRun, Stopped, does-halted, first_of, first_stop, halted, has_run, remembered}
use Rattle.naga_meaning.proofs.RenamesCodeLemmas.{eq-either, eq-no, eq-yes}

agree-fewer : {Value State : Type 0} {more fewer : List ℕ} {a b : World Value State} → Includes more fewer → AgreeOn more a b → AgreeOn fewer a b
agree-fewer h s = record { state = s.state; values = λ x c. s.values x (h.each x c) }

put-agrees : {Value State : Type 0} (x : ℕ) (v w : Value) (known : List ℕ) (a b : World Value State) → AgreeOn known a b → w ≡ v → AgreeOn (x ∷ known) (put x v a) (put x w b)
put-agrees x v w known a b s is = record {
  state = s.state;
  values = λ y c. elim (eq-either y x) [
    | yes e ↦ ap (λ t. if t then w else b.values y) (eq-yes y x e) ∙ is ∙ sym (ap (λ t. if t then v else a.values y) (eq-yes y x e))
    | no other ↦
        let old : Contains known y = elim (Contains-append_cases (x ∷ []) known y c) [ inl here ↦ absurd (other (sym (Contains-one x y here))) | inr there ↦ there ] in
        ap (λ t. if t then w else b.values y) (eq-no y x other) ∙ s.values y old ∙ sym (ap (λ t. if t then v else a.values y) (eq-no y x other))
  ];
}

put_result-agrees : {Value State : Type 0} (result : Option ℕ) (v w : Value) (known : List ℕ) (a b : World Value State) → AgreeOn known a b → w ≡ v →
    AgreeOn (option_to_list result ++ known) (put_result result v a) (put_result result w b)
put_result-agrees None v w known a b s is = s
put_result-agrees (Some x) v w known a b s is = put-agrees x v w known a b s is

-- what a statement evaluates, with its result in front
result_first : (emitted result known : List ℕ) → Includes (result ++ (emitted ++ known)) ((emitted ++ result) ++ known)
result_first emitted result known =
    Includes-both (emitted ++ result) known
    (Includes-both emitted result (Includes-right result (emitted ++ known) (Includes-left emitted known Includes-itself)) (Includes-left result (emitted ++ known) Includes-itself))
    (Includes-right result (emitted ++ known) (Includes-right emitted known Includes-itself))

-- ---- the value that is returned

data Returns (handle : ℕ) : List Event → Type 0 where
  here : {rest : List Event} → Returns handle (returned handle ∷ rest)
  later : {event : Event} {rest : List Event} → Returns handle rest → Returns handle (event ∷ rest)

in_front : {handle : ℕ} (xs ys : List Event) → Returns handle ys → Returns handle (xs ++ ys)
in_front [] ys r = r
in_front (x ∷ xs) ys r = later (in_front xs ys r)

same_returned : {value handle : ℕ} → Return (Some value) ≡ Return (Some handle) → value ≡ handle
same_returned is = cc

asks-returns : {handle : ℕ} {break_if : Option ℕ} {answers : List ℕ} {run : Run} (d : Asks break_if answers run) → run.ending ≡ Return (Some handle) → Returns handle (events_of_asking d)
asks-returns not_asked is = absurd (cc)
asks-returns unanswered is = absurd (cc)
asks-returns says_no is = absurd (cc)
asks-returns says_yes is = absurd (cc)

mutual
  block-returns : {handle n : ℕ} {b : Tree} {answers : List ℕ} {run : Run} (d : BlockRuns n b answers run) → run.ending ≡ Return (Some handle) → Returns handle (events d)
  block-returns nothing is = absurd (cc)
  block-returns (goes_on d e k) is = in_front (events d) (events_of_statement k) (node-returns k is)
  block-returns (stops d e) is = block-returns d is

  node-returns : {handle n : ℕ} {node : Node} {answers : List ℕ} {run : Run} (d : StatementRuns n node answers run) → run.ending ≡ Return (Some handle) → Returns handle (events_of_statement d)
  node-returns meets is = absurd (cc)
  node-returns (jumps {to = break}) is = absurd (cc)
  node-returns (jumps {to = continue}) is = absurd (cc)
  node-returns (jumps {to = kill}) is = absurd (cc)
  node-returns (jumps {to = return None}) is = absurd (cc)
  node-returns (jumps {to = return (Some value)}) is = subst (λ x. Returns x (returned value ∷ [])) (same_returned is) here
  node-returns (enters d) is = block-returns d is
  node-returns undecided is = absurd (cc)
  node-returns (rejects d) is = later (block-returns d is)
  node-returns (accepts d) is = later (block-returns d is)
  node-returns unselected is = absurd (cc)
  node-returns (selects d) is = later (cases-returns d is)
  node-returns (loops d) is = loop-returns d is

  cases-returns : {handle n : ℕ} {cases : Cases} {answers : List ℕ} {run : Run} (d : CasesRun n cases answers run) → run.ending ≡ Return (Some handle) → Returns handle (events_of_cases d)
  cases-returns past is = absurd (cc)
  cases-returns (falls d e k) is = in_front (events d) (events_of_cases k) (cases-returns k is)
  cases-returns (broken d e) is = absurd (cc)
  cases-returns (ends d e) is = block-returns d is
  cases-returns (passed_on d e k) is = block-returns d is

  loop-returns : {handle n k : ℕ} {body continuing : Tree} {break_if : Option ℕ} {answers : List ℕ} {run : Run} (d : LoopRuns n k body continuing break_if answers run) → run.ending ≡ Return (Some handle) → Returns handle (events_of_loop d)
  loop-returns no_turn is = absurd (cc)
  loop-returns (again d e l) is = in_front (events_of_turn d) (events_of_loop l) (loop-returns l is)
  loop-returns (left d e) is = absurd (cc)
  loop-returns (over d e l) is = turn-returns d is

  turn-returns : {handle n : ℕ} {body continuing : Tree} {break_if : Option ℕ} {answers : List ℕ} {run : Run} (d : TurnRuns n body continuing break_if answers run) → run.ending ≡ Return (Some handle) → Returns handle (events_of_turn d)
  turn-returns (in_body d e) is = block-returns d is
  turn-returns (in_continuing d e k l) is = in_front (events d) (events k) (block-returns k is)
  turn-returns (whole d e k l t) is = in_front (events d) (events k ++ events_of_asking t) (in_front (events k) (events_of_asking t) (asks-returns t is))

returns-known : (ex : Expressions) (handle : ℕ) (happened : List Event) (known : List ℕ) → EventsUseKnown ex known happened → Returns handle happened → MayUse ex (evaluated_in happened ++ known) handle
returns-known ex handle [] known h r = elim r [ ]
returns-known ex handle (event ∷ rest) known h (later r) =
    MayUse-more ex (Includes-shifted_back (evaluated_at event) (evaluated_in rest) known) handle (returns-known ex handle rest (evaluated_at event ++ known) h.1 r)
returns-known ex handle (returned handle' ∷ rest) known h here = MayUse-more ex (Includes-right (evaluated_in rest) known Includes-itself) handle h.0

-- a statement that only evaluates has no result
no_result : {Thing : Type 0} (look : Reference → Thing) (what : Statement) → action_of look what ≡ None → result_of what ≡ None
no_result look (Emit range) is = refl
no_result look _ is = absurd (cc)

module _ {Thing Value State : Type 0} (look : Reference → Thing) (by : Meanings Thing Value State) (at_use : ℕ → Bool) (arena : List (Expression × Span)) (reads : ℕ → List ℕ)
    (decide : ReadsDecide by (code_of look at_use arena) (record (expressions_in arena) { reads = reads })) where
  abbrev code : Code (Option (ExpressionForm × List (Option Thing)))
  code = code_of look at_use arena

  abbrev ex : Expressions
  ex = record (expressions_in arena) { reads = reads }

  abbrev M : Machine (World Value State)
  M = machine (parts look) by code

  values-agree : (known xs : List ℕ) (a b : World Value State) → MayUseEach ex known xs → AgreeOn known a b → map (value by code b) xs ≡ map (value by code a) xs
  values-agree known [] a b h s = refl
  values-agree known (x ∷ xs) a b h s = λ i. decide known x a b s (All-head (MayUse ex known) x xs h) i ∷ values-agree known xs a b (All-tail (MayUse ex known) x xs h) s i

  emitted_value-agrees : (known : List ℕ) (x : ℕ) (a b : World Value State) → MayUseEach ex known (ex.operands x) → AgreeOn known a b → emitted_value by code b x ≡ emitted_value by code a x
  emitted_value-agrees known x a b h s = λ i. by.compute (code.shape x) (values-agree known (ex.operands x) a b h s i) (s.state i)

  emit-agrees : (xs known : List ℕ) (a b : World Value State) → OperandsAreKnown ex known xs → AgreeOn known a b → AgreeOn (xs ++ known) (emit by code xs a) (emit by code xs b)
  emit-agrees [] known a b h s = s
  emit-agrees (x ∷ xs) known a b h s =
      agree-fewer (Includes-shifted (x ∷ []) xs known)
      (emit-agrees xs (x ∷ known) (put x (emitted_value by code a x) a) (put x (emitted_value by code b x) b) h.1 (put-agrees x (emitted_value by code a x) (emitted_value by code b x) known a b s (emitted_value-agrees known x a b h.0 s)))

  acted-agrees : (action : Option (StatementForm × List (Option Thing))) (known uses : List ℕ) (result : Option ℕ) (a b : World Value State) → (action ≡ None → result ≡ None) →
      MayUseEach ex known uses → AgreeOn known a b → AgreeOn (option_to_list result ++ known) (acted by code action uses result a) (acted by code action uses result b)
  acted-agrees None known uses result a b none h s = subst (λ r. AgreeOn (option_to_list r ++ known) a b) (sym (none refl)) s
  acted-agrees (Some action) known uses result a b none h s =
      let done = by.perform action (map (value by code a) uses) a.state in
      let done' = by.perform action (map (value by code b) uses) b.state in
      let same : done' ≡ done = λ i. by.perform action (values-agree known uses a b h s i) (s.state i) in
      put_result-agrees result done.1 done'.1 known (record a { state = done.0 }) (record b { state = done'.0 })
      (record { state = ap (λ x. x.0) same; values = s.values }) (ap (λ x. x.1) same)

  performs-agree : (what : Statement) (known : List ℕ) (a b : World Value State) → PlainUsesKnown ex known what → AgreeOn known a b → AgreeOn (evaluated_by what ++ known) (M.perform what a) (M.perform what b)
  performs-agree what known a b h s =
      let emitted : List ℕ = emitted_by what in
      let a' : World Value State = emit by code emitted a in
      let b' : World Value State = emit by code emitted b in
      let s' : AgreeOn (emitted ++ known) a' b' = emit-agrees emitted known a b h.operands s in
      agree-fewer (result_first emitted (option_to_list (result_of what)) known)
      (acted-agrees (action_of look what) (emitted ++ known) (used_by what) (result_of what) a' b' (no_result look what)
      (MayUseEach-more ex (Includes-right emitted known Includes-itself) (used_by what) h.used) s')

  events-agree : (happened : List Event) (known : List ℕ) (a b : World Value State) → EventsUseKnown ex known happened → AgreeOn known a b →
      (answers_at M happened b ≡ answers_at M happened a) × AgreeOn (evaluated_in happened ++ known) (after M happened a) (after M happened b)
  events-agree [] known a b h s = (refl, s)
  events-agree (met what ∷ rest) known a b h s =
      let later = events-agree rest (evaluated_by what ++ known) (M.perform what a) (M.perform what b) h.1 (performs-agree what known a b h.0 s) in
      (later.0, agree-fewer (Includes-shifted (evaluated_by what) (evaluated_in rest) known) later.1)
  events-agree (branched handle ∷ rest) known a b h s =
      let later = events-agree rest known a b h.1 s in
      ((λ i. by.decide (decide known handle a b s h.0 i) ∷ later.0 i), later.1)
  events-agree (selected handle vs ∷ rest) known a b h s =
      let later = events-agree rest known a b h.1 s in
      ((λ i. by.choose (decide known handle a b s h.0 i) vs ∷ later.0 i), later.1)
  events-agree (returned handle ∷ rest) known a b h s = events-agree rest known a b h.1 s

  returned-agrees : (happened : List Event) (a b : World Value State) → AgreeOn (evaluated_in happened ++ []) a b → EventsUseKnown ex [] happened → (e : Ending) →
      ((handle : ℕ) → e ≡ Return (Some handle) → Returns handle happened) → option_map (value by code b) (result_of_ending e) ≡ option_map (value by code a) (result_of_ending e)
  returned-agrees happened a b s uses (Return (Some handle)) h = ap Some (decide (evaluated_in happened ++ []) handle a b s (returns-known ex handle happened [] uses (h handle refl)))
  returned-agrees happened a b s uses (Return None) h = refl
  returned-agrees happened a b s uses _ h = refl

  -- ---- statements that end the run

  stopped-agrees : (action : Option (StatementForm × List (Option Thing))) (known uses : List ℕ) (a b : World Value State) → MayUseEach ex known uses → AgreeOn known a b → stopped by code action uses b ≡ stopped by code action uses a
  stopped-agrees None known uses a b h s = refl
  stopped-agrees (Some action) known uses a b h s = λ i. by.stop action (values-agree known uses a b h s i) (s.state i)

  stop-agrees : (what : Statement) (known : List ℕ) (a b : World Value State) → PlainUsesKnown ex known what → AgreeOn known a b → M.stop what b ≡ M.stop what a
  stop-agrees what known a b h s =
      let emitted : List ℕ = emitted_by what in
      stopped-agrees (action_of look what) (emitted ++ known) (used_by what) (emit by code emitted a) (emit by code emitted b)
      (MayUseEach-more ex (Includes-right emitted known Includes-itself) (used_by what) h.used) (emit-agrees emitted known a b h.operands s)

  -- the runs are ended alike, in the same state, or not at all
  abbrev EndAlike : Stopped M → Stopped M → Type 0
  EndAlike None None = ⊤
  EndAlike (Some one) (Some two) = (two.0.state ≡ one.0.state) × (two.1 ≡ one.1)
  EndAlike _ _ = ⊥

  first-alike : (stop : Option Stop) (a b : World Value State) → b.state ≡ a.state → (one two : Stopped M) → EndAlike one two →
      EndAlike (first_of M (remembered M a stop) one) (first_of M (remembered M b stop) two)
  first-alike None a b same one two h = h
  first-alike (Some how) a b same one two h = (same, refl)

  stops-agree : (happened : List Event) (known : List ℕ) (a b : World Value State) → EventsUseKnown ex known happened → AgreeOn known a b → EndAlike (first_stop M happened a) (first_stop M happened b)
  stops-agree [] known a b h s = tt
  stops-agree (met what ∷ rest) known a b h s =
      let a' : World Value State = M.perform what a in
      let b' : World Value State = M.perform what b in
      let s' = performs-agree what known a b h.0 s in
      subst (λ stop. EndAlike (first_stop M (met what ∷ rest) a) (first_of M (remembered M b' stop) (first_stop M rest b'))) (sym (stop-agrees what known a b h.0 s))
      (first-alike (M.stop what a) a' b' s'.state (first_stop M rest a') (first_stop M rest b') (stops-agree rest (evaluated_by what ++ known) a' b' h.1 s'))
  stops-agree (branched handle ∷ rest) known a b h s = stops-agree rest known a b h.1 s
  stops-agree (selected handle vs ∷ rest) known a b h s = stops-agree rest known a b h.1 s
  stops-agree (returned handle ∷ rest) known a b h s = stops-agree rest known a b h.1 s

  ended-agrees : (how : Stop) (a b : World Value State) → b.state ≡ a.state → outcome_of by code (done (ending_after (Some how)) b) ≡ outcome_of by code (done (ending_after (Some how)) a)
  ended-agrees killed a b same = λ i. record { state = same i; ending = Kill; slipped = false; returned = None }
  ended-agrees cut_off a b same = λ i. record { state = same i; ending = Cut; slipped = false; returned = None }

  halted-agrees : (one two : Stopped M) → EndAlike one two → (old new : Done (World Value State)) → outcome_of by code new ≡ outcome_of by code old →
      outcome_of by code (halted M two new) ≡ outcome_of by code (halted M one old)
  halted-agrees None None h old new same = same
  halted-agrees None (Some two) h old new same = absurd h
  halted-agrees (Some one) None h old new same = absurd h
  halted-agrees (Some one) (Some two) h old new same =
      ap (λ how. outcome_of by code (done (ending_after (Some how)) two.0)) h.1 ∙ ended-agrees one.1 one.0 two.0 h.0

  -- the same outcome, from worlds with the same state
  pub outcome-agrees : (block : Tree) → UsesKnown ex [] block → (turns : ℕ) (a b : World Value State) → b.state ≡ a.state →
      outcome (parts look) by code turns block b ≡ outcome (parts look) by code turns block a
  outcome-agrees block uses turns a b same =
      let r : HasRun M turns block a = has_run M turns block a in
      let happened : List Event = events r.fits in
      let uses_known : EventsUseKnown ex [] happened = BlockRuns-uses ex [] [] r.fits Includes-itself uses in
      let begin : AgreeOn [] a b = record { state = same; values = λ x c. absurd (omega (arith, c.1)) } in
      let agree = events-agree happened [] a b uses_known begin in
      let returns = returned-agrees happened (after M happened a) (after M happened b) agree.1 uses_known r.run.ending (λ handle is. block-returns r.fits is) in
      ap (outcome_of by code) (does-halted M turns block b r.answers r.run r.fits (r.given ∙ sym agree.0))
      ∙ halted-agrees (first_stop M happened a) (first_stop M happened b) (stops-agree happened [] a b uses_known begin)
      (record { state = after M happened a; ending = r.run.ending; slipped = r.run.slipped }) (record { state = after M happened b; ending = r.run.ending; slipped = r.run.slipped })
      (λ i. record { state = agree.1.state i; ending = map_ending (λ handle. 0) r.run.ending; slipped = r.run.slipped; returned = returns i })
      ∙ sym (ap (outcome_of by code) (does-halted M turns block a r.answers r.run r.fits r.given))
