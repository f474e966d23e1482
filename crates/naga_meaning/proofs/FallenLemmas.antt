-- Closing by the new rule and culling keep what a block does on each machine.
use Rattle.std.proofs.lemmas.Bool.{or_parts}
use Rattle.std.proofs.Common.{◌≡◌, ◌≢◌, ◌∙◌, sym, ap, subst, refl, ℕ, zero, suc, ◌<◌, Bool, true, false, ◌∷◌, length, Option, Some, None, arith, cond}
use Rattle.naga_arena.specs.declared.span.Span.{Span}
use Rattle.naga_ir.specs.Tree.{Tree, empty, push, Node, plain, nested, branch, switch, loop, jump, Cases, no_cases, case, Jump, break, continue, kill, return}
use Rattle.naga_runs.specs.Diverges.{diverges}
use Rattle.naga_runs.specs.Exits.{breaks_out, a_case_breaks, last_falls}
use Rattle.naga_runs.specs.Runs.{ending_of, entered, values}
use Rattle.naga_runs.specs.declared.run.Ending.{Ending}
use Rattle.naga_runs.specs.declared.run.Ending.TheVariants.{Normal, Break, Return, Kill, Cut}
use Rattle.naga_runs.proofs.BreaksOutLemmas.{breaks_out-BlockRuns}
use Rattle.naga_runs.proofs.DivergesLemmas.{diverges-NeverFallsOff}
use Rattle.naga_runs.proofs.HasDefaultLemmas.{entered-within}
use Rattle.naga_runs.proofs.HasExitLemmas.{has_exit-false}
use Rattle.naga_runs.proofs.LastFallsLemmas.{last_falls-falling, last_falls-ending}
use Rattle.naga_flow.specs.Events.{events}
use Rattle.naga_compact.specs.Culling.{push_reached, culled, culled_node, culled_cases}
use Rattle.naga_proc.specs.Closing.{at_empty, stays, changes, InsideAre, in_plain, in_loop, in_jump, in_block, in_branch, in_cases, CaseTailsAre, no_more, falling, ending, GetsReturn, FullyClosed, follows}
use Rattle.naga_proc.specs.declared.terminator.rule.Rule.TheVariants.{New}
use Rattle.naga_meaning.specs.Closing.{fallen_by, fallen}
use Rattle.naga_meaning.specs.Machine.{Machine, Done, Stop, killed, cut_off, done, Way, by_way, then_by, choose, turns_of, breaks_if, turn_of, does, node_does, cases_do}
use Rattle.naga_meaning.specs.Machine as way
use Rattle.naga_meaning.proofs.IsABeginningLemmas.{does-halted, first_stop, halted, has_run}

values-tails : {test : Node → Bool} {Changed : Tree → Tree → Type 0} {cs ds : Cases} → CaseTailsAre test Changed cs ds → values ds ≡ values cs
values-tails no_more = refl
values-tails (falling {value = v} d) = ap (λ vs. v ∷ vs) (values-tails d)
values-tails (ending {value = v} d e) = ap (λ vs. v ∷ vs) (values-tails e)

module _ {State : Type 0} (machine : Machine State) where
  -- ---- what runs say of meanings

  -- a block that ends neither by a kill nor by a cut ends as its run does
  not_stopped : (e : Ending) → e ≢ Kill → e ≢ Cut → (stop : Option (State × Stop)) (left : Done State) → (halted machine stop left).ending ≡ e → left.ending ≡ e
  not_stopped e h k None left is = is
  not_stopped e h k (Some (state, killed)) left is = absurd (h (sym is))
  not_stopped e h k (Some (state, cut_off)) left is = absurd (k (sym is))

  does-not_break : (n : ℕ) (block : Tree) (state : State) → breaks_out block ≡ false → (does machine n block state).ending ≢ Break
  does-not_break n block state h e =
      let r = has_run machine n block state in
      breaks_out-BlockRuns r.fits h (not_stopped Break (λ q. cc) (λ q. cc) (first_stop machine (events r.fits) state) _ (ap (λ (left : Done State). left.ending) (sym (does-halted machine n block state r.answers r.run r.fits r.given)) ∙ e))

  does-not_normal : (n : ℕ) (block : Tree) (state : State) → diverges block ≡ true → (does machine n block state).ending ≢ Normal
  does-not_normal n block state h e =
      let r = has_run machine n block state in
      diverges-NeverFallsOff block h n r.answers r.run r.fits (not_stopped Normal (λ q. cc) (λ q. cc) (first_stop machine (events r.fits) state) _ (ap (λ (left : Done State). left.ending) (sym (does-halted machine n block state r.answers r.run r.fits r.given)) ∙ e))

  -- ---- operations that commute with `fallen`

  fallen-not_normal : (left : Done State) (e : Ending) → left.ending ≡ e → e ≢ Normal → left ≡ fallen left
  fallen-not_normal left Normal p h = absurd (h refl)
  fallen-not_normal left Break p h = sym (ap (λ e. fallen_by e left) p)
  fallen-not_normal left _ p h = sym (ap (λ e. fallen_by e left) p)

  block-fallen : (one : Done State) (next next' : State → Done State) → ((s : State) → next' s ≡ fallen (next s)) → (e : Ending) → one.ending ≡ e →
      by_way (way.in_block e) one next' ≡ fallen (by_way (way.in_block e) one next)
  block-fallen one next next' h Normal p = h one.state
  block-fallen one next next' h _ p = fallen-not_normal one _ p (λ q. cc)

  block-alike : (one : Done State) (next next' : State → Done State) → ((s : State) → fallen (next' s) ≡ fallen (next s)) → (e : Ending) →
      fallen (by_way (way.in_block e) one next') ≡ fallen (by_way (way.in_block e) one next)
  block-alike one next next' h Normal = h one.state
  block-alike one next next' h _ = refl

  block-returned : (one : Done State) (e : Ending) → one.ending ≡ e → by_way (way.in_block e) one (done (Return None)) ≡ fallen_by e one
  block-returned one Normal p = refl
  block-returned one _ p = refl

  -- a case that falls through and does not break
  case-fallen : (one : Done State) (next next' : State → Done State) → ((s : State) → next' s ≡ fallen (next s)) → (e : Ending) → one.ending ≡ e → e ≢ Break →
      by_way (way.in_case true e) one next' ≡ fallen (by_way (way.in_case true e) one next)
  case-fallen one next next' h Normal p k = h one.state
  case-fallen one next next' h Break p k = absurd (k refl)
  case-fallen one next next' h _ p k = fallen-not_normal one _ p (λ q. cc)

  case-alike : (one : Done State) (next next' : State → Done State) → ((s : State) → fallen (next' s) ≡ fallen (next s)) → (e : Ending) →
      fallen (by_way (way.in_case true e) one next') ≡ fallen (by_way (way.in_case true e) one next)
  case-alike one next next' h Normal = h one.state
  case-alike one next next' h Break = refl
  case-alike one next next' h _ = refl

  -- a case that neither falls through nor breaks
  last-fallen : (state : State) (e : Ending) (slipped : Bool) (next next' : State → Done State) → e ≢ Break →
      let one : Done State = record { state = state; ending = e; slipped = slipped } in
      then_by (way.in_case false) (fallen one) next' ≡ fallen (then_by (way.in_case false) one next)
  last-fallen state Normal slipped next next' h = refl
  last-fallen state Break slipped next next' h = absurd (h refl)
  last-fallen state _ slipped next next' h = refl

  last-alike : (state : State) (e : Ending) (slipped : Bool) (next next' : State → Done State) →
      let one : Done State = record { state = state; ending = e; slipped = slipped } in
      fallen (then_by (way.in_case false) (fallen one) next') ≡ fallen (then_by (way.in_case false) one next)
  last-alike state Normal slipped next next' = refl
  last-alike state Break slipped next next' = refl
  last-alike state _ slipped next next' = refl

  chosen : (P : Done State → Done State → Type 0) (x : ℕ) (at_no at_yes at_no' at_yes' : State → Done State) (s : State) → P (at_no s) (at_no' s) → P (at_yes s) (at_yes' s) →
      P (choose x at_no at_yes s) (choose x at_no' at_yes' s)
  chosen P zero at_no at_yes at_no' at_yes' s h k = h
  chosen P (suc x) at_no at_yes at_no' at_yes' s h k = k

  jump-fallen : (to : Jump) (state : State) → done (ending_of to) state ≡ fallen (done (ending_of to) state)
  jump-fallen break state = refl
  jump-fallen continue state = refl
  jump-fallen kill state = refl
  jump-fallen (return value) state = refl

  abbrev IsFallen : Done State → Done State → Type 0
  IsFallen one two = two ≡ fallen one

  mutual
    pub does-fallen : {b c : Tree} → FullyClosed b c → (n : ℕ) (s : State) → does machine n c s ≡ fallen (does machine n b s)
    does-fallen (at_empty p) n s = ap (λ x. does machine n x s) p
    does-fallen (stays {front = front} {last = last} {new = new} i h) n s =
        let one : Done State = does machine n front s in
        block-fallen one (node_does machine n last) (node_does machine n new) (λ m. node-fallen i h n m) one.ending refl
    does-fallen (changes {front = front} {last = last} {new = new} {span = span} i h q) n s =
        let one : Done State = does machine n front s in
        let two : Done State = does machine n (push front new span) s in
        ap (λ x. does machine n x s) q ∙ block-returned two two.ending refl
        ∙ block-alike one (node_does machine n last) (node_does machine n new) (λ m. node-alike i h n m) one.ending

    -- a last statement that no return follows
    node-fallen : {x y : Node} → InsideAre (follows New) GetsReturn x y → follows New x ≡ false → (n : ℕ) (s : State) → node_does machine n y s ≡ fallen (node_does machine n x s)
    node-fallen in_plain h n s = absurd (let e : true ≡ false = h in cc)
    node-fallen in_loop h n s = absurd (let e : true ≡ false = h in cc)
    node-fallen (in_jump {to = to}) h n s = jump-fallen to s
    node-fallen (in_block d) h n s = does-fallen d n s
    node-fallen (in_branch {b = b} {c = c} {d = b'} {e = c'} {condition = k} d e) h n s =
        chosen IsFallen (machine.answer k s) (does machine n b') (does machine n b) (does machine n c') (does machine n c) s (does-fallen e n s) (does-fallen d n s)
    node-fallen (in_cases {cs = cs} {ds = ds} {selector = k} d) h n s =
        let parts = has_exit-false cs h in
        subst (λ vs. cases_do machine n ds (entered vs (machine.choice k vs s)) s ≡ fallen (cases_do machine n cs (entered (values cs) (machine.choice k (values cs) s)) s)) (sym (values-tails d))
        (cases-fallen d parts.2 parts.1 n (entered (values cs) (machine.choice k (values cs) s)) s (entered-within (values cs) (machine.choice k (values cs) s) parts.0))

    -- a last statement that a return follows
    node-alike : {x y : Node} → InsideAre (follows New) GetsReturn x y → follows New x ≡ true → (n : ℕ) (s : State) → fallen (node_does machine n y s) ≡ fallen (node_does machine n x s)
    node-alike in_plain h n s = refl
    node-alike in_loop h n s = refl
    node-alike in_jump h n s = refl
    node-alike (in_block d) h n s = absurd (let e : false ≡ true = h in cc)
    node-alike (in_branch d e) h n s = absurd (let e : false ≡ true = h in cc)
    node-alike (in_cases {cs = cs} {ds = ds} {selector = k} d) h n s =
        subst (λ vs. fallen (cases_do machine n ds (entered vs (machine.choice k vs s)) s) ≡ fallen (cases_do machine n cs (entered (values cs) (machine.choice k (values cs) s)) s)) (sym (values-tails d))
        (cases-alike d n (entered (values cs) (machine.choice k (values cs) s)) s)

    cases-fallen : {cs ds : Cases} → CaseTailsAre (follows New) GetsReturn cs ds → a_case_breaks cs ≡ false → last_falls cs ≡ false → (n k : ℕ) (s : State) → k < length (values cs) →
        cases_do machine n ds k s ≡ fallen (cases_do machine n cs k s)
    cases-fallen no_more h l n k s within = absurd (omega arith)
    cases-fallen (falling {value = v} {b = b} {cs = cs} {ds = ds} d) h l n zero s within =
        let one : Done State = does machine n b s in
        let parts = or_parts (breaks_out b) (a_case_breaks cs) h in
        let on = last_falls-falling v b cs l in
        case-fallen one (cases_do machine n cs 0) (cases_do machine n ds 0) (λ m. cases-fallen d parts.1 on.1 n 0 m on.0) one.ending refl (does-not_break n b s parts.0)
    cases-fallen (falling {value = v} {b = b} {cs = cs} d) h l n (suc k) s within =
        cases-fallen d (or_parts (breaks_out b) (a_case_breaks cs) h).1 (last_falls-falling v b cs l).1 n k s (omega arith)
    cases-fallen (ending {b = b} {c = c} {cs = cs} {ds = ds} d e) h l n zero s within =
        let one : Done State = does machine n b s in
        ap (λ left. then_by (way.in_case false) left (cases_do machine n ds 0)) (does-fallen d n s)
        ∙ last-fallen one.state one.ending one.slipped (cases_do machine n cs 0) (cases_do machine n ds 0) (does-not_break n b s (or_parts (breaks_out b) (a_case_breaks cs) h).0)
    cases-fallen (ending {value = v} {b = b} {cs = cs} d e) h l n (suc k) s within =
        cases-fallen e (or_parts (breaks_out b) (a_case_breaks cs) h).1 (last_falls-ending v b cs l) n k s (omega arith)

    cases-alike : {cs ds : Cases} → CaseTailsAre (follows New) GetsReturn cs ds → (n k : ℕ) (s : State) → fallen (cases_do machine n ds k s) ≡ fallen (cases_do machine n cs k s)
    cases-alike no_more n k s = refl
    cases-alike (falling {b = b} {cs = cs} {ds = ds} d) n zero s =
        let one : Done State = does machine n b s in
        case-alike one (cases_do machine n cs 0) (cases_do machine n ds 0) (λ m. cases-alike d n 0 m) one.ending
    cases-alike (falling d) n (suc k) s = cases-alike d n k s
    cases-alike (ending {b = b} {c = c} {cs = cs} {ds = ds} d e) n zero s =
        let one : Done State = does machine n b s in
        ap (λ left. fallen (then_by (way.in_case false) left (cases_do machine n ds 0))) (does-fallen d n s)
        ∙ last-alike one.state one.ending one.slipped (cases_do machine n cs 0) (cases_do machine n ds 0)
    cases-alike (ending d e) n (suc k) s = cases-alike e n k s

  -- ---- culling

  -- what follows a block that does not end normally does nothing
  block-stays : (one : Done State) (next : State → Done State) (e : Ending) → one.ending ≡ e → one.ending ≢ Normal → by_way (way.in_block e) one next ≡ one
  block-stays one next Normal p h = absurd (h p)
  block-stays one next _ p h = refl

  reached-does : (n : ℕ) (front : Tree) (last : Node) (span : Span) (s : State) → does machine n (push_reached front last span) s ≡ does machine n (push front last span) s
  reached-does n front last span s = go (diverges front) refl
    where
      go : (b : Bool) → diverges front ≡ b → does machine n (cond b front (push front last span)) s ≡ does machine n (push front last span) s
      go true h = let one : Done State = does machine n front s in sym (block-stays one (node_does machine n last) one.ending refl (does-not_normal n front s h))
      go false h = refl

  values-culled : (cases : Cases) → values (culled_cases cases) ≡ values cases
  values-culled no_cases = refl
  values-culled (case value body through others) = ap (λ vs. value ∷ vs) (values-culled others)

  mutual
    pub does-culled : (n : ℕ) (block : Tree) (s : State) → does machine n (culled block) s ≡ does machine n block s
    does-culled n empty s = refl
    does-culled n (push front last span) s =
        reached-does n (culled front) (culled_node last) span s
        ∙ (λ i. then_by way.in_block (does-culled n front s i) (λ m. node-culled n last m i))

    node-culled : (n : ℕ) (node : Node) (s : State) → node_does machine n (culled_node node) s ≡ node_does machine n node s
    node-culled n (plain what) s = refl
    node-culled n (nested inner) s = does-culled n inner s
    node-culled n (branch condition accept reject) s = λ i. choose {A = State → Done State} (machine.answer condition s) (λ m. does-culled n reject m i) (λ m. does-culled n accept m i) s
    node-culled n (switch selector cases) s =
        ap (λ vs. cases_do machine n (culled_cases cases) (entered vs (machine.choice selector vs s)) s) (values-culled cases) ∙ cases-culled n cases (entered (values cases) (machine.choice selector (values cases) s)) s
    node-culled n (loop body continuing break_if) s =
        λ i. turns_of n (turn_of machine (λ m. does-culled n body m i) (λ m. does-culled n continuing m i) break_if) s
    node-culled n (jump to) s = refl

    cases-culled : (n : ℕ) (cases : Cases) (k : ℕ) (s : State) → cases_do machine n (culled_cases cases) k s ≡ cases_do machine n cases k s
    cases-culled n no_cases k s = refl
    cases-culled n (case value body through others) zero s =
        λ i. then_by (way.in_case through) (does-culled n body s i) (λ m. cases-culled n others 0 m i)
    cases-culled n (case value body through others) (suc k) s = cases-culled n others k s
