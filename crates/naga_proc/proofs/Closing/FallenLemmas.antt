-- The runs of a fully closed block: each is that of the original block, except that it returns where that run fell off.
use Rattle.std.proofs.lemmas.Bool.{or_parts}
use Rattle.std.proofs.Common.{◌≡◌, ◌≢◌, ℕ, zero, suc, ◌<◌, Bool, true, false, List, length, None, drop, refl, sym, ◌∙◌, ap, subst, add-zero, arith}
use Rattle.std.proofs.lemmas.List.{append-nil}
use Rattle.naga_ir.specs.Tree.{Tree, empty, push, Node, Cases, Jump, break, continue, kill, return}
use Rattle.naga_ir.specs.declared.statement.Statement.{Statement}
use Rattle.naga_runs.proofs.Execution.{after_by, after, case_by, case_run, run, statement_run, cases_run}
use Rattle.naga_runs.specs.Runs.{Run, quiet, answered, joined, ending_of, entered, values}
use Rattle.naga_runs.specs.RunsFit.{NeverFallsOff}
use Rattle.naga_runs.specs.declared.run.Ending.{Ending}
use Rattle.naga_runs.specs.declared.run.Ending.TheVariants.{Normal, Break, Return}
use Rattle.naga_proc.specs.Closing.{at_empty, stays, changes, InsideAre, in_plain, in_loop, in_jump, in_block, in_branch, in_cases, CaseTailsAre, no_more, falling, ending, GetsReturn, FullyClosed, follows}
use Rattle.naga_runs.specs.Exits.{breaks_out, a_case_breaks, last_falls}
use Rattle.naga_proc.specs.Closing.FallenRuns.{fallen_by, fallen, Fallen}
use Rattle.naga_proc.specs.declared.terminator.rule.Rule.TheVariants.{New}
use Rattle.naga_runs.proofs.BreaksOutLemmas.{breaks_out-run}
use Rattle.naga_proc.proofs.Closing.ExecutionLemmas.{asked-alike, selected-alike}
use Rattle.naga_runs.proofs.HasDefaultLemmas.{entered-within}
use Rattle.naga_runs.proofs.HasExitLemmas.{has_exit-false}
use Rattle.naga_runs.proofs.LastFallsLemmas.{last_falls-falling, last_falls-ending}
use Rattle.naga_proc.proofs.Closing.MapsRunsLemmas.{MapsRuns-from_run}
use Rattle.naga_proc.proofs.Closing.NeverFallsOffLemmas.{Fallen-NeverFallsOff}
use Rattle.naga_proc.proofs.Closing.TailsAreLemmas.{values-CaseTailsAre}

-- operations on runs that commute with `fallen`, which returns where a run falls off the end
joined_by-fallen : (first : Run) (trace : List Statement) (ending : Ending) (used : ℕ) (slipped : Bool) →
    let second : Run = record { trace = trace; ending = ending; used = used; slipped = slipped } in
    joined first (fallen second) ≡ fallen (joined first second)
joined_by-fallen first trace Normal used slipped = refl
joined_by-fallen first trace _ used slipped = refl

joined-fallen : (first second : Run) → joined first (fallen second) ≡ fallen (joined first second)
joined-fallen first second = joined_by-fallen first second.trace second.ending second.used second.slipped

answered_by-fallen : (trace : List Statement) (ending : Ending) (used : ℕ) (slipped : Bool) →
    let r : Run = record { trace = trace; ending = ending; used = used; slipped = slipped } in
    answered (fallen r) ≡ fallen (answered r)
answered_by-fallen trace Normal used slipped = refl
answered_by-fallen trace _ used slipped = refl

answered-fallen : (r : Run) → answered (fallen r) ≡ fallen (answered r)
answered-fallen r = answered_by-fallen r.trace r.ending r.used r.slipped

fallen-not_normal : (r : Run) (e : Ending) → r.ending ≡ e → e ≢ Normal → r ≡ fallen r
fallen-not_normal r Normal p h = absurd (h refl)
fallen-not_normal r Break p h = sym (ap (λ e. fallen_by e r) p)
fallen-not_normal r _ p h = sym (ap (λ e. fallen_by e r) p)

after_by-fallen : (first second : Run) (e : Ending) → first.ending ≡ e → after_by e first (fallen second) ≡ fallen (after_by e first second)
after_by-fallen first second Normal p = joined-fallen first second
after_by-fallen first second _ p = fallen-not_normal first _ p (λ q. cc)

after_by-returned : (first : Run) (e : Ending) → first.ending ≡ e → after_by e first (quiet (Return None)) ≡ fallen_by e first
after_by-returned first Normal p = λ i. record { trace = append-nil first.trace i; ending = Return None; used = add-zero first.used i; slipped = false }
after_by-returned first _ p = refl

quiet-fallen : (to : Jump) → quiet (ending_of to) ≡ fallen (quiet (ending_of to))
quiet-fallen break = refl
quiet-fallen continue = refl
quiet-fallen kill = refl
quiet-fallen (return value) = refl

-- the end of a case that falls through and does not break
case_by-fallen : (first second : Run) (e : Ending) → first.ending ≡ e → e ≢ Break → case_by e true first (fallen second) ≡ fallen (case_by e true first second)
case_by-fallen first second Normal p h = joined-fallen first second
case_by-fallen first second Break p h = absurd (h refl)
case_by-fallen first second _ p h = fallen-not_normal first _ p (λ q. cc)

-- the end of a case that neither falls through nor breaks
case_run-fallen : (trace : List Statement) (ending : Ending) (used : ℕ) (slipped : Bool) (second second' : Run) → ending ≢ Break →
    let r : Run = record { trace = trace; ending = ending; used = used; slipped = slipped } in
    case_run false (fallen r) second' ≡ fallen (case_run false r second)
case_run-fallen trace Normal used slipped second second' h = refl
case_run-fallen trace Break used slipped second second' h = absurd (h refl)
case_run-fallen trace _ used slipped second second' h = refl

-- if a return follows the switch, the case may also break or end normally
case_run-alike : (trace : List Statement) (ending : Ending) (used : ℕ) (slipped : Bool) (second second' : Run) →
    let r : Run = record { trace = trace; ending = ending; used = used; slipped = slipped } in
    fallen (case_run false (fallen r) second') ≡ fallen (case_run false r second)
case_run-alike trace Normal used slipped second second' = refl
case_run-alike trace Break used slipped second second' = refl
case_run-alike trace _ used slipped second second' = refl

joined-alike : (first second second' : Run) → fallen second' ≡ fallen second → fallen (joined first second') ≡ fallen (joined first second)
joined-alike first second second' h = sym (joined-fallen first second') ∙ ap (joined first) h ∙ joined-fallen first second

after_by-alike : (first second second' : Run) (e : Ending) → fallen second' ≡ fallen second → fallen (after_by e first second') ≡ fallen (after_by e first second)
after_by-alike first second second' Normal h = joined-alike first second second' h
after_by-alike first second second' _ h = refl

case_by-alike : (first second second' : Run) (e : Ending) → fallen second' ≡ fallen second → fallen (case_by e true first second') ≡ fallen (case_by e true first second)
case_by-alike first second second' Normal h = joined-alike first second second' h
case_by-alike first second second' Break h = refl
case_by-alike first second second' _ h = refl

-- a run that is the other one with a return where that one fell off the end
abbrev IsFallen : Run → Run → Type 0
IsFallen r s = s ≡ fallen r

-- two runs that are alike once a return follows them
abbrev FallAlike : Run → Run → Type 0
FallAlike r s = fallen s ≡ fallen r

answered-IsFallen : (r s : Run) → IsFallen r s → IsFallen (answered r) (answered s)
answered-IsFallen r s h = ap answered h ∙ answered-fallen r

answered-FallAlike : (r s : Run) → FallAlike r s → FallAlike (answered r) (answered s)
answered-FallAlike r s h = sym (answered-fallen s) ∙ ap answered h ∙ answered-fallen r

mutual
  run-fallen : {b c : Tree} → FullyClosed b c → (n : ℕ) (answers : List ℕ) → run n c answers ≡ fallen (run n b answers)
  run-fallen (at_empty p) n answers = ap (λ x. run n x answers) p ∙ after_by-returned (run n empty answers) _ refl
  run-fallen (stays {front = f} i h) n answers =
      let first = run n f answers in
      ap (after first) (statement_run-fallen i h n (drop first.used answers)) ∙ after_by-fallen first _ _ refl
  run-fallen (changes {front = f} {new = t} {span = p} i h q) n answers =
      let first = run n f answers in
      ap (λ x. run n x answers) q ∙ after_by-returned (run n (push f t p) answers) _ refl ∙ after_by-alike first _ _ first.ending (statement_run-alike i h n (drop first.used answers))

  -- a last statement that no return follows
  statement_run-fallen : {s t : Node} → InsideAre (follows New) GetsReturn s t → follows New s ≡ false → (n : ℕ) (answers : List ℕ) → statement_run n t answers ≡ fallen (statement_run n s answers)
  statement_run-fallen in_plain h n answers = absurd (let e : true ≡ false = h in cc)
  statement_run-fallen in_loop h n answers = absurd (let e : true ≡ false = h in cc)
  statement_run-fallen (in_jump {to = to}) h n answers = quiet-fallen to
  statement_run-fallen (in_block d) h n answers = run-fallen d n answers
  statement_run-fallen (in_branch {b = b} {c = c} {d = b'} {e = c'} d e) h n answers =
      asked-alike IsFallen refl answered-IsFallen (run n b') (run n b) (run n c') (run n c) (λ rest. run-fallen e n rest) (λ rest. run-fallen d n rest) answers
  statement_run-fallen (in_cases {cs = cs} {ds = ds} d) h n answers =
      let parts = has_exit-false cs h in
      selected-alike IsFallen refl answered-IsFallen (λ answer rest. cases_run n cs (entered (values cs) answer) rest) (λ answer rest. cases_run n ds (entered (values ds) answer) rest)
      (λ answer rest. subst (λ vs. cases_run n ds (entered vs answer) rest ≡ fallen (cases_run n cs (entered (values cs) answer) rest)) (sym (values-CaseTailsAre d))
      (cases_run-fallen d parts.2 parts.1 n (entered (values cs) answer) rest (entered-within (values cs) answer parts.0)))
      answers

  -- a last statement that a return follows
  statement_run-alike : {s t : Node} → InsideAre (follows New) GetsReturn s t → follows New s ≡ true → (n : ℕ) (answers : List ℕ) → fallen (statement_run n t answers) ≡ fallen (statement_run n s answers)
  statement_run-alike in_plain h n answers = refl
  statement_run-alike in_loop h n answers = refl
  statement_run-alike in_jump h n answers = refl
  statement_run-alike (in_block d) h n answers = absurd (let e : false ≡ true = h in cc)
  statement_run-alike (in_branch d e) h n answers = absurd (let e : false ≡ true = h in cc)
  statement_run-alike (in_cases {cs = cs} {ds = ds} d) h n answers =
      selected-alike FallAlike refl answered-FallAlike (λ answer rest. cases_run n cs (entered (values cs) answer) rest) (λ answer rest. cases_run n ds (entered (values ds) answer) rest)
      (λ answer rest. subst (λ vs. fallen (cases_run n ds (entered vs answer) rest) ≡ fallen (cases_run n cs (entered (values cs) answer) rest)) (sym (values-CaseTailsAre d))
      (cases_run-alike d n (entered (values cs) answer) rest))
      answers

  -- the cases of a switch without an exit, from an existing case on
  cases_run-fallen : {cs ds : Cases} → CaseTailsAre (follows New) GetsReturn cs ds → a_case_breaks cs ≡ false → last_falls cs ≡ false → (n k : ℕ) (answers : List ℕ) → k < length (values cs) → cases_run n ds k answers ≡ fallen (cases_run n cs k answers)
  cases_run-fallen no_more h l n k answers within = absurd (omega arith)
  cases_run-fallen (falling {value = v} {b = b} {cs = cs} d) h l n zero answers within =
      let first = run n b answers in
      let on = last_falls-falling v b cs l in
      ap (case_run true first) (cases_run-fallen d (or_parts (breaks_out b) (a_case_breaks cs) h).1 on.1 n 0 (drop first.used answers) on.0) ∙ case_by-fallen first _ _ refl (breaks_out-run b (or_parts (breaks_out b) (a_case_breaks cs) h).0 n answers)
  cases_run-fallen (falling {value = v} {b = b} {cs = cs} d) h l n (suc k) answers within =
      cases_run-fallen d (or_parts (breaks_out b) (a_case_breaks cs) h).1 (last_falls-falling v b cs l).1 n k answers (omega arith)
  cases_run-fallen (ending {b = b} {c = c} {cs = cs} {ds = ds} d e) h l n zero answers within =
      let first = run n b answers in
      ap (λ r. case_run false r (cases_run n ds 0 (drop r.used answers))) (run-fallen d n answers) ∙ case_run-fallen first.trace first.ending first.used first.slipped _ _ (breaks_out-run b (or_parts (breaks_out b) (a_case_breaks cs) h).0 n answers)
  cases_run-fallen (ending {value = v} {b = b} {cs = cs} d e) h l n (suc k) answers within =
      cases_run-fallen e (or_parts (breaks_out b) (a_case_breaks cs) h).1 (last_falls-ending v b cs l) n k answers (omega arith)

  -- the cases of any switch, up to the change that a return after the switch makes to the ending
  cases_run-alike : {cs ds : Cases} → CaseTailsAre (follows New) GetsReturn cs ds → (n k : ℕ) (answers : List ℕ) → fallen (cases_run n ds k answers) ≡ fallen (cases_run n cs k answers)
  cases_run-alike no_more n k answers = refl
  cases_run-alike (falling {b = b} d) n zero answers =
      let first = run n b answers in case_by-alike first _ _ first.ending (cases_run-alike d n 0 (drop first.used answers))
  cases_run-alike (falling d) n (suc k) answers = cases_run-alike d n k answers
  cases_run-alike (ending {b = b} {c = c} {cs = cs} {ds = ds} d e) n zero answers =
      let first = run n b answers in
      ap (λ r. fallen (case_run false r (cases_run n ds 0 (drop r.used answers)))) (run-fallen d n answers) ∙ case_run-alike first.trace first.ending first.used first.slipped _ _
  cases_run-alike (ending d e) n (suc k) answers = cases_run-alike e n k answers

pub FullyClosed-Fallen : (b c : Tree) → FullyClosed b c → Fallen b c
FullyClosed-Fallen b c h = MapsRuns-from_run fallen b c (run-fallen h)

pub FullyClosed-NeverFallsOff : (b c : Tree) → FullyClosed b c → NeverFallsOff c
FullyClosed-NeverFallsOff b c h = Fallen-NeverFallsOff b c (FullyClosed-Fallen b c h)

pub ruleset fallen_runs = (FullyClosed-Fallen, FullyClosed-NeverFallsOff)
