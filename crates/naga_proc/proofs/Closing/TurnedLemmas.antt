-- If the open tail blocks of a block get returns, its runs are the same, except that they return where they fell off
-- the end.
use Rattle.std.proofs.Common.{◌≡◌, ◌⊎◌, inl, inr, ℕ, zero, suc, Bool, true, false, List, None, drop, refl, sym, ◌∙◌, ap, subst, add-zero}
use Rattle.std.proofs.lemmas.List.{append-nil}
use Rattle.naga_ir.specs.Tree.{Tree, empty, push, Node, plain, nested, branch, switch, loop, jump, Cases, Jump, break, continue, kill, return}
use Rattle.naga_ir.specs.declared.statement.Statement.{Statement}
use Rattle.naga_runs.proofs.BlockRunsLemmas.{BlockRuns-only, BlockRuns-run}
use Rattle.naga_runs.proofs.Execution.{after_by, after, case_by, case_run, loop_by, turn_run, turns_run, run, statement_run, cases_run}
use Rattle.naga_runs.specs.Runs.{Run, BlockRuns, quiet, answered, ending_of, values, entered}
use Rattle.naga_runs.specs.declared.run.Ending.{Ending}
use Rattle.naga_runs.specs.declared.run.Ending.TheVariants.{Normal, Break, Return}
use Rattle.naga_proc.specs.Closing.{TailsAre, at_empty, stays, changes, InsideAre, in_plain, in_loop, in_jump, in_block, in_branch, in_cases, CaseTailsAre, no_more, falling, ending, returned, GetsReturn, MayGetReturn, Closed, Between, follows, gets_return}
use Rattle.naga_proc.specs.Closing.KeptRuns.{turned, Turned, Spared}
use Rattle.naga_proc.specs.declared.terminator.rule.Rule.TheVariants.{Old}
use Rattle.naga_proc.proofs.Closing.ExecutionLemmas.{asked-alike, selected-alike}
use Rattle.naga_proc.proofs.Closing.MapsRunsLemmas.{MapsRuns-from_run}
use Rattle.naga_proc.proofs.Closing.TailsAreLemmas.{values-CaseTailsAre, InsideAre-open}

abbrev Unslipped : Run → Type 0
Unslipped r = r.ending ≡ Normal → r.slipped ≡ false

-- if the second part of a run is not slipped, the whole run is not slipped
after_by-unslipped : (first second : Run) (e : Ending) → first.ending ≡ e → Unslipped second → Unslipped (after_by e first second)
after_by-unslipped first second Normal p h = h
after_by-unslipped first second _ p h = λ q. cc

loop_by-unslipped : (first second : Run) (e : Ending) → first.ending ≡ e → Unslipped second → Unslipped (loop_by e first second)
loop_by-unslipped first second Normal p h = h
loop_by-unslipped first second Break p h = λ q. refl
loop_by-unslipped first second _ p h = λ q. cc

turns_run-unslipped : (k : ℕ) (turn : List ℕ → Run) (answers : List ℕ) → Unslipped (turns_run k turn answers)
turns_run-unslipped zero turn answers = λ q. cc
turns_run-unslipped (suc k) turn answers =
    loop_by-unslipped (turn answers) _ _ refl (turns_run-unslipped k turn (drop (turn answers).used answers))

statement_run-unslipped : (last : Node) → follows Old last ≡ true → (n : ℕ) (answers : List ℕ) → Unslipped (statement_run n last answers)
statement_run-unslipped (plain what) h n answers = λ q. refl
statement_run-unslipped (loop body continuing break_if) h n answers = turns_run-unslipped n (turn_run (run n body) (run n continuing) break_if) answers
statement_run-unslipped (jump to) h n answers = absurd (let e : false ≡ true = h in cc)
statement_run-unslipped (nested inner) h n answers = absurd (let e : false ≡ true = h in cc)
statement_run-unslipped (branch condition accept reject) h n answers = absurd (let e : false ≡ true = h in cc)
statement_run-unslipped (switch selector cases) h n answers = absurd (let e : false ≡ true = h in cc)

run-unslipped : (b : Tree) → gets_return Old b ≡ true → (n : ℕ) (answers : List ℕ) → Unslipped (run n b answers)
run-unslipped empty h n answers = λ q. refl
run-unslipped (push front last span) h n answers =
    after_by-unslipped (run n front answers) _ _ refl (statement_run-unslipped last h n (drop (run n front answers).used answers))

-- a return at the end of a run
after_by-returned : (trace : List Statement) (ending : Ending) (used : ℕ) (slipped : Bool) → (ending ≡ Normal → slipped ≡ false) →
    let r : Run = record { trace = trace; ending = ending; used = used; slipped = slipped } in
    after_by ending r (quiet (Return None)) ≡ turned r
after_by-returned trace Normal used true h = absurd (let e : true ≡ false = h refl in cc)
after_by-returned trace Normal used false h = λ i. record { trace = append-nil trace i; ending = Return None; used = add-zero used i; slipped = false }
after_by-returned trace _ used slipped h = refl

-- a changed second part after an unchanged first part
after_by-turned : (trace : List Statement) (ending : Ending) (used : ℕ) (slipped : Bool) (second : Run) →
    let first : Run = record { trace = trace; ending = ending; used = used; slipped = slipped } in
    after_by ending first (turned second) ≡ turned (after_by ending first second)
after_by-turned trace Normal used slipped second = refl
after_by-turned trace _ used slipped second = refl

case_by-turned : (trace : List Statement) (ending : Ending) (used : ℕ) (slipped : Bool) (second : Run) →
    let first : Run = record { trace = trace; ending = ending; used = used; slipped = slipped } in
    case_by ending true first (turned second) ≡ turned (case_by ending true first second)
case_by-turned trace Normal used slipped second = refl
case_by-turned trace Break used slipped second = refl
case_by-turned trace _ used slipped second = refl

-- the run of some cases if the body of the first one has this run and does not fall through
abbrev leave : Run → Run
leave r = case_by r.ending false r r

leave-turned : (trace : List Statement) (ending : Ending) (used : ℕ) (slipped : Bool) →
    let r : Run = record { trace = trace; ending = ending; used = used; slipped = slipped } in
    leave (turned r) ≡ turned (leave r)
leave-turned trace Normal used true = refl
leave-turned trace Normal used false = refl
leave-turned trace Break used slipped = refl
leave-turned trace _ used slipped = refl

case_by-leave : (e : Ending) (first second : Run) → case_by e false first first ≡ case_by e false first second
case_by-leave Break first second = refl
case_by-leave _ first second = refl

quiet-turned : (to : Jump) → turned (quiet (ending_of to)) ≡ quiet (ending_of to)
quiet-turned break = refl
quiet-turned continue = refl
quiet-turned kill = refl
quiet-turned (return value) = refl

-- A property `Related` of two runs, of which the second may return where the first falls off the end.
module _ (Changed : Tree → Tree → Type 0) (Related : Run → Run → Type 0)
    (along : (f : Run → Run) → ((r : Run) → f (turned r) ≡ turned (f r)) → (r s : Run) → Related r s → Related (f r) (f s))
    (itself : (r : Run) → turned r ≡ r → Related r r)
    (at_open : (b c : Tree) → gets_return Old b ≡ true → Changed b c → (n : ℕ) (answers : List ℕ) → Related (run n b answers) (run n c answers)) where
  after-related : (first second second' : Run) → Related second second' → Related (after first second) (after first second')
  after-related first second second' = along (after first) (λ r. after_by-turned first.trace first.ending first.used first.slipped r) second second'

  mutual
    run-related : {b c : Tree} → TailsAre (follows Old) Changed b c → (n : ℕ) (answers : List ℕ) → Related (run n b answers) (run n c answers)
    run-related (at_empty {c = c} h) n answers = at_open empty c refl h n answers
    run-related (stays {front = f} {last = s} {new = t} i h) n answers =
        let first = run n f answers in
        let rest = drop first.used answers in
        after-related first (statement_run n s rest) (statement_run n t rest) (statement_run-related i h n rest)
    run-related (changes {front = f} {c = c} {last = s} {new = t} {span = p} i h k) n answers =
        at_open (push f s p) c h (subst (λ x. Changed (push f x p) c) (InsideAre-open h i) k) n answers

    statement_run-related : {s t : Node} → InsideAre (follows Old) Changed s t → follows Old s ≡ false → (n : ℕ) (answers : List ℕ) → Related (statement_run n s answers) (statement_run n t answers)
    statement_run-related in_plain h n answers = absurd (let e : true ≡ false = h in cc)
    statement_run-related in_loop h n answers = absurd (let e : true ≡ false = h in cc)
    statement_run-related (in_jump {to = to}) h n answers = itself (quiet (ending_of to)) (quiet-turned to)
    statement_run-related (in_block d) h n answers = run-related d n answers
    statement_run-related (in_branch {b = b} {c = c} {d = b'} {e = c'} d e) h n answers =
        asked-alike Related (itself _ refl) (along answered (λ r. refl)) (run n b') (run n b) (run n c') (run n c) (λ rest. run-related e n rest) (λ rest. run-related d n rest) answers
    statement_run-related (in_cases {cs = cs} {ds = ds} d) h n answers =
        selected-alike Related (itself _ refl) (along answered (λ r. refl)) (λ answer rest. cases_run n cs (entered (values cs) answer) rest) (λ answer rest. cases_run n ds (entered (values ds) answer) rest)
        (λ answer rest. subst (λ vs. Related (cases_run n cs (entered (values cs) answer) rest) (cases_run n ds (entered vs answer) rest))
        (sym (values-CaseTailsAre d)) (cases_run-related d n (entered (values cs) answer) rest))
        answers

    cases_run-related : {cs ds : Cases} → CaseTailsAre (follows Old) Changed cs ds → (n k : ℕ) (answers : List ℕ) → Related (cases_run n cs k answers) (cases_run n ds k answers)
    cases_run-related no_more n k answers = itself _ refl
    cases_run-related (falling {b = b} d) n zero answers =
        let first = run n b answers in
        along (case_run true first) (λ r. case_by-turned first.trace first.ending first.used first.slipped r) _ _ (cases_run-related d n 0 (drop first.used answers))
    cases_run-related (falling d) n (suc k) answers = cases_run-related d n k answers
    cases_run-related (ending {b = b} {c = c} {cs = cs} {ds = ds} d e) n zero answers =
        let first = run n b answers in
        let first' = run n c answers in
        let second = cases_run n cs 0 (drop first.used answers) in
        let second' = cases_run n ds 0 (drop first'.used answers) in
        subst (λ x. Related x (case_run false first' second')) (case_by-leave first.ending first second)
        (subst (λ y. Related (leave first) y) (case_by-leave first'.ending first' second')
        (along leave (λ r. leave-turned r.trace r.ending r.used r.slipped) first first' (run-related d n answers)))
    cases_run-related (ending d e) n (suc k) answers = cases_run-related e n k answers

run-returned : (b c : Tree) → gets_return Old b ≡ true → c ≡ returned b → (n : ℕ) (answers : List ℕ) → run n c answers ≡ turned (run n b answers)
run-returned b c d p n answers =
    let r = run n b answers in
    subst (λ x. run n x answers ≡ turned r) (sym p) (after_by-returned r.trace r.ending r.used r.slipped (run-unslipped b d n answers))

run-turned : {b c : Tree} → Closed b c → (n : ℕ) (answers : List ℕ) → run n c answers ≡ turned (run n b answers)
run-turned = run-related GetsReturn (λ r s. s ≡ turned r) (λ f h r s p. ap f p ∙ h r) (λ r p. sym p) run-returned

pub Closed-Turned : (b c : Tree) → Closed b c → Turned b c
Closed-Turned b c h = MapsRuns-from_run turned b c (run-turned h)

abbrev Spares : Run → Run → Type 0
Spares r s = (s ≡ r) ⊎ (s ≡ turned r)

Spares-along : (f : Run → Run) → ((r : Run) → f (turned r) ≡ turned (f r)) → (r s : Run) → Spares r s → Spares (f r) (f s)
Spares-along f h r s (inl p) = inl (ap f p)
Spares-along f h r s (inr p) = inr (ap f p ∙ h r)

Spares-returned : (b c : Tree) → gets_return Old b ≡ true → (c ≡ b) ⊎ (c ≡ returned b) → (n : ℕ) (answers : List ℕ) → Spares (run n b answers) (run n c answers)
Spares-returned b c d (inl p) n answers = inl (ap (λ x. run n x answers) p)
Spares-returned b c d (inr p) n answers = inr (run-returned b c d p n answers)

run-spared : {b c : Tree} → Between b c → (n : ℕ) (answers : List ℕ) → Spares (run n b answers) (run n c answers)
run-spared = run-related MayGetReturn Spares Spares-along (λ r p. inl refl) Spares-returned

pub Between-Spared : (b c : Tree) → Between b c → Spared b c
Between-Spared b c h n answers r d = elim (run-spared h n answers) [
  | inl p ↦ inl (subst (λ x. BlockRuns n c answers x) (p ∙ sym (BlockRuns-only d)) (BlockRuns-run n c answers))
  | inr p ↦ inr (subst (λ x. BlockRuns n c answers x) (p ∙ ap turned (sym (BlockRuns-only d))) (BlockRuns-run n c answers))
]

pub ruleset turned_runs = (Closed-Turned, Between-Spared)
