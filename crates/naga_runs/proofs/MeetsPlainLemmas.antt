-- Runs that meet a plain statement: a whole has such a run if one of its parts has one.
use Rattle.std.proofs.Common.{◌≡◌, ◌≢◌, ℕ, suc, Bool, true, List, [], ◌∷◌, ◌++◌, drop, Option, refl, sym, ◌∙◌, ap, subst}
use Rattle.naga_arena.specs.declared.span.Span.{Span}
use Rattle.naga_kinds.specs.declared.switch.SwitchValue.{SwitchValue}
use Rattle.naga_ir.specs.Tree.{is_plain, Tree, push, Node, Cases, case}
use Rattle.naga_ir.specs.View.{node_of}
use Rattle.naga_ir.specs.declared.statement.Statement.{Statement}
use Rattle.naga_ir.proofs.NodeOfLemmas.{node_of-plain}
use Rattle.naga_runs.specs.Replay.Walking.{Walked, MeetsPlain}
use Rattle.naga_runs.specs.Runs.{Run, meeting, answered, joined, GoesOn, BlockRuns, StatementRuns, meets, CasesRun, LoopRuns, TurnRuns}
use Rattle.naga_runs.specs.declared.run.Ending.{Ending}
use Rattle.naga_runs.specs.declared.run.Ending.TheVariants.{Normal, Break, Continue}
use Rattle.naga_runs.specs.declared.walk.Stop.{Stop}
use Rattle.naga_runs.specs.declared.walk.Walk.{Walk}
use Rattle.naga_runs.proofs.BlockRunsLemmas.{BlockRuns-only, StatementRuns-run, BlockRuns-run, CasesRun-run, LoopRuns-turn_run, Asks-breaks, BlockRuns-after_by, CasesRun-case_by, TurnRuns-step_by, TurnRuns-joined, LoopRuns-loop_by}
use Rattle.naga_runs.proofs.Execution.{run, statement_run, cases_run, turns_run, turn_run, breaks, after_by, case_by, step_by, step, loop_by}

-- the statements that two parts meet
append-not_empty_left : (xs ys : List Statement) → xs ≢ [] → xs ++ ys ≢ []
append-not_empty_left [] ys h = λ q. h refl
append-not_empty_left (x ∷ xs) ys h = λ q. cc

append-not_empty_right : (xs ys : List Statement) → ys ≢ [] → xs ++ ys ≢ []
append-not_empty_right [] ys h = h
append-not_empty_right (x ∷ xs) ys h = λ q. cc

-- the second part meets a plain statement
pub MeetsPlain-joined : (First Second Whole : List ℕ → Run → Type 0) {old mid : Walk} {stop : Stop} →
    Walked First old mid stop → MeetsPlain Second mid.answers.now →
    ((answers : List ℕ) (first second : Run) → stop.ending ≡ first.ending → First answers first → Second (drop first.used answers) second → Whole answers (joined first second)) →
    MeetsPlain Whole old.answers.now
MeetsPlain-joined First Second Whole {old = old} d m rule =
    (joined d.run m.0, rule old.answers.now d.run m.0 d.went.ending d.fits (subst (λ l. Second l m.0) d.went.answers m.1), append-not_empty_right d.run.trace m.0.trace m.2)

-- the part meets one, after an answer was read
pub MeetsPlain-answered : (Part Whole : List ℕ → Run → Type 0) (answers rest : List ℕ) (answer : ℕ) → answers ≡ answer ∷ rest → MeetsPlain Part rest →
    ((run : Run) → Part rest run → Whole (answer ∷ rest) (answered run)) → MeetsPlain Whole answers
MeetsPlain-answered Part Whole answers rest answer p m rule =
    (answered m.0, subst (λ l. Whole l (answered m.0)) (sym p) (rule m.0 m.1), m.2)

-- ---- the first part meets one, whatever comes after it

after_by-met : (e : Ending) (first second : Run) → first.trace ≢ [] → (after_by e first second).trace ≢ []
after_by-met Normal first second h = append-not_empty_left first.trace second.trace h
after_by-met _ first second h = h

pub MeetsPlain-push : (n : ℕ) (front : Tree) (last : Node) (span : Span) (answers : List ℕ) →
    MeetsPlain (BlockRuns n front) answers → MeetsPlain (BlockRuns n (push front last span)) answers
MeetsPlain-push n front last span answers m =
    let first = m.0 in
    let rest = drop first.used answers in
    let second = statement_run n last rest in
    (after_by first.ending first second, BlockRuns-after_by m.1 (StatementRuns-run n last rest) first.ending refl, after_by-met first.ending first second m.2)

case_by-met : (e : Ending) (through : Bool) (first second : Run) → first.trace ≢ [] → (case_by e through first second).trace ≢ []
case_by-met Normal true first second h = append-not_empty_left first.trace second.trace h
case_by-met Break through first second h = h
case_by-met _ through first second h = h

pub MeetsPlain-case : (n : ℕ) (value : SwitchValue) (body : Tree) (through : Bool) (others : Cases) (answers : List ℕ) →
    MeetsPlain (BlockRuns n body) answers → MeetsPlain (CasesRun n (case value body through others)) answers
MeetsPlain-case n value body through others answers m =
    let first = m.0 in
    let rest = drop first.used answers in
    let second = cases_run n others 0 rest in
    (case_by first.ending through first second, CasesRun-case_by m.1 (CasesRun-run n others 0 rest) through first.ending refl, case_by-met first.ending through first second m.2)

loop_by-met : (e : Ending) (first second : Run) → first.trace ≢ [] → (loop_by e first second).trace ≢ []
loop_by-met Normal first second h = append-not_empty_left first.trace second.trace h
loop_by-met Break first second h = h
loop_by-met _ first second h = h

pub MeetsPlain-loop : (n k : ℕ) (body continuing : Tree) (break_if : Option ℕ) (answers : List ℕ) →
    MeetsPlain (TurnRuns n body continuing break_if) answers → MeetsPlain (LoopRuns n (suc k) body continuing break_if) answers
MeetsPlain-loop n k body continuing break_if answers m =
    let first = m.0 in
    let rest = drop first.used answers in
    let second = turns_run k (turn_run (run n body) (run n continuing) break_if) rest in
    (loop_by first.ending first second, LoopRuns-loop_by m.1 (LoopRuns-turn_run n k body continuing break_if rest) first.ending refl, loop_by-met first.ending first second m.2)

step_by-met : (e : Ending) (first second : Run) → first.trace ≢ [] → (step_by e first second).trace ≢ []
step_by-met Normal first second h = append-not_empty_left first.trace second.trace h
step_by-met Continue first second h = append-not_empty_left first.trace second.trace h
step_by-met _ first second h = h

pub MeetsPlain-in_body : (n : ℕ) (body continuing : Tree) (break_if : Option ℕ) (answers : List ℕ) →
    MeetsPlain (BlockRuns n body) answers → MeetsPlain (TurnRuns n body continuing break_if) answers
MeetsPlain-in_body n body continuing break_if answers m =
    let first = m.0 in
    let rest = drop first.used answers in
    let second = run n continuing rest in
    let third = breaks break_if (drop second.used rest) in
    (step_by first.ending first (step second third), TurnRuns-step_by m.1 (BlockRuns-run n continuing rest) (Asks-breaks break_if (drop second.used rest)) first.ending refl, step_by-met first.ending first (step second third) m.2)

pub MeetsPlain-in_continuing : (n : ℕ) (body continuing : Tree) (break_if : Option ℕ) (old mid : Walk) (stop : Stop) →
    Walked (BlockRuns n body) old mid stop → GoesOn stop.ending → MeetsPlain (BlockRuns n continuing) mid.answers.now →
    MeetsPlain (TurnRuns n body continuing break_if) old.answers.now
MeetsPlain-in_continuing n body continuing break_if old mid stop d g m =
    let first = d.run in
    let second = m.0 in
    let third = breaks break_if (drop second.used (drop first.used old.answers.now)) in
    let fits : BlockRuns n continuing (drop first.used old.answers.now) second = subst (λ l. BlockRuns n continuing l second) d.went.answers m.1 in (
      joined first (step_by second.ending second third),
      TurnRuns-joined d.fits (subst GoesOn d.went.ending g) fits (Asks-breaks break_if (drop second.used (drop first.used old.answers.now))) second.ending refl,
      append-not_empty_right first.trace (step_by second.ending second third).trace (step_by-met second.ending second third m.2),
    )

-- ---- a plain statement, and a block

pub MeetsPlain-plain : (turns : ℕ) (s : Statement) (answers : List ℕ) → is_plain (node_of s) ≡ true → MeetsPlain (StatementRuns turns (node_of s)) answers
MeetsPlain-plain turns s answers h =
    (meeting s, subst (λ x. StatementRuns turns x answers (meeting s)) (sym (node_of-plain s h)) meets, λ q. cc)

-- every run of a block meets one if some run does, since a block has no other run
pub MeetsPlain-every_run : (n : ℕ) (b : Tree) (answers : List ℕ) → MeetsPlain (BlockRuns n b) answers → (run : Run) → BlockRuns n b answers run → run.trace ≢ []
MeetsPlain-every_run n b answers m r d =
    λ q. m.2 (ap (λ x. x.trace) (BlockRuns-only m.1 ∙ sym (BlockRuns-only d)) ∙ q)
