-- The runs of alike blocks, rule by rule.
use Rattle.std.proofs.Common.{◌≡◌, sym, ap, subst, refl, ℕ, zero, suc, List, ◌∷◌, Option, Some, None, Bool}
use Rattle.std.specs.Prelude.{is_some}
use Rattle.naga_arena.specs.declared.span.Span.{Span}
use Rattle.naga_kinds.specs.declared.switch.SwitchValue.{SwitchValue}
use Rattle.naga_ir.specs.Tree.{Tree, push, Node, nested, branch, switch, loop, Cases, no_cases, case}
use Rattle.naga_runs.specs.Alike.{Alike, replaced, in_push, AlikeStatements, unchanged, in_nested, in_branch, in_switch, in_loop, AlikeCases, no_more, one_more}
use Rattle.naga_runs.specs.Runs.{Run, values, from, entered, Asks, not_asked, unanswered, says_no, says_yes, goes_on, stops, StatementRuns, enters, undecided, rejects, accepts, unselected, selects, loops, CasesRun, past, falls, broken, ends, passed_on, LoopRuns, no_turn, again, left, over, TurnRuns, in_body, in_continuing, whole}
use Rattle.naga_runs.specs.RunsFit.{RunsFit}
use Rattle.naga_runs.proofs.RunsFitLemmas.{RunsFit-converse}

-- each run of the first statement is a run of the second
abbrev StatementRunsFit : Node → Node → Type 0
StatementRunsFit old new = (turns : ℕ) (answers : List ℕ) (run : Run) → StatementRuns turns old answers run → StatementRuns turns new answers run

-- the runs of each body of the first cases fit the body of the second cases at the same position
data BodiesFit : Cases → Cases → Type 0 where
  no_bodies : BodiesFit no_cases no_cases
  body_fits : {value : SwitchValue} {b c : Tree} {through : Bool} {cs ds : Cases} →
      RunsFit b c → BodiesFit cs ds → BodiesFit (case value b through cs) (case value c through ds)

BodiesFit-values : {cs ds : Cases} → BodiesFit cs ds → values ds ≡ values cs
BodiesFit-values no_bodies = refl
BodiesFit-values (body_fits {value = v} h k) = ap (λ rest. v ∷ rest) (BodiesFit-values k)

BodiesFit-from : (position : ℕ) {cs ds : Cases} → BodiesFit cs ds → BodiesFit (from position cs) (from position ds)
BodiesFit-from zero h = h
BodiesFit-from (suc position) no_bodies = no_bodies
BodiesFit-from (suc position) (body_fits h k) = BodiesFit-from position k

BodiesFit-runs : {cs ds : Cases} {n : ℕ} {answers : List ℕ} {run : Run} → BodiesFit cs ds → CasesRun n cs answers run → CasesRun n ds answers run
BodiesFit-runs no_bodies past = past
BodiesFit-runs (body_fits h k) (falls d e s) = falls (h _ _ _ d) e (BodiesFit-runs k s)
BodiesFit-runs (body_fits h k) (broken d e) = broken (h _ _ _ d) e
BodiesFit-runs (body_fits h k) (ends d e) = ends (h _ _ _ d) e
BodiesFit-runs (body_fits h k) (passed_on d e f) = passed_on (h _ _ _ d) e f

Asks-alike : {i j : Option ℕ} {answers : List ℕ} {run : Run} → is_some i ≡ is_some j → Asks i answers run → Asks j answers run
Asks-alike {j = None} e not_asked = not_asked
Asks-alike {j = Some y} e not_asked = cc
Asks-alike {j = None} e unanswered = cc
Asks-alike {j = Some y} e unanswered = unanswered
Asks-alike {j = None} e says_no = cc
Asks-alike {j = Some y} e says_no = says_no
Asks-alike {j = None} e says_yes = cc
Asks-alike {j = Some y} e says_yes = says_yes

TurnRuns-fit : {n : ℕ} {b c d e : Tree} {i j : Option ℕ} {answers : List ℕ} {run : Run} → RunsFit b c → RunsFit d e → is_some i ≡ is_some j →
    TurnRuns n b d i answers run → TurnRuns n c e j answers run
TurnRuns-fit h k p (in_body r x) = in_body (h _ _ _ r) x
TurnRuns-fit h k p (in_continuing r x s y) = in_continuing (h _ _ _ r) x (k _ _ _ s) y
TurnRuns-fit h k p (whole r x s y z) = whole (h _ _ _ r) x (k _ _ _ s) y (Asks-alike p z)

LoopRuns-fit : {n others : ℕ} {b c d e : Tree} {i j : Option ℕ} {answers : List ℕ} {run : Run} → RunsFit b c → RunsFit d e → is_some i ≡ is_some j →
    LoopRuns n others b d i answers run → LoopRuns n others c e j answers run
LoopRuns-fit h k p no_turn = no_turn
LoopRuns-fit h k p (again r x s) = again (TurnRuns-fit h k p r) x (LoopRuns-fit h k p s)
LoopRuns-fit h k p (left r x) = left (TurnRuns-fit h k p r) x
LoopRuns-fit h k p (over r x y) = over (TurnRuns-fit h k p r) x y

RunsFit-push : {b c : Tree} {s t : Node} {span span' : Span} → RunsFit b c → StatementRunsFit s t → RunsFit (push b s span) (push c t span')
RunsFit-push h k turns answers run (goes_on d e s) = goes_on (h _ _ _ d) e (k _ _ _ s)
RunsFit-push h k turns answers run (stops d e) = stops (h _ _ _ d) e

StatementRunsFit-nested : {b c : Tree} → RunsFit b c → StatementRunsFit (nested b) (nested c)
StatementRunsFit-nested h turns answers run (enters d) = enters (h _ _ _ d)

StatementRunsFit-branch : {x y : ℕ} {b c d e : Tree} → RunsFit b c → RunsFit d e → StatementRunsFit (branch x b d) (branch y c e)
StatementRunsFit-branch h k turns answers run undecided = undecided
StatementRunsFit-branch h k turns answers run (rejects d) = rejects (k _ _ _ d)
StatementRunsFit-branch h k turns answers run (accepts d) = accepts (h _ _ _ d)

StatementRunsFit-switch : {x y : ℕ} {cs ds : Cases} → BodiesFit cs ds → StatementRunsFit (switch x cs) (switch y ds)
StatementRunsFit-switch h turns answers run unselected = unselected
StatementRunsFit-switch {cs = cs} {ds = ds} h turns answers run (selects {answer = x} {answers = a} {run = r} d) =
    selects (subst (λ vs. CasesRun turns (from (entered vs x) ds) a r) (sym (BodiesFit-values h))
    (BodiesFit-runs (BodiesFit-from (entered (values cs) x) h) d))

StatementRunsFit-loop : {b c d e : Tree} {i j : Option ℕ} → RunsFit b c → RunsFit d e → is_some i ≡ is_some j → StatementRunsFit (loop b d i) (loop c e j)
StatementRunsFit-loop h k p turns answers run (loops d) = loops (LoopRuns-fit h k p d)

mutual
  Alike-fits : {b c : Tree} → Alike b c → RunsFit b c
  Alike-fits (replaced h) = h
  Alike-fits (in_push h k) = RunsFit-push (Alike-fits h) (AlikeStatements-fit k)

  AlikeStatements-fit : {s t : Node} → AlikeStatements s t → StatementRunsFit s t
  AlikeStatements-fit unchanged = λ turns answers run d. d
  AlikeStatements-fit (in_nested h) = StatementRunsFit-nested (Alike-fits h)
  AlikeStatements-fit (in_branch h k) = StatementRunsFit-branch (Alike-fits h) (Alike-fits k)
  AlikeStatements-fit (in_switch h) = StatementRunsFit-switch (AlikeCases-fit h)
  AlikeStatements-fit (in_loop h k p) = StatementRunsFit-loop (Alike-fits h) (Alike-fits k) p

  AlikeCases-fit : {cs ds : Cases} → AlikeCases cs ds → BodiesFit cs ds
  AlikeCases-fit no_more = no_bodies
  AlikeCases-fit (one_more h k) = body_fits (Alike-fits h) (AlikeCases-fit k)

pub Alike-RunsFit : (b c : Tree) → Alike b c → RunsFit b c × RunsFit c b
Alike-RunsFit b c h = (Alike-fits h, RunsFit-converse (Alike-fits h))
