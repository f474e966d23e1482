-- Runs of a block that evaluates nothing again in its scope.
use Rattle.std.proofs.Common.{ℕ, zero, suc, inl, inr, List, [], ◌∷◌, ◌++◌, append-nil, Option, Some, None, subst, arith, sym}
use Rattle.std.proofs.lemmas.List.Elements.{Contains-append_cases, Contains-append_right}
use Rattle.std.specs.List.{Contains}
use Rattle.naga_ir.specs.Tree.{Tree, Node, Jump, break, continue, kill, return, Cases, no_cases, case}
use Rattle.naga_runs.specs.Runs.{Run, from, Asks, not_asked, unanswered, says_no, says_yes, BlockRuns, nothing, goes_on, stops, StatementRuns, meets, jumps, enters, rejects, accepts, selects, loops, CasesRun, past, falls, broken, ends, passed_on, LoopRuns, no_turn, again, left, over, TurnRuns, in_body, in_continuing, whole, undecided, unselected}
use Rattle.naga_flow.specs.Events.{Event, evaluated_in, events, events_of_asking, events_of_cases, events_of_jump, events_of_loop, events_of_statement, events_of_turn}
use Rattle.naga_flow.specs.Results.{evaluated_by}
use Rattle.naga_flow.specs.Scopes.{AreNew, CasesEvaluatedOnce, EvaluatedOnce, NodeEvaluatedOnce}
use Rattle.naga_flow.specs.Uses.{values_of}
use Rattle.naga_flow.proofs.EventsLemmas.{evaluated_in-append}
use Rattle.naga_flow.proofs.IncludesLemmas.{Contains-one}

absent-nothing : (x : ℕ) → ¬ Contains {X = ℕ} [] x
absent-nothing x c = omega (arith, c.1)

absent-both : (xs ys : List Event) (x : ℕ) → ¬ Contains (evaluated_in xs) x → ¬ Contains (evaluated_in ys) x → ¬ Contains (evaluated_in (xs ++ ys)) x
absent-both xs ys x h k c =
    elim (Contains-append_cases (evaluated_in xs) (evaluated_in ys) x (subst (λ all. Contains all x) (evaluated_in-append xs ys) c)) as (λ _. ⊥) [
      | inl a ↦ h a
      | inr b ↦ k b
    ]

AreNew-absent : (scope xs : List ℕ) (x : ℕ) → AreNew scope xs → Contains scope x → ¬ Contains xs x
AreNew-absent scope [] x h c d = absent-nothing x d
AreNew-absent scope (y ∷ ys) x h c d =
    let later : ¬ Contains ys x = AreNew-absent (y ∷ scope) ys x h.1 (Contains-append_right (y ∷ []) scope x c) in
    elim (Contains-append_cases (y ∷ []) ys x d) as (λ _. ⊥) [
      | inl a ↦ h.0 (subst (λ z. Contains scope z) (sym (Contains-one y x a)) c)
      | inr b ↦ later b
    ]

jump-absent : (to : Jump) (x : ℕ) → ¬ Contains (evaluated_in (events_of_jump to)) x
jump-absent break x c = absent-nothing x c
jump-absent continue x c = absent-nothing x c
jump-absent kill x c = absent-nothing x c
jump-absent (return None) x c = absent-nothing x c
jump-absent (return (Some value)) x c = absent-nothing x c

Asks-absent : {break_if : Option ℕ} {answers : List ℕ} {run : Run} (d : Asks break_if answers run) (x : ℕ) → ¬ Contains (evaluated_in (events_of_asking d)) x
Asks-absent not_asked x c = absent-nothing x c
Asks-absent unanswered x c = absent-nothing x c
Asks-absent says_no x c = absent-nothing x c
Asks-absent says_yes x c = absent-nothing x c

CasesEvaluatedOnce-from : (scope : List ℕ) (k : ℕ) (cases : Cases) → CasesEvaluatedOnce scope cases → CasesEvaluatedOnce scope (from k cases)
CasesEvaluatedOnce-from scope zero cases h = h
CasesEvaluatedOnce-from scope (suc k) no_cases h = h
CasesEvaluatedOnce-from scope (suc k) (case value body falls_through others) h = CasesEvaluatedOnce-from scope k others h.1

-- what is in scope before is evaluated by no event
mutual
  pub BlockRuns-once : {n : ℕ} {b : Tree} {answers : List ℕ} {run : Run} (scope : List ℕ) (x : ℕ) (d : BlockRuns n b answers run) → Contains scope x →
      EvaluatedOnce scope b → ¬ Contains (evaluated_in (events d)) x
  BlockRuns-once scope x nothing c h = absent-nothing x
  BlockRuns-once scope x (goes_on {front = front} d e k) c h =
      absent-both (events d) (events_of_statement k) x (BlockRuns-once scope x d c h.0)
      (StatementRuns-once (values_of front ++ scope) x k (Contains-append_right (values_of front) scope x c) h.1)
  BlockRuns-once scope x (stops d e) c h = BlockRuns-once scope x d c h.0

  pub StatementRuns-once : {n : ℕ} {s : Node} {answers : List ℕ} {run : Run} (scope : List ℕ) (x : ℕ) (d : StatementRuns n s answers run) → Contains scope x →
      NodeEvaluatedOnce scope s → ¬ Contains (evaluated_in (events_of_statement d)) x
  StatementRuns-once scope x (meets {what = what}) c h =
      λ found. AreNew-absent scope (evaluated_by what) x h c (subst (λ xs. Contains xs x) (append-nil (evaluated_by what)) found)
  StatementRuns-once scope x (jumps {to = to}) c h = jump-absent to x
  StatementRuns-once scope x (enters d) c h = BlockRuns-once scope x d c h
  StatementRuns-once scope x undecided c h = absent-nothing x
  StatementRuns-once scope x (rejects d) c h = BlockRuns-once scope x d c h.1
  StatementRuns-once scope x (accepts d) c h = BlockRuns-once scope x d c h.0
  StatementRuns-once scope x unselected c h = absent-nothing x
  StatementRuns-once scope x (selects {cases = cases} d) c h = CasesRun-once scope x d c (CasesEvaluatedOnce-from scope _ cases h)
  StatementRuns-once scope x (loops d) c h = LoopRuns-once scope x d c h.0 h.1

  CasesRun-once : {n : ℕ} {cases : Cases} {answers : List ℕ} {run : Run} (scope : List ℕ) (x : ℕ) (d : CasesRun n cases answers run) → Contains scope x →
      CasesEvaluatedOnce scope cases → ¬ Contains (evaluated_in (events_of_cases d)) x
  CasesRun-once scope x past c h = absent-nothing x
  CasesRun-once scope x (falls d e k) c h = absent-both (events d) (events_of_cases k) x (BlockRuns-once scope x d c h.0) (CasesRun-once scope x k c h.1)
  CasesRun-once scope x (broken d e) c h = BlockRuns-once scope x d c h.0
  CasesRun-once scope x (ends d e) c h = BlockRuns-once scope x d c h.0
  CasesRun-once scope x (passed_on d e k) c h = BlockRuns-once scope x d c h.0

  LoopRuns-once : {n others : ℕ} {b c : Tree} {break_if : Option ℕ} {answers : List ℕ} {run : Run} (scope : List ℕ) (x : ℕ) (d : LoopRuns n others b c break_if answers run) →
      Contains scope x → EvaluatedOnce scope b → EvaluatedOnce (values_of b ++ scope) c → ¬ Contains (evaluated_in (events_of_loop d)) x
  LoopRuns-once scope x no_turn has h k = absent-nothing x
  LoopRuns-once scope x (again d e t) has h k =
      absent-both (events_of_turn d) (events_of_loop t) x (TurnRuns-once scope x d has h k) (LoopRuns-once scope x t has h k)
  LoopRuns-once scope x (left d e) has h k = TurnRuns-once scope x d has h k
  LoopRuns-once scope x (over d e t) has h k = TurnRuns-once scope x d has h k

  TurnRuns-once : {n : ℕ} {b c : Tree} {break_if : Option ℕ} {answers : List ℕ} {run : Run} (scope : List ℕ) (x : ℕ) (d : TurnRuns n b c break_if answers run) →
      Contains scope x → EvaluatedOnce scope b → EvaluatedOnce (values_of b ++ scope) c → ¬ Contains (evaluated_in (events_of_turn d)) x
  TurnRuns-once scope x (in_body d e) has h k = BlockRuns-once scope x d has h
  TurnRuns-once scope x (in_continuing {body = b} d e t u) has h k =
      absent-both (events d) (events t) x (BlockRuns-once scope x d has h)
      (BlockRuns-once (values_of b ++ scope) x t (Contains-append_right (values_of b) scope x has) k)
  TurnRuns-once scope x (whole {body = b} d e t u asks) has h k =
      absent-both (events d) (events t ++ events_of_asking asks) x (BlockRuns-once scope x d has h)
      (absent-both (events t) (events_of_asking asks) x (BlockRuns-once (values_of b ++ scope) x t (Contains-append_right (values_of b) scope x has) k) (Asks-absent asks x))
