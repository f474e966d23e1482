-- The endings of runs of blocks in which each jump is allowed where it is.
use Rattle.std.proofs.Common.{◌≡◌, ◌≢◌, ℕ, zero, suc, true, false, ◌⊎◌, inl, inr, List, Option, refl}
use Rattle.std.proofs.lemmas.Bool.{and_parts}
use Rattle.naga_ir.specs.Tree.{Tree, Node, Cases, case, no_cases, Jump, break, continue, kill, return}
use Rattle.naga_runs.specs.Runs.{Run, from, Asks, not_asked, unanswered, says_no, says_yes, BlockRuns, nothing, goes_on, stops, StatementRuns, meets, jumps, enters, rejects, accepts, selects, loops, CasesRun, past, falls, broken, ends, passed_on, LoopRuns, no_turn, again, left, over, TurnRuns, in_body, in_continuing, whole, undecided, unselected, ending_of}
use Rattle.naga_runs.specs.declared.run.Ending.{Ending}
use Rattle.naga_runs.specs.declared.run.Ending.TheVariants.{Normal, Break, Continue, Return, Kill, Cut}
use Rattle.naga_flow.specs.declared.exits.Exits.{Exits}
use Rattle.naga_flow.specs.Structured.{in_case, in_body_of_loop, of_continuing, of_function, allows, is_structured, node_is_structured, cases_are_structured, may_end}

-- the ending of the body of a case that is not left by a break
may_end-case : (around : Exits) (e : Ending) → may_end (in_case around) e ≡ true → e ≢ Break → may_end around e ≡ true
may_end-case around Break h k = absurd (k refl)
may_end-case around Normal h k = refl
may_end-case around Continue h k = h
may_end-case around (Return value) h k = h
may_end-case around Kill h k = h
may_end-case around Cut h k = refl

-- a turn ends by no continue, and otherwise as the body of the loop may
abbrev TurnMayEnd : Exits → Ending → Type 0
TurnMayEnd around e = (may_end (in_body_of_loop around) e ≡ true) × (e ≢ Continue)

may_end-loop : (around : Exits) (e : Ending) → TurnMayEnd around e → e ≢ Break → may_end around e ≡ true
may_end-loop around Break h k = absurd (k refl)
may_end-loop around Continue h k = absurd (h.1 refl)
may_end-loop around Normal h k = refl
may_end-loop around (Return value) h k = h.0
may_end-loop around Kill h k = h.0
may_end-loop around Cut h k = refl

may_end-continuing : (around : Exits) (e : Ending) → may_end of_continuing e ≡ true → TurnMayEnd around e
may_end-continuing around Normal h = (refl, λ q. cc)
may_end-continuing around Break h = absurd (let e : false ≡ true = h in cc)
may_end-continuing around Continue h = absurd (let e : false ≡ true = h in cc)
may_end-continuing around (Return value) h = absurd (let e : false ≡ true = h in cc)
may_end-continuing around Kill h = absurd (let e : false ≡ true = h in cc)
may_end-continuing around Cut h = (refl, λ q. cc)

may_end-ending_of : (around : Exits) (to : Jump) → allows around to ≡ true → may_end around (ending_of to) ≡ true
may_end-ending_of around break h = h
may_end-ending_of around continue h = h
may_end-ending_of around (return value) h = h
may_end-ending_of around kill h = h

Asks-TurnMayEnd : {break_if : Option ℕ} {answers : List ℕ} {run : Run} (around : Exits) → Asks break_if answers run → TurnMayEnd around run.ending
Asks-TurnMayEnd around not_asked = (refl, λ q. cc)
Asks-TurnMayEnd around unanswered = (refl, λ q. cc)
Asks-TurnMayEnd around says_no = (refl, λ q. cc)
Asks-TurnMayEnd around says_yes = (refl, λ q. cc)

cases_are_structured-from : (around : Exits) (k : ℕ) (cases : Cases) → cases_are_structured around cases ≡ true → cases_are_structured around (from k cases) ≡ true
cases_are_structured-from around zero cases h = h
cases_are_structured-from around (suc k) no_cases h = h
cases_are_structured-from around (suc k) (case value body falls_through others) h =
    cases_are_structured-from around k others (and_parts (is_structured (in_case around) body) (cases_are_structured around others) h).1

mutual
  pub BlockRuns-may_end : {n : ℕ} {b : Tree} {answers : List ℕ} {run : Run} (around : Exits) → BlockRuns n b answers run →
      is_structured around b ≡ true → may_end around run.ending ≡ true
  BlockRuns-may_end around nothing h = refl
  BlockRuns-may_end around (goes_on {front = front} {last = last} d e k) h =
      StatementRuns-may_end around k (and_parts (is_structured around front) (node_is_structured around last) h).1
  BlockRuns-may_end around (stops {front = front} {last = last} d e) h =
      BlockRuns-may_end around d (and_parts (is_structured around front) (node_is_structured around last) h).0

  StatementRuns-may_end : {n : ℕ} {s : Node} {answers : List ℕ} {run : Run} (around : Exits) → StatementRuns n s answers run →
      node_is_structured around s ≡ true → may_end around run.ending ≡ true
  StatementRuns-may_end around meets h = refl
  StatementRuns-may_end around (jumps {to = to}) h = may_end-ending_of around to h
  StatementRuns-may_end around (enters d) h = BlockRuns-may_end around d h
  StatementRuns-may_end around undecided h = refl
  StatementRuns-may_end around (rejects {accept = accept} {reject = reject} d) h =
      BlockRuns-may_end around d (and_parts (is_structured around accept) (is_structured around reject) h).1
  StatementRuns-may_end around (accepts {accept = accept} {reject = reject} d) h =
      BlockRuns-may_end around d (and_parts (is_structured around accept) (is_structured around reject) h).0
  StatementRuns-may_end around unselected h = refl
  StatementRuns-may_end around (selects {cases = cases} d) h = CasesRun-may_end around d (cases_are_structured-from around _ cases h)
  StatementRuns-may_end around (loops {body = body} {continuing = continuing} d) h =
      let parts = and_parts (is_structured (in_body_of_loop around) body) (is_structured of_continuing continuing) h in
      LoopRuns-may_end around d parts.0 parts.1

  CasesRun-may_end : {n : ℕ} {cases : Cases} {answers : List ℕ} {run : Run} (around : Exits) → CasesRun n cases answers run →
      cases_are_structured around cases ≡ true → may_end around run.ending ≡ true
  CasesRun-may_end around past h = refl
  CasesRun-may_end around (falls {body = body} {others = others} d e k) h =
      CasesRun-may_end around k (and_parts (is_structured (in_case around) body) (cases_are_structured around others) h).1
  CasesRun-may_end around (broken d e) h = refl
  CasesRun-may_end around (ends {body = body} {others = others} {run = r} d e) h =
      may_end-case around r.ending (BlockRuns-may_end (in_case around) d (and_parts (is_structured (in_case around) body) (cases_are_structured around others) h).0) e
  CasesRun-may_end around (passed_on {body = body} {others = others} {run = r} d e k) h =
      may_end-case around r.ending (BlockRuns-may_end (in_case around) d (and_parts (is_structured (in_case around) body) (cases_are_structured around others) h).0) e

  LoopRuns-may_end : {n others : ℕ} {b c : Tree} {break_if : Option ℕ} {answers : List ℕ} {run : Run} (around : Exits) →
      LoopRuns n others b c break_if answers run → is_structured (in_body_of_loop around) b ≡ true → is_structured of_continuing c ≡ true →
      may_end around run.ending ≡ true
  LoopRuns-may_end around no_turn h k = refl
  LoopRuns-may_end around (again d e t) h k = LoopRuns-may_end around t h k
  LoopRuns-may_end around (left d e) h k = refl
  LoopRuns-may_end around (over {run = r} d e t) h k = may_end-loop around r.ending (TurnRuns-may_end around d h k) e

  TurnRuns-may_end : {n : ℕ} {b c : Tree} {break_if : Option ℕ} {answers : List ℕ} {run : Run} (around : Exits) →
      TurnRuns n b c break_if answers run → is_structured (in_body_of_loop around) b ≡ true → is_structured of_continuing c ≡ true →
      TurnMayEnd around run.ending
  TurnRuns-may_end around (in_body d e) h k = (BlockRuns-may_end (in_body_of_loop around) d h, λ q. e (inr q))
  TurnRuns-may_end around (in_continuing {second = second} d e t u) h k = may_end-continuing around second.ending (BlockRuns-may_end of_continuing t k)
  TurnRuns-may_end around (whole d e t u asks) h k = Asks-TurnMayEnd around asks

-- the ending of a run of a body that does not fall off the end
pub may_end-function : (e : Ending) → may_end of_function e ≡ true → e ≢ Normal → ((value : Option ℕ) × (e ≡ Return value)) ⊎ (e ≡ Kill) ⊎ (e ≡ Cut)
may_end-function Normal h k = absurd (k refl)
may_end-function Break h k = absurd (let q : false ≡ true = h in cc)
may_end-function Continue h k = absurd (let q : false ≡ true = h in cc)
may_end-function (Return value) h k = inl (value, refl)
may_end-function Kill h k = inr (inl refl)
may_end-function Cut h k = inr (inr refl)
