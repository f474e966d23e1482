-- The runs of a switch without an exit.
use Rattle.naga_runs.proofs.BreaksOutLemmas.{breaks_out-BlockRuns}
use Rattle.naga_runs.proofs.HasDefaultLemmas.{entered-within}
use Rattle.naga_runs.proofs.HasExitLemmas.{has_exit-false}
use Rattle.naga_runs.proofs.LastFallsLemmas.{last_falls-others, last_falls-falling}
use Rattle.std.proofs.lemmas.Bool.{or_parts}
use Rattle.std.proofs.Common.{◌≡◌, ℕ, zero, suc, ◌<◌, Bool, true, false, List, length, arith}
use Rattle.naga_kinds.specs.declared.switch.SwitchValue.{SwitchValue}
use Rattle.naga_ir.specs.Tree.{Tree, switch, Cases, no_cases, case}
use Rattle.naga_runs.proofs.Execution.{run}
use Rattle.naga_runs.specs.Runs.{Run, StatementRuns, unselected, selects, CasesRun, past, falls, broken, ends, passed_on, entered, from, values}
use Rattle.naga_runs.specs.RunsFit.{NeverFallsOff}
use Rattle.naga_runs.specs.declared.run.Ending.TheVariants.{Normal}
use Rattle.naga_proc.specs.Closing.{IsCaseTail, itself, in_first, in_others}
use Rattle.naga_runs.specs.Exits.{breaks_out, a_case_breaks, last_falls, has_exit}

-- some tail block in the cases falls off its end
abbrev SomeTailFalls : Cases → Type 0
SomeTailFalls cases = (tail : Tree) × IsCaseTail tail cases × ¬ NeverFallsOff tail

SomeTailFalls-others : (v : SwitchValue) (b : Tree) (f : Bool) (cs : Cases) → SomeTailFalls cs → SomeTailFalls (case v b f cs)
SomeTailFalls-others v b f cs found = (found.0, in_others found.1, found.2)

CasesRun-SomeTailFalls : {n : ℕ} {cases : Cases} {answers : List ℕ} {r : Run} → CasesRun n cases answers r →
    0 < length (values cases) → last_falls cases ≡ false → a_case_breaks cases ≡ false → r.ending ≡ Normal → SomeTailFalls cases
CasesRun-SomeTailFalls past within l h e = absurd (omega (arith, within))
CasesRun-SomeTailFalls (falls {value = v} {body = b} {others = cs} d p k) within l h e =
    let on = last_falls-falling v b cs l in
    SomeTailFalls-others v b true cs (CasesRun-SomeTailFalls k on.0 on.1 (or_parts (breaks_out b) (a_case_breaks cs) h).1 e)
CasesRun-SomeTailFalls (broken {body = b} {others = cs} d p) within l h e =
    absurd (breaks_out-BlockRuns d (or_parts (breaks_out b) (a_case_breaks cs) h).0 p)
CasesRun-SomeTailFalls {n = n} {answers = answers} (ends {body = b} {run = r} d p) within l h e =
    (b, in_first itself, λ never. never n answers r d e)
CasesRun-SomeTailFalls (passed_on d p q) within l h e = absurd (q e)

CasesRun-from-SomeTailFalls : {n : ℕ} {answers : List ℕ} {r : Run} (k : ℕ) (cases : Cases) → CasesRun n (from k cases) answers r →
    k < length (values cases) → last_falls cases ≡ false → a_case_breaks cases ≡ false → r.ending ≡ Normal → SomeTailFalls cases
CasesRun-from-SomeTailFalls zero cases d within l h e = CasesRun-SomeTailFalls d within l h e
CasesRun-from-SomeTailFalls (suc k) no_cases d within l h e = absurd (omega (arith, within))
CasesRun-from-SomeTailFalls (suc k) (case v b f cs) d within l h e =
    SomeTailFalls-others v b f cs (CasesRun-from-SomeTailFalls k cs d (omega (arith, within)) (last_falls-others v b f cs l) (or_parts (breaks_out b) (a_case_breaks cs) h).1 e)

StatementRuns-SomeTailFalls : {n selector : ℕ} {cases : Cases} {answers : List ℕ} {r : Run} → StatementRuns n (switch selector cases) answers r →
    has_exit cases ≡ false → r.ending ≡ Normal → SomeTailFalls cases
StatementRuns-SomeTailFalls unselected h e = absurd (cc)
StatementRuns-SomeTailFalls (selects {answer = answer} {cases = cases} d) h e =
    let parts = has_exit-false cases h in
    CasesRun-from-SomeTailFalls (entered (values cases) answer) cases d (entered-within (values cases) answer parts.0) parts.1 parts.2 e

-- a run completes a switch without an exit only if it falls off the end of a tail block in it
pub has_exit-tails : (turns selector : ℕ) (cases : Cases) (answers : List ℕ) (run : Run) → has_exit cases ≡ false →
    StatementRuns turns (switch selector cases) answers run → run.ending ≡ Normal → SomeTailFalls cases
has_exit-tails turns selector cases answers run h d e = StatementRuns-SomeTailFalls d h e
