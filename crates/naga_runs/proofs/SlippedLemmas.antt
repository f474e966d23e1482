-- Only a normal ending is slipped, rule by rule.
use Rattle.std.proofs.Common.{◌≡◌, ℕ, true, List, Option, refl}
use Rattle.naga_ir.specs.Tree.{Tree, Node, Cases}
use Rattle.naga_runs.specs.Runs.{Run, Asks, not_asked, unanswered, says_no, says_yes, BlockRuns, nothing, goes_on, stops, StatementRuns, meets, jumps, enters, rejects, accepts, selects, loops, CasesRun, past, falls, broken, ends, passed_on, LoopRuns, no_turn, again, left, over, TurnRuns, in_body, in_continuing, whole, undecided, unselected}
use Rattle.naga_runs.specs.declared.run.Ending.TheVariants.{Normal}

Asks-slipped : {break_if : Option ℕ} {answers : List ℕ} {run : Run} → Asks break_if answers run → run.slipped ≡ true → run.ending ≡ Normal
Asks-slipped not_asked q = refl
Asks-slipped unanswered q = cc
Asks-slipped says_no q = refl
Asks-slipped says_yes q = cc

mutual
  pub BlockRuns-slipped : {n : ℕ} {b : Tree} {answers : List ℕ} {run : Run} → BlockRuns n b answers run → run.slipped ≡ true → run.ending ≡ Normal
  BlockRuns-slipped nothing q = refl
  BlockRuns-slipped (goes_on d e k) q = StatementRuns-slipped k q
  BlockRuns-slipped (stops d e) q = BlockRuns-slipped d q

  StatementRuns-slipped : {n : ℕ} {s : Node} {answers : List ℕ} {run : Run} → StatementRuns n s answers run → run.slipped ≡ true → run.ending ≡ Normal
  StatementRuns-slipped meets q = refl
  StatementRuns-slipped jumps q = cc
  StatementRuns-slipped (enters d) q = BlockRuns-slipped d q
  StatementRuns-slipped undecided q = cc
  StatementRuns-slipped (rejects d) q = BlockRuns-slipped d q
  StatementRuns-slipped (accepts d) q = BlockRuns-slipped d q
  StatementRuns-slipped unselected q = cc
  StatementRuns-slipped (selects d) q = CasesRun-slipped d q
  StatementRuns-slipped (loops d) q = LoopRuns-slipped d q

  CasesRun-slipped : {n : ℕ} {cases : Cases} {answers : List ℕ} {run : Run} → CasesRun n cases answers run → run.slipped ≡ true → run.ending ≡ Normal
  CasesRun-slipped past q = refl
  CasesRun-slipped (falls d e k) q = CasesRun-slipped k q
  CasesRun-slipped (broken d e) q = refl
  CasesRun-slipped (ends d e) q = BlockRuns-slipped d q
  CasesRun-slipped (passed_on d e k) q = BlockRuns-slipped d q

  LoopRuns-slipped : {n others : ℕ} {b c : Tree} {break_if : Option ℕ} {answers : List ℕ} {run : Run} → LoopRuns n others b c break_if answers run → run.slipped ≡ true → run.ending ≡ Normal
  LoopRuns-slipped no_turn q = cc
  LoopRuns-slipped (again d e k) q = LoopRuns-slipped k q
  LoopRuns-slipped (left d e) q = refl
  LoopRuns-slipped (over d e k) q = TurnRuns-slipped d q

  TurnRuns-slipped : {n : ℕ} {b c : Tree} {break_if : Option ℕ} {answers : List ℕ} {run : Run} → TurnRuns n b c break_if answers run → run.slipped ≡ true → run.ending ≡ Normal
  TurnRuns-slipped (in_body d e) q = BlockRuns-slipped d q
  TurnRuns-slipped (in_continuing d e k h) q = BlockRuns-slipped k q
  TurnRuns-slipped (whole d e k h t) q = Asks-slipped t q
