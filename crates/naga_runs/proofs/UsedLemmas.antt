-- A run reads no more answers than it uses, rule by rule.
use Rattle.std.proofs.Common.{◌≡◌, ℕ, suc, ◌+◌, true, List, [], ◌∷◌, take, drop, Option, Some, sym, subst, add_assoc, add-zero, arith}
use Rattle.std.proofs.Math.Seq.{take-nil}
use Rattle.std.proofs.lemmas.List.{drop-take}
use Rattle.naga_ir.specs.Tree.{Tree, push, Node, branch, switch, Cases, case}
use Rattle.naga_runs.specs.Runs.{Run, quiet, answered, joined, Asks, not_asked, unanswered, says_no, says_yes, BlockRuns, nothing, goes_on, stops, StatementRuns, meets, jumps, enters, rejects, accepts, selects, loops, CasesRun, past, falls, broken, ends, passed_on, LoopRuns, no_turn, again, left, over, TurnRuns, in_body, in_continuing, whole, undecided, unselected}
use Rattle.naga_runs.specs.declared.run.Ending.TheVariants.{Normal, Break, Cut}

-- a property of the answers that two parts use, one after the other, and some more answers; the sum is regrouped
take-of_parts : (P : List ℕ → Type 0) (first second more : ℕ) (answers : List ℕ) → P (take (first + (second + more)) answers) → P (take (first + second + more) answers)
take-of_parts P first second more answers d =
    subst (λ k. P (take k answers)) (sym (add_assoc first second more)) d

-- the same for the answers that the first part left
drop-of_rest : (P : List ℕ → Type 0) (first more : ℕ) (answers : List ℕ) → P (take more (drop first answers)) → P (drop first (take (first + more) answers))
drop-of_rest P first more answers d = subst P (sym (drop-take first more answers)) d

take-of_none : (P : List ℕ → Type 0) (k : ℕ) → P [] → P (take k [])
take-of_none P k d = subst P (sym (take-nil k)) d

take-of_one : (P : List ℕ → Type 0) (used more answer : ℕ) (answers : List ℕ) → P (answer ∷ take (used + more) answers) → P (take (suc used + more) (answer ∷ answers))
take-of_one P used more answer answers d =
    let e : suc (used + more) ≡ suc used + more = omega arith in
    subst (λ k. P (take k (answer ∷ answers))) e d

Asks-used : {break_if : Option ℕ} {answers : List ℕ} {run : Run} → Asks break_if answers run → (more : ℕ) → Asks break_if (take (run.used + more) answers) run
Asks-used not_asked more = not_asked
Asks-used (unanswered {condition = i}) more = take-of_none (λ l. Asks (Some i) l (quiet Cut)) _ unanswered
Asks-used (says_no {condition = i} {answers = a}) more =
    take-of_one (λ l. Asks (Some i) l (answered (quiet Normal))) 0 more 0 a says_no
Asks-used (says_yes {condition = i} {answer = x} {answers = a}) more =
    take-of_one (λ l. Asks (Some i) l (answered (quiet Break))) 0 more (suc x) a says_yes

mutual
  BlockRuns-used : {n : ℕ} {b : Tree} {answers : List ℕ} {run : Run} → BlockRuns n b answers run → (more : ℕ) → BlockRuns n b (take (run.used + more) answers) run
  BlockRuns-used nothing more = nothing
  BlockRuns-used {n = n} (goes_on {front = b} {last = s} {span = p} {answers = a} {first = f} {second = g} d e k) more =
      take-of_parts (λ l. BlockRuns n (push b s p) l (joined f g)) f.used g.used more a
      (goes_on (BlockRuns-used d (g.used + more)) e
      (drop-of_rest (λ l. StatementRuns n s l g) f.used (g.used + more) a (StatementRuns-used k more)))
  BlockRuns-used (stops d e) more = stops (BlockRuns-used d more) e

  StatementRuns-used : {n : ℕ} {s : Node} {answers : List ℕ} {run : Run} → StatementRuns n s answers run → (more : ℕ) → StatementRuns n s (take (run.used + more) answers) run
  StatementRuns-used meets more = meets
  StatementRuns-used jumps more = jumps
  StatementRuns-used (enters d) more = enters (BlockRuns-used d more)
  StatementRuns-used {n = n} (undecided {condition = c} {accept = x} {reject = y}) more =
      take-of_none (λ l. StatementRuns n (branch c x y) l (quiet Cut)) _ undecided
  StatementRuns-used {n = n} (rejects {condition = c} {accept = x} {reject = y} {answers = a} {run = r} d) more =
      take-of_one (λ l. StatementRuns n (branch c x y) l (answered r)) r.used more 0 a (rejects (BlockRuns-used d more))
  StatementRuns-used {n = n} (accepts {condition = c} {answer = k} {accept = x} {reject = y} {answers = a} {run = r} d) more =
      take-of_one (λ l. StatementRuns n (branch c x y) l (answered r)) r.used more (suc k) a (accepts (BlockRuns-used d more))
  StatementRuns-used {n = n} (unselected {selector = c} {cases = cs}) more =
      take-of_none (λ l. StatementRuns n (switch c cs) l (quiet Cut)) _ unselected
  StatementRuns-used {n = n} (selects {selector = c} {answer = k} {cases = cs} {answers = a} {run = r} d) more =
      take-of_one (λ l. StatementRuns n (switch c cs) l (answered r)) r.used more k a (selects (CasesRun-used d more))
  StatementRuns-used (loops d) more = loops (LoopRuns-used d more)

  CasesRun-used : {n : ℕ} {cases : Cases} {answers : List ℕ} {run : Run} → CasesRun n cases answers run → (more : ℕ) → CasesRun n cases (take (run.used + more) answers) run
  CasesRun-used past more = past
  CasesRun-used {n = n} (falls {value = v} {body = b} {others = cs} {answers = a} {first = f} {second = g} d e k) more =
      take-of_parts (λ l. CasesRun n (case v b true cs) l (joined f g)) f.used g.used more a
      (falls (BlockRuns-used d (g.used + more)) e
      (drop-of_rest (λ l. CasesRun n cs l g) f.used (g.used + more) a (CasesRun-used k more)))
  CasesRun-used (broken d e) more = broken (BlockRuns-used d more) e
  CasesRun-used (ends d e) more = ends (BlockRuns-used d more) e
  CasesRun-used (passed_on d e k) more = passed_on (BlockRuns-used d more) e k

  LoopRuns-used : {n others : ℕ} {b c : Tree} {break_if : Option ℕ} {answers : List ℕ} {run : Run} → LoopRuns n others b c break_if answers run → (more : ℕ) → LoopRuns n others b c break_if (take (run.used + more) answers) run
  LoopRuns-used no_turn more = no_turn
  LoopRuns-used {n = n} (again {others = k} {body = b} {continuing = c} {break_if = i} {answers = a} {first = f} {second = g} d e h) more =
      take-of_parts (λ l. LoopRuns n (suc k) b c i l (joined f g)) f.used g.used more a
      (again (TurnRuns-used d (g.used + more)) e
      (drop-of_rest (λ l. LoopRuns n k b c i l g) f.used (g.used + more) a (LoopRuns-used h more)))
  LoopRuns-used (left d e) more = left (TurnRuns-used d more) e
  LoopRuns-used (over d e k) more = over (TurnRuns-used d more) e k

  TurnRuns-used : {n : ℕ} {b c : Tree} {break_if : Option ℕ} {answers : List ℕ} {run : Run} → TurnRuns n b c break_if answers run → (more : ℕ) → TurnRuns n b c break_if (take (run.used + more) answers) run
  TurnRuns-used (in_body d e) more = in_body (BlockRuns-used d more) e
  TurnRuns-used {n = n} (in_continuing {body = b} {continuing = c} {break_if = i} {answers = a} {first = f} {second = g} d e k h) more =
      take-of_parts (λ l. TurnRuns n b c i l (joined f g)) f.used g.used more a
      (in_continuing (BlockRuns-used d (g.used + more)) e
      (drop-of_rest (λ l. BlockRuns n c l g) f.used (g.used + more) a (BlockRuns-used k more)) h)
  TurnRuns-used {n = n} (whole {body = b} {continuing = c} {break_if = i} {answers = a} {first = f} {second = g} {third = q} d e k h t) more =
      take-of_parts (λ l. TurnRuns n b c i l (joined f (joined g q))) f.used (g.used + q.used) more a
      (whole (BlockRuns-used d (g.used + q.used + more)) e
      (drop-of_rest (λ l. BlockRuns n c l g) f.used (g.used + q.used + more) a
      (take-of_parts (λ l. BlockRuns n c l g) g.used q.used more (drop f.used a) (BlockRuns-used k (q.used + more)))) h
      (drop-of_rest (λ l. Asks i (drop g.used l) q) f.used (g.used + q.used + more) a
      (take-of_parts (λ l. Asks i (drop g.used l) q) g.used q.used more (drop f.used a)
      (drop-of_rest (λ l. Asks i l q) g.used (q.used + more) (drop f.used a) (Asks-used t more)))))

pub BlockRuns-unused_answers : (n : ℕ) (b : Tree) (answers : List ℕ) (run : Run) → BlockRuns n b answers run → BlockRuns n b (take run.used answers) run
BlockRuns-unused_answers n b answers run d =
    subst (λ k. BlockRuns n b (take k answers) run) (add-zero run.used) (BlockRuns-used d 0)
